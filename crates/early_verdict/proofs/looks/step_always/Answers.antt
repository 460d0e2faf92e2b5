use Rattle.std.proofs.Common.{false}
use Rattle.growing_sets.specs.Spans.{IsOn}
use Rattle.early_verdict.specs.Readings.{SomeAhead, OnlyAhead}
use Rattle.early_verdict.proofs.SetsTell.{stepped_by, told_both}
use Rattle.early_verdict.proofs.LookLemmas.{sure_step, only_step}
use Rattle.early_verdict.proofs.FirstSets.{yes_can}
use Rattle.early_verdict.proofs.looks.step_always.Goals as goal

pub returns-clause-fits : goal.returns-clause-fits
returns-clause-fits c = λ old tr p a b a_in b_in is h had w.
    let e = c.args.entry.now in
    let s = c.args.own.now in
    let x = c.args.p.now in
    let told = told_both old s (λ o. OnlyAhead false o a b a_in b_in (IsOn p.yes)) (λ o. SomeAhead o a b a_in b_in (IsOn p.no)) w in
    record {
      no = sure_step e tr old h c.args.w.now a b a_in b_in is p.no x.no s.no c.some_sure.new.self had.no told.1
          (c.in_ok-some_sure.ensures.tells p.no had.no.gains);
      yes = only_step e tr old h e.ended c.args.w.now a b a_in b_in is p.yes x.yes.spans.items s.yes c.each_ahead.new.own told.0
          (c.in_ok-each_ahead.ensures.tells old tr p.yes h had.yes.gains had.yes.first);
    }

pub some_sure-requires : goal.some_sure-requires
some_sure-requires c = record { own = c.requires.own.tidy.no; input = c.requires.operand.no; order = c.requires.own.entry.order }

pub each_ahead-requires : goal.each_ahead-requires
each_ahead-requires c = record { own = yes_can c.requires.own; input = c.requires.operand.yes }

pub returns-clause-stepped : goal.returns-clause-stepped
returns-clause-stepped c =
    let y = c.in_ok-each_ahead.ensures in
    let n = c.in_ok-some_sure.ensures in
    stepped_by c.args.own.now c.each_ahead.new.own c.some_sure.new.self c.requires.own.tidy (y.tidy, y.bounds, y.gains) (n.tidy, n.bounds, n.gains)
