use Rattle.std.proofs.Common.{false}
use Rattle.growing_sets.specs.Spans.{IsOn}
use Rattle.early_verdict.specs.Readings.{SomeAhead, OnlyAhead}
use Rattle.early_verdict.proofs.SetsTell.{stepped_by, told_both}
use Rattle.early_verdict.proofs.LookLemmas.{sure_step, only_step}
use Rattle.early_verdict.proofs.FirstSets.{no_can}
use Rattle.early_verdict.proofs.looks.step_eventually.Goals as goal

pub returns-clause-fits : goal.returns-clause-fits
returns-clause-fits c = λ old tr p a b a_in b_in is h had w.
    let e = c.args.entry.now in
    let s = c.args.own.now in
    let x = c.args.p.now in
    let told = told_both old s (λ o. SomeAhead o a b a_in b_in (IsOn p.yes)) (λ o. OnlyAhead false o a b a_in b_in (IsOn p.no)) w in
    record {
      yes = sure_step e tr old h c.args.w.now a b a_in b_in is p.yes x.yes s.yes c.some_sure.new.self had.yes told.0
          (c.in_ok-some_sure.ensures.tells p.yes had.yes.gains);
      no = only_step e tr old h e.ended c.args.w.now a b a_in b_in is p.no x.no.spans.items s.no c.each_ahead.new.own told.1
          (c.in_ok-each_ahead.ensures.tells old tr p.no h had.no.gains had.no.first);
    }

pub some_sure-requires : goal.some_sure-requires
some_sure-requires c = record { own = c.requires.own.tidy.yes; input = c.requires.operand.yes; order = c.requires.own.entry.order }

pub each_ahead-requires : goal.each_ahead-requires
each_ahead-requires c = record { own = no_can c.requires.own; input = c.requires.operand.no }

pub returns-clause-stepped : goal.returns-clause-stepped
returns-clause-stepped c =
    let y = c.in_ok-some_sure.ensures in
    let n = c.in_ok-each_ahead.ensures in
    stepped_by c.args.own.now c.some_sure.new.self c.each_ahead.new.own c.requires.own.tidy (y.tidy, y.bounds, y.gains) (n.tidy, n.bounds, n.gains)
