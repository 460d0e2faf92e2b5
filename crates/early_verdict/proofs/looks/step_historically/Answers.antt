use Rattle.growing_sets.specs.Spans.{IsOn}
use Rattle.early_verdict.specs.Readings.{SomeBehind, OnlyBehind}
use Rattle.early_verdict.proofs.SetsTell.{stepped_by, told_both}
use Rattle.early_verdict.proofs.LookLemmas.{one_step, back_step}
use Rattle.early_verdict.proofs.FirstSets.{yes_can}
use Rattle.early_verdict.proofs.looks.step_historically.Goals as goal

pub returns-clause-fits : goal.returns-clause-fits
returns-clause-fits c = λ old tr p a b a_in b_in is h had w.
    let e = c.args.entry.now in
    let s = c.args.own.now in
    let x = c.args.p.now in
    let told = told_both old s (λ o. OnlyBehind o a b a_in b_in (IsOn p.yes)) (λ o. SomeBehind o a b a_in b_in (IsOn p.no)) w in
    record {
      no = one_step e tr old h c.args.w.now a b a_in b_in is p.no x.no s.no c.some.new.self had.no told.1
          (c.in_ok-some.ensures.tells p.no had.no.gains);
      yes = back_step e tr old h c.args.w.now a b a_in b_in is p.yes x.yes.spans.items s.yes c.each_open.new.own told.0
          (c.in_ok-each_open.ensures.tells old tr p.yes h had.yes.gains had.yes.first);
    }

pub some-requires : goal.some-requires
some-requires c = c.requires.own.tidy.no

pub each_open-requires : goal.each_open-requires
each_open-requires c = record { own = yes_can c.requires.own; input = c.requires.operand.yes }

pub returns-clause-stepped : goal.returns-clause-stepped
returns-clause-stepped c =
    let y = c.in_ok-each_open.ensures in
    let n = c.in_ok-some.ensures in
    stepped_by c.args.own.now c.each_open.new.own c.some.new.self c.requires.own.tidy (y.tidy, y.bounds, y.gains) (n.tidy, n.bounds, n.gains)
