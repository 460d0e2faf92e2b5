use Rattle.std.proofs.Common.{◌-◌, sym, subst, length, pos, arith}
use Rattle.rational.specs.Time.{whole}
use Rattle.growing_sets.specs.Spans.{IsOn}
use Rattle.early_verdict.specs.Fitting.{Lists}
use Rattle.early_verdict.proofs.AllSets.{lists_are}
use Rattle.early_verdict.proofs.Places.{item_at}
use Rattle.early_verdict.proofs.entries.root_verdict.Goals as goal

pub has_tick-requires : goal.has_tick-requires
has_tick-requires c =
    let k = length c.args.sets.now - 1 in
    (c.requires.tidy k c.index-sets-sets.result (item_at c.args.sets.now k c.index-sets-sets.result (omega (arith, c.requires.some)) c.index-sets-sets.is)).yes

pub has_tick-requires-2 : goal.has_tick-requires-2
has_tick-requires-2 c =
    let k = length c.args.sets.now - 1 in
    (c.requires.tidy k c.index-sets-sets.result (item_at c.args.sets.now k c.index-sets-sets.result (omega (arith, c.requires.some)) c.index-sets-sets.is)).no

pub returns-then-has_tick : goal.returns-then-has_tick
returns-then-has_tick c =
    let k = length c.args.sets.now - 1 in
    let s = c.index-sets-sets.result in
    subst (λ (l : Lists). IsOn l.yes (whole (pos c.args.start)))
    (sym (lists_are c.args.sets.now k s (item_at c.args.sets.now k s (omega (arith, c.requires.some)) c.index-sets-sets.is)))
    (c.has_tick.ensures.0 c.if-has_tick.true)

pub returns-then-has_tick-2 : goal.returns-then-has_tick-2
returns-then-has_tick-2 c =
    let k = length c.args.sets.now - 1 in
    let s = c.index-sets-sets.result in
    subst (λ (l : Lists). IsOn l.no (whole (pos c.args.start)))
    (sym (lists_are c.args.sets.now k s (item_at c.args.sets.now k s (omega (arith, c.requires.some)) c.index-sets-sets.is)))
    (c.has_tick-2.ensures.0 c.if-has_tick-2.true)

pub returns : goal.returns
returns c =
    let k = length c.args.sets.now - 1 in
    let s = c.index-sets-sets.result in
    let e = lists_are c.args.sets.now k s (item_at c.args.sets.now k s (omega (arith, c.requires.some)) c.index-sets-sets.is) in (
      λ o. let t = c.has_tick.ensures.1 (subst (λ (l : Lists). IsOn l.yes (whole (pos c.args.start))) e o) in let f = c.if-has_tick.false in cc,
      λ o. let t = c.has_tick-2.ensures.1 (subst (λ (l : Lists). IsOn l.no (whole (pos c.args.start))) e o) in let f = c.if-has_tick-2.false in cc,
    )
