use Rattle.std.proofs.Common.{◌^◌}
use Rattle.frac128.specs.Cuts.{place}
use Rattle.rational.proofs.PlaceLemmas.{before_through, after_at_most, room_of_before}
use Rattle.growing_sets.proofs.MakingLemmas.{after_one, upto_one, near_between}
use Rattle.growing_sets.proofs.stretch.Stretch.make.Goals as goal

pub returns-then-not-precedes-clause-none : goal.returns-then-not-precedes-clause-none
returns-then-not-precedes-clause-none c t a u b =
    let x = c.precedes.ensures.1 (before_through (place c.later-from.result) (place c.earlier-to.result) t
    (after_one c.args.from c.args.bounds.now.from c.later-from.result t c.later-from.ensures.one a b.0)
    (upto_one c.args.to c.args.bounds.now.to c.earlier-to.result t c.earlier-to.ensures.one u b.1)) in
    let y = c.if-not-precedes.true in
    cc

pub invariant_of-result : goal.invariant_of-result
invariant_of-result c =
    let b = c.precedes.ensures.0 c.if-not-precedes.false in
    let n = near_between (2 ^ 34) (place c.later-from.result) (place c.earlier-to.result) (place c.args.bounds.now.from) (place c.args.bounds.now.to)
    c.later-from.ensures.second b c.earlier-to.ensures.second c.args.bounds.now.low c.args.bounds.now.high in
    record {
      not_empty = room_of_before (place c.later-from.result) (place c.earlier-to.result) b;
      low = n.0;
      high = n.1;
    }

pub returns-clause-some : goal.returns-clause-some
returns-clause-some c t = (
  λ h. (
    after_at_most (place c.args.from) (place c.later-from.result) t c.later-from.ensures.first h.0,
    c.earlier-to.ensures.first t h.1,
    (
      after_at_most (place c.args.bounds.now.from) (place c.later-from.result) t c.later-from.ensures.second h.0,
      c.earlier-to.ensures.second t h.1,
    ),
  ),
  λ h. (
    after_one c.args.from c.args.bounds.now.from c.later-from.result t c.later-from.ensures.one h.0 h.2.0,
    upto_one c.args.to c.args.bounds.now.to c.earlier-to.result t c.earlier-to.ensures.one h.1 h.2.1,
  ),
)
