use Rattle.std.proofs.Common.{inl, inr, subst, sym, ◌^◌}
use Rattle.rational.specs.Rational.{IsWithin}
use Rattle.rational.proofs.PlaceLemmas.{before_of_at_most, before_at_most, after_at_most, room_of_before}
use Rattle.frac128.specs.Value.{value}
use Rattle.frac128.specs.Cuts.{place}
use Rattle.growing_sets.proofs.MakingLemmas.{in_hull}
use Rattle.growing_sets.proofs.StretchLemmas.{rises}
use Rattle.growing_sets.proofs.stretch.Stretch.hull.Goals as goal

pub invariant_of-result : goal.invariant_of-result
invariant_of-result c = record {
  not_empty = room_of_before (place c.earlier.result) (place c.later.result)
      (before_of_at_most (place c.earlier.result) (place c.args.self.now.from) (place c.later.result) c.earlier.ensures.first
      (before_at_most (place c.args.self.now.from) (place c.args.self.now.to) (place c.later.result) (rises c.args.self.now) c.later.ensures.first));
  low = elim c.earlier.ensures.one [
    | inl e ↦ subst (λ x. IsWithin (2 ^ 34) (value x.time)) (sym e) c.args.self.now.low
    | inr e ↦ subst (λ x. IsWithin (2 ^ 34) (value x.time)) (sym e) c.args.other.now.low
  ];
  high = elim c.later.ensures.one [
    | inl e ↦ subst (λ x. IsWithin (2 ^ 34) (value x.time)) (sym e) c.args.self.now.high
    | inr e ↦ subst (λ x. IsWithin (2 ^ 34) (value x.time)) (sym e) c.args.other.now.high
  ];
}

pub returns-clause-holds : goal.returns-clause-holds
returns-clause-holds c t = (
  λ h. in_hull c.args.self.now c.args.other.now c.earlier.result c.later.result t c.earlier.ensures.one c.later.ensures.one c.requires.first
      c.requires.second h.0 h.1,
  λ h. elim h [
    | inl k ↦ (after_at_most (place c.earlier.result) (place c.args.self.now.from) t c.earlier.ensures.first k.0, c.later.ensures.first t k.1)
    | inr k ↦ (after_at_most (place c.earlier.result) (place c.args.other.now.from) t c.earlier.ensures.second k.0, c.later.ensures.second t k.1)
  ],
)
