use Rattle.std.proofs.Common.{◌^◌, inl, inr, List, [], ◌∷◌, refl, subst}
use Rattle.rational.specs.Rational.{IsWithin}
use Rattle.rational.specs.Time.{Rational}
use Rattle.rational.specs.Extended.{value_at}
use Rattle.rational.specs.Affine.{IsBounded}
use Rattle.rational.proofs.AffineLemmas.{bounded_same}
use Rattle.rational.proofs.Bounds.{HasBounded}
use Rattle.value_laws.specs.Members.{ShapeOf}
use Rattle.pl_signal.specs.declared.knot.Knot.{Knot}
use Rattle.pl_signal.specs.Knots.{IsWorth}
use Rattle.pl_signal.proofs.Limits.{limited}
use Rattle.conformance_numbers.proofs.signals.is_limited.Goals as goal

small_values : {P : Type 0} (shape : ShapeOf P) → ((x : P) (t : Rational) → IsBounded (2 ^ 31) (value_at (shape.function x) t)) → (ks : List (Knot P))
    → HasBounded (2 ^ 31) (IsWorth shape ks)
small_values shape small [] t v w = absurd w
small_values shape small (k ∷ ks) t v (inl w) = bounded_same (2 ^ 31) v (value_at (shape.function k.point) t) w.worth (small k.point t)
small_values shape small (k ∷ []) t v (inr (inl w)) = absurd w
small_values shape small (k ∷ n ∷ ks) t v (inr (inl w)) = bounded_same (2 ^ 31) v (value_at (shape.function k.after) t) w.worth (small k.after t)
small_values shape small (k ∷ ks) t v (inr (inr w)) = small_values shape small ks t v w

pub returns : goal.returns
returns g c = λ h. limited g.P.Shape c.args.s.now c.start.ensures.signal (small_values g.P.Shape c.requires c.args.s.now)
    (subst (IsWithin (2 ^ 34)) c.start.ensures.value (c.if-not-is_near.ensures refl))
    (subst (IsWithin (2 ^ 34)) c.stop.ensures.value (c.if-not-is_near-2.ensures refl))
