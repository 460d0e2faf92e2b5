-- The steps of a signal, by its knots.
use Rattle.std.proofs.Common.{◌≡◌, ℕ, suc, zero, ◌+◌, ◌<◌, List, [], ◌∷◌, length, refl, ap, subst, arith, Some}
use Rattle.std.specs.Prelude.{slice_get}
use Rattle.std.proofs.lemmas.Option.{same_Some}
use Rattle.rational.specs.Knots.{last_knot}
use Rattle.value_laws.specs.Members.{ShapeOf}
use Rattle.pl_signal.specs.declared.knot.Knot.{Knot}
use Rattle.pl_signal.specs.Plain.{plain_knot, plain_piece, knots_of}
use Rattle.answer_lines.specs.Steps.{step, steps_of}

module _ {P : Type 0} (shape : ShapeOf P) where
  -- the step at a place is that of the knots there
  pub step_at : (ks : List (Knot P)) (i : ℕ) (a b : Knot P) → slice_get ks i ≡ Some a → slice_get ks (suc i) ≡ Some b
      → slice_get (steps_of (knots_of shape ks)) i ≡ Some (step (plain_knot shape a) (plain_piece shape a b))
  step_at [] i a b h k = absurd (let e = h in cc)
  step_at (x ∷ []) i a b h k = absurd (let e = k in cc)
  step_at (x ∷ y ∷ ks) zero a b h k =
      subst (λ z. Some (step (plain_knot shape x) (plain_piece shape x y)) ≡ Some (step (plain_knot shape z) (plain_piece shape z b))) (same_Some _ _ h)
      (subst (λ z. Some (step (plain_knot shape x) (plain_piece shape x y)) ≡ Some (step (plain_knot shape x) (plain_piece shape x z))) (same_Some _ _ k) refl)
  step_at (x ∷ y ∷ ks) (suc i) a b h k = step_at (y ∷ ks) i a b h k

  -- one step less than knots
  pub length_steps : (k : Knot P) (ks : List (Knot P)) → length (steps_of (knots_of shape (k ∷ ks))) ≡ length ks
  length_steps k [] = refl
  length_steps k (n ∷ ks) = ap suc (length_steps n ks)

  -- and a signal has a knot
  pub steps_fewer : (ks : List (Knot P)) → 0 < length ks → length (steps_of (knots_of shape ks)) + 1 ≡ length ks
  steps_fewer [] some = absurd (omega (arith, some))
  steps_fewer (k ∷ ks) some = omega (arith, length_steps k ks)

  -- the last knot
  pub last_is : (ks : List (Knot P)) (i : ℕ) (k : Knot P) → suc i ≡ length ks → slice_get ks i ≡ Some k
      → last_knot (knots_of shape ks).first (knots_of shape ks).pieces ≡ plain_knot shape k
  last_is (x ∷ []) zero k e h = ap (plain_knot shape) (same_Some _ _ h)
  last_is (x ∷ y ∷ ks) (suc i) k e h = last_is (y ∷ ks) i k (omega (arith, e)) h
  last_is _ _ k e h = absurd (omega (arith, e))
