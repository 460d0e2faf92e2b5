-- A window from one offset to the same: it sees one time, and none of its steps counts once it reaches past what they give.
use Rattle.std.proofs.Common.{◌≡◌, inl, inr, List, [], ◌∷◌, true, false, refl, sym, subst, ◌∙◌}
use Rattle.rational.specs.Time.{Rational, ◌≈◌, ◌≤ʳ◌, add, whole}
use Rattle.rational.specs.Extended.{Affine}
use Rattle.rational.specs.Places.{Place, After, Before}
use Rattle.rational.proofs.Order.{ge_of_same, le_of_lt, le_of_same, lt_of_le_of_lt, lt_of_lt_of_le, not_lt_of_le, same_of_le, same_refl}
use Rattle.rational.proofs.PlaceLemmas.{after_at_most, at_most_of_not_before, between, not_both}
use Rattle.value_laws.specs.Members.{ShapeOf}
use Rattle.pl_signal.specs.declared.joining.Side.{Side}
use Rattle.pieces.specs.declared.piece.Piece.{Piece}
use Rattle.pieces.specs.declared.reach.Reach.{Reach}
use Rattle.pieces.specs.declared.reach.Way.{Way}
use Rattle.pieces.specs.declared.sliding.Sliding.{Sliding}
use Rattle.pieces.specs.declared.steps.Step.{Step}
use Rattle.pieces.specs.Best.{GetsNoWorse}
use Rattle.pieces.specs.Chains.{Chain, end, stop}
use Rattle.pieces.specs.Steps.{AreSteps, StepsGive, step_end, steps_end}
use Rattle.pieces.specs.Windows.{HasEntered, Keeps, MayClimb, Sees, Stands, high_place, low_place}
use Rattle.pieces.proofs.Ends.{after_le, upto_le}
use Rattle.pieces.proofs.StepLemmas.{gives_some}

-- it sees no time but that of its high end
pub sees_one : (over : Reach) (t u : Rational) → over.low ≡ over.high → Sees over t u → u ≈ add t (whole over.high)
sees_one over t u one (l, h) = same_of_le (upto_le (high_place over.high over.high_in t) u h)
    (subst (λ k. add t (whole k) ≤ʳ u) one (after_le (low_place over.low over.low_in t) u l))

-- no place lies between its ends
pub one_clash : (over : Reach) (t : Rational) (c : Place) → over.low ≡ over.high → Before (low_place over.low over.low_in t) c
    → Before c (high_place over.high over.high_in t) → ⊥
one_clash over t c one l h = by_ends l h
  where
    at : add t (whole over.low) ≈ add t (whole over.high)
    at = subst (λ k. add t (whole over.low) ≈ add t (whole k)) one (same_refl (add t (whole over.low)))

    by_ends : Before (low_place over.low over.low_in t) c → Before c (high_place over.high over.high_in t) → ⊥
    by_ends (inl a) (inl b) = not_lt_of_le (ge_of_same at) (lt_of_lt_of_le a (le_of_lt b))
    by_ends (inl a) (inr (s, x, y)) = not_lt_of_le (ge_of_same at) (lt_of_lt_of_le a (le_of_same s))
    by_ends (inr (s, x, y)) (inl b) = not_lt_of_le (ge_of_same at) (lt_of_le_of_lt (le_of_same s) b)
    by_ends (inr (s, x, y)) (inr (r, z, w)) = let clash : true ≡ false = sym y ∙ z in cc

-- what a window of more times may climb gets no worse
pub no_worse_climbed : (over : Reach) (side : Side) (f : Affine) → MayClimb over side f → ¬ (over.low ≡ over.high) → GetsNoWorse side f
no_worse_climbed over side f (inl h) n = h
no_worse_climbed over side f (inr one) n = absurd (n one)

module _ {P : Type 0} (shape : ShapeOf P) (chain : Chain P) (way : Way) (one : way.over.low ≡ way.over.high) where
  -- once it reaches past the place before which its steps count, there is none
  pub no_steps : (met reach c : Place) (s : Sliding P) → Keeps shape chain way met reach c s → HasEntered shape chain way c s → s.steps.items ≡ []
  no_steps met reach c s keeps entered = by_steps s.steps.items refl
    where
      clash : (x : Step P) (xs : List (Step P)) → s.steps.items ≡ x ∷ xs → ⊥
      clash x xs is =
          let (t, a, u) = between (stop s.out) (step_end x) (subst (AreSteps shape way.side (stop s.out)) is keeps.steps).0.later in
          let (v, g) = gives_some shape way.side x t in
          let seen = keeps.sees t v (subst (λ ys. StepsGive shape way.side (stop s.out) ys t v) (sym is) (inl (a, u, g))) in
          one_clash way.over t c one seen.0 (entered t a seen.1)

      by_steps : (xs : List (Step P)) → s.steps.items ≡ xs → s.steps.items ≡ []
      by_steps [] is = is
      by_steps (x ∷ xs) is = absurd (clash x xs is)

  -- it has met a piece once it reaches past its end
  pub stands_one : (c : Place) (p : Piece P) (s : Sliding P) → Keeps shape chain way c (end p) c s → s.steps.items ≡ []
      → HasEntered shape chain way (end p) s → Stands shape chain way (end p) (end p) s
  stands_one c p s keeps none entered = record {
    normal = keeps.normal;
    on = keeps.on;
    upto = keeps.upto;
    told = keeps.told;
    steps = keeps.steps;
    gives = λ t v g. absurd (subst (λ xs. StepsGive shape way.side (stop s.out) xs t v) none g);
    sees = λ t v g. absurd (subst (λ xs. StepsGive shape way.side (stop s.out) xs t v) none g);
    none = λ t a u x y see before k. not_both (end p) x before (after_at_most (end p) (low_place way.over.low way.over.low_in t) x
        (at_most_of_not_before (end p) (low_place way.over.low way.over.low_in t) (λ l. one_clash way.over t (end p) one l
        (entered t (subst (λ xs. After (steps_end (stop s.out) xs) t) none a) u))) see.0);
    reached = keeps.reached;
  }
