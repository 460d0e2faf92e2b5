-- A window goes on in a later turn, over what its input has given out by then.
use Rattle.std.proofs.Common.{◌≡◌, ◌⊎◌, inl, inr, ℕ, Bool, true, false, List, [], ◌∷◌, ◌++◌, refl, sym, subst, arith, Some, None, ℤ, pos, ◌+ℤ◌, ◌<ℤ◌}
use Rattle.std.specs.Prelude.{MatchBool, int_lt, cond}
use Rattle.std.proofs.lemmas.Int.{ints}
use Rattle.rational.specs.Rational.{whole}
use Rattle.rational.specs.Time.{◌≈◌, ◌≤ʳ◌, ◌<ʳ◌}
use Rattle.rational.specs.Places.{Place, Same}
use Rattle.rational.specs.Windows.{Function}
use Rattle.rational.proofs.Order.{le_of_same, le_trans, not_lt_of_le}
use Rattle.rational.proofs.Shift.{lt_whole}
use Rattle.rational.proofs.Tests.{int_order}
use Rattle.pieces.specs.Streaming.{before_time}
use Rattle.online_robust.specs.Slides.{AreFrom, AreToCome, last_place}
use Rattle.online_robust.specs.Steps.{AreInputs, IsInput, back_of}
use Rattle.online_robust.specs.Told.{AreFit, AreTold}
use Rattle.online_robust.specs.declared.line.MarginLine.{MarginLine}
use Rattle.online_robust.proofs.SlideAgain.{at_back, at_start, behind_some, fit_tail, told_tail}

module _ (F : Function) (reach first : ℕ) (front g back : ℤ) (c : Place) (seen fresh : List MarginLine)
    -- none was read only where none was met, or where all of them were let go
    (none : seen ≡ [] → (Same c (before_time (whole (pos first))) × ((g +ℤ back) <ℤ pos first)) ⊎ ((c.after ≡ true) × (c.at ≈ whole (g +ℤ back))))
    (read : last_place c seen ≡ c)
    (begun : whole (pos first) ≤ʳ c.at)
    (by : whole (g +ℤ back) ≤ʳ whole front) where
  from_inputs : AreInputs F reach first (back_of first (Some g) back) front (seen ++ fresh) → AreFrom c (whole front) fresh
  from_inputs inputs = by_seen seen none read inputs
    where
      start_case : (fresh : List MarginLine) → Same c (before_time (whole (pos first))) → (g +ℤ back) <ℤ pos first → (b : Bool)
          → int_lt (g +ℤ back) (pos first) ≡ b
          → AreInputs F reach first (cond b None (Some (g +ℤ back))) front fresh → AreFrom c (whole front) fresh
      start_case fresh same lt true e inputs = at_start F reach first front c fresh same inputs
      start_case fresh same lt false e inputs = let le = int_order (g +ℤ back) (pos first) false e in absurd (omega (arith, ints, lt, le))

      back_case : (fresh : List MarginLine) → c.after ≡ true → c.at ≈ whole (g +ℤ back) → (b : Bool) → int_lt (g +ℤ back) (pos first) ≡ b
          → AreInputs F reach first (cond b None (Some (g +ℤ back))) front fresh → AreFrom c (whole front) fresh
      back_case fresh after same true e inputs =
          absurd (not_lt_of_le (le_trans begun (le_of_same same)) (lt_whole (int_order (g +ℤ back) (pos first) true e)))
      back_case fresh after same false e inputs = at_back F reach first front c (g +ℤ back) fresh after same by inputs

      by_seen : (seen : List MarginLine)
          → (seen ≡ [] → (Same c (before_time (whole (pos first))) × ((g +ℤ back) <ℤ pos first)) ⊎ ((c.after ≡ true) × (c.at ≈ whole (g +ℤ back))))
          → last_place c seen ≡ c → AreInputs F reach first (back_of first (Some g) back) front (seen ++ fresh) → AreFrom c (whole front) fresh
      by_seen [] none read inputs = by_case (none refl)
        where
          by_case : (Same c (before_time (whole (pos first))) × ((g +ℤ back) <ℤ pos first)) ⊎ ((c.after ≡ true) × (c.at ≈ whole (g +ℤ back)))
              → AreFrom c (whole front) fresh
          by_case (inl (same, lt)) = start_case fresh same lt (int_lt (g +ℤ back) (pos first)) refl inputs
          by_case (inr (after, same)) = back_case fresh after same (int_lt (g +ℤ back) (pos first)) refl inputs
      by_seen (y ∷ ys) none read inputs = subst (λ d. AreFrom d (whole front) fresh) read
          (behind_some F reach first front c (back_of first (Some g) back) y ys fresh inputs)

  -- what is to come of the input in a later turn
  pub come_again : IsInput F reach first (back_of first (Some g) back) front (seen ++ fresh) → AreToCome F reach (whole (pos first)) (whole front) c fresh
  come_again input = by_begun (int_lt front (pos first)) refl input
    where
      nil_tail : (xs ys : List MarginLine) → xs ++ ys ≡ [] → ys ≡ []
      nil_tail [] ys e = e
      nil_tail (x ∷ xs) ys e = absurd (let z = e in cc)

      nil_head : (xs ys : List MarginLine) → xs ++ ys ≡ [] → xs ≡ []
      nil_head [] ys e = refl
      nil_head (x ∷ xs) ys e = absurd (let z = e in cc)

      at_first : whole front <ʳ whole (pos first)
          → (Same c (before_time (whole (pos first))) × ((g +ℤ back) <ℤ pos first)) ⊎ ((c.after ≡ true) × (c.at ≈ whole (g +ℤ back)))
          → Same c (before_time (whole (pos first)))
      at_first lt (inl (same, early)) = same
      at_first lt (inr (after, same)) = absurd (not_lt_of_le (le_trans begun (le_trans (le_of_same same) by)) lt)

      by_begun : (b : Bool) → int_lt front (pos first) ≡ b
          → MatchBool b (seen ++ fresh ≡ []) (AreInputs F reach first (back_of first (Some g) back) front (seen ++ fresh))
          → AreToCome F reach (whole (pos first)) (whole front) c fresh
      by_begun true e nil =
          let no_fresh = nil_tail seen fresh nil in
          let lt = lt_whole (int_order front (pos first) true e) in record {
            told = subst (λ l. AreTold F l) (sym no_fresh) tt;
            fit = subst (λ l. AreFit reach l) (sym no_fresh) tt;
            go_on = inr (no_fresh, lt, at_first lt (none (nil_head seen fresh nil)));
          }
      by_begun false e inputs = record {
        told = told_tail F seen fresh inputs.told;
        fit = fit_tail reach seen fresh inputs.fit;
        go_on = inl (from_inputs inputs);
      }
