-- What is left of lines when those that end by a time are dropped from the front.
use Rattle.std.proofs.Common.{◌≡◌, inl, inr, ℕ, zero, suc, ◌+◌, ◌-◌, ◌<◌, ◌≤◌, Bool, true, false, List, [], ◌∷◌}
use Rattle.std.proofs.Common.{◌++◌, drop, refl, sym, ap, subst, ◌∙◌, arith, Option, Some, None, ℤ, pos, ◌+ℤ◌, ◌≤ℤ◌}
use Rattle.std.specs.Prelude.{MatchBool, IfSome, int_lt, cond, slice_get}
use Rattle.std.proofs.lemmas.Int.{ints}
use Rattle.std.proofs.lemmas.Bool.{cases_lt}
use Rattle.rational.specs.Time.{Rational, whole, ◌≤ʳ◌, ◌<ʳ◌}
use Rattle.rational.specs.Windows.{Function}
use Rattle.rational.proofs.Order.{le_trans, le_of_same, ge_of_same, same_sym, not_lt_of_le}
use Rattle.rational.proofs.Shift.{le_whole}
use Rattle.rational.proofs.Lists.{slice_get-drop, drop_none}
use Rattle.rational.proofs.Tests.{int_order}
use Rattle.frac128.specs.Value.{value}
use Rattle.online_robust.specs.Lines.{end_of}
use Rattle.online_robust.specs.Held.{Edge, held_of}
use Rattle.value_laws.specs.declared.margin.Margin.{Margin}
use Rattle.online_robust.specs.Told.{AreTold, AreFit, AreJoined, IsFitLine, IsMovedBy}
use Rattle.online_robust.specs.Steps.{AreInputs, AreLeft, IsInput, back_of, IsCut}
use Rattle.online_robust.specs.Pasts.{IsRest}
use Rattle.online_robust.specs.declared.line.MarginLine.{MarginLine}
use Rattle.online_robust.specs.declared.line.MarginLine.TheVariants.{Point, Gap}
use Rattle.online_robust.proofs.JoinedLemmas.{joined_same}
use Rattle.node_edges.proofs.DroppingLemmas.{drop-drop}

-- ---- dropping

-- what is left of lines that tell still tells
pub told_drop : (F : Function) (n : ℕ) (lines : List MarginLine) → AreTold F lines → AreTold F (drop n lines)
told_drop F zero lines told = told
told_drop F (suc n) [] told = tt
told_drop F (suc n) (x ∷ lines) told = told_drop F n lines told.1

-- what is left of lines within the limits keeps within them
pub fit_drop : (reach n : ℕ) (lines : List MarginLine) → AreFit reach lines → AreFit reach (drop n lines)
fit_drop reach zero lines fit = fit
fit_drop reach (suc n) [] fit = tt
fit_drop reach (suc n) (x ∷ lines) fit = fit_drop reach n lines fit.1

-- two lists of lines that tell a function tell it together
pub told_append : (F : Function) (a b : List MarginLine) → AreTold F a → AreTold F b → AreTold F (a ++ b)
told_append F [] b h k = k
told_append F (x ∷ a) b h k = (h.0, told_append F a b h.1 k)

-- two lists of lines within the limits keep within them together
pub fit_append : (reach : ℕ) (a b : List MarginLine) → AreFit reach a → AreFit reach b → AreFit reach (a ++ b)
fit_append reach [] b h k = k
fit_append reach (x ∷ a) b h k = (h.0, fit_append reach a b h.1 k)

-- lines that go on from lines go on from where those begin
pub joined_append : (from mid to : Rational) (a b : List MarginLine) → AreJoined from mid a → AreJoined mid to b → AreJoined from to (a ++ b)
joined_append from mid to [] b h k = joined_same mid from to b (same_sym h) k
joined_append from mid to (Gap a c p ∷ []) b h k = absurd h
joined_append from mid to (Gap a c p ∷ Gap d e q ∷ lines) b h k = absurd h
joined_append from mid to (Gap a c p ∷ Point u v ∷ lines) b h k = (h.0, h.1, joined_append (value u) mid to lines b h.2 k)
joined_append from mid to (Point u v ∷ lines) b h k = absurd h

-- ---- what is left of joined lines

-- lines that are joined from some time that is not after the limit, of which the first ends after it
abbrev pub AreLater : Rational → Rational → List MarginLine → Type 0
AreLater limit to lines =
    (from : Rational) × (from ≤ʳ limit) × AreJoined from to lines × IfSome (slice_get lines 0) (λ x. limit <ʳ value (end_of x))

abbrev pub EndBy : Rational → ℕ → List MarginLine → Type 0
EndBy limit n lines = (k : ℕ) → k < n → IfSome (slice_get lines k) (λ x. value (end_of x) ≤ʳ limit)

later_joined : (limit from to : Rational) (lines : List MarginLine) (n : ℕ) → from ≤ʳ limit → AreJoined from to lines → EndBy limit n lines
    → IfSome (slice_get (drop n lines) 0) (λ x. limit <ʳ value (end_of x)) → AreLater limit to (drop n lines)
later_joined limit from to lines zero le joined ended rest = (from, le, joined, rest)
later_joined limit from to [] (suc n) le joined ended rest = (from, le, joined, tt)
later_joined limit from to (Gap a b p ∷ []) (suc n) le joined ended rest = absurd joined
later_joined limit from to (Gap a b p ∷ Gap c d q ∷ lines) (suc n) le joined ended rest = absurd joined
later_joined limit from to (Gap a b p ∷ Point u v ∷ lines) (suc zero) le joined ended rest =
    absurd (not_lt_of_le (le_trans (ge_of_same joined.1) (ended 0 (omega arith))) rest)
later_joined limit from to (Gap a b p ∷ Point u v ∷ lines) (suc (suc n)) le joined ended rest =
    later_joined limit (value u) to lines n (ended 1 (omega arith)) joined.2 (λ k h. ended (suc (suc k)) (omega (arith, h))) rest
later_joined limit from to (Point u v ∷ lines) (suc n) le joined ended rest = absurd joined

-- of all lines from the start on, those that end after the limit, which is not below the start
left_over : (start : ℕ) (limit f : ℤ) (lines rest : List MarginLine) → pos start ≤ℤ limit → AreLeft start None f lines → IsRest (Some limit) lines rest
    → AreLeft start (Some limit) f rest
left_over start limit f lines rest le (at, v, more, is, begins, joined) (n, e, ended, later) = by_count n e ended
  where
    low : value at ≤ʳ whole limit
    low = le_trans (le_of_same begins) (le_whole le)

    by_count : (n : ℕ) → rest ≡ drop n lines → EndBy (whole limit) n lines → AreLeft start (Some limit) f rest
    by_count zero e ended =
        let first : IfSome (slice_get (Point at v ∷ more) 0) (λ x. whole limit <ʳ value (end_of x)) =
        subst (λ l. IfSome (slice_get l 0) (λ x. whole limit <ʳ value (end_of x))) (e ∙ is) later in
        absurd (not_lt_of_le low first)
    by_count (suc n) e ended =
        let same : rest ≡ drop n more = e ∙ ap (drop (suc n)) is in
        let all : EndBy (whole limit) (suc n) (Point at v ∷ more) = subst (EndBy (whole limit) (suc n)) is ended in
        subst (AreLeft start (Some limit) f) (sym same)
        (later_joined (whole limit) (value at) (whole f) more n low joined (λ k h. all (suc k) (omega (arith, h)))
        (subst (λ l. IfSome (slice_get l 0) (λ x. whole limit <ʳ value (end_of x))) same later))

-- what is dropped is not below the start
pub back_above : (start : ℕ) (before : Option ℤ) (k limit : ℤ) → back_of start before k ≡ Some limit → pos start ≤ℤ limit
back_above start None k limit e = absurd (let h = e in cc)
back_above start (Some g) k limit e = by_test (int_lt (g +ℤ k) (pos start)) refl e
  where
    by_test : (t : Bool) → int_lt (g +ℤ k) (pos start) ≡ t → cond t None (Some (g +ℤ k)) ≡ Some limit → pos start ≤ℤ limit
    by_test true h e = absurd (let f = e in cc)
    by_test false h e =
        let le = int_order (g +ℤ k) (pos start) false h in
        let same : g +ℤ k ≡ limit = let f = e in cc in
        subst (λ x. pos start ≤ℤ x) same le

-- the lines on an edge, of all that the node gave out, where those that end by a time were dropped
pub input_rest : (F : Function) (reach start : ℕ) (before : Option ℤ) (k f : ℤ) (lines rest : List MarginLine) → IsInput F reach start None f lines
    → IsRest (back_of start before k) lines rest → IsInput F reach start (back_of start before k) f rest
input_rest F reach start before k f lines rest input is = by_test (int_lt f (pos start)) input
  where
    rest_none : (back : Option ℤ) → lines ≡ [] → IsRest back lines rest → rest ≡ []
    rest_none None e is = is ∙ e
    rest_none (Some limit) e (n, is, ended, later) = is ∙ drop_none n lines e

    all_rest : (back : Option ℤ) → back_of start before k ≡ back → AreInputs F reach start None f lines → IsRest back lines rest
        → AreInputs F reach start back f rest
    all_rest None e a is = subst (AreInputs F reach start None f) (sym is) a
    all_rest (Some limit) e a is = record {
      told = subst (AreTold F) (sym is.1) (told_drop F is.0 lines a.told);
      fit = subst (AreFit reach) (sym is.1) (fit_drop reach is.0 lines a.fit);
      left = left_over start limit f lines rest (back_above start before k limit e) a.left is;
    }

    by_test : (t : Bool) → MatchBool t (lines ≡ []) (AreInputs F reach start None f lines)
        → MatchBool t (rest ≡ []) (AreInputs F reach start (back_of start before k) f rest)
    by_test true e = rest_none (back_of start before k) e is
    by_test false a = all_rest (back_of start before k) refl a is

-- ---- dropping once more

-- what is dropped now is not less than what was dropped before
abbrev pub IsLaterBack : Option ℤ → Option ℤ → Type 0
IsLaterBack None new = Unit {0}
IsLaterBack (Some a) None = ⊥
IsLaterBack (Some a) (Some b) = a ≤ℤ b

-- an edge that was cut holds the rest from a later time
pub rest_cut : (old new : Option ℤ) (lines : List MarginLine) (x y : Edge) → IsLaterBack old new → IsRest old lines (held_of x)
    → IsCut new x y → IsRest new lines (held_of y)
rest_cut None None lines x y later is cut = cut ∙ is
rest_cut None (Some b) lines x y later is cut = (
  cut.count,
  cut.is ∙ ap (drop cut.count) is,
  λ k h. subst (λ l. IfSome (slice_get l k) (λ v. value (end_of v) ≤ʳ whole b)) is (cut.ended k h),
  cut.rest,
)
rest_cut (Some a) None lines x y later is cut = absurd later
rest_cut (Some a) (Some b) lines x y later (n, is, ended, rest) cut = (
  n + cut.count,
  cut.is ∙ ap (drop cut.count) is ∙ drop-drop cut.count n lines,
  λ k h. by_place k h,
  cut.rest,
)
  where
    weaker : (o : Option MarginLine) → IfSome o (λ v. value (end_of v) ≤ʳ whole a) → IfSome o (λ v. value (end_of v) ≤ʳ whole b)
    weaker None h = h
    weaker (Some v) h = le_trans h (le_whole later)

    by_place : (k : ℕ) → k < n + cut.count → IfSome (slice_get lines k) (λ v. value (end_of v) ≤ʳ whole b)
    by_place k h = elim (cases_lt k n) [
      | inl low ↦ weaker (slice_get lines k) (ended k low)
      | inr high ↦
          let e : n + (k - n) ≡ k = omega (arith, high) in
          subst (λ o. IfSome o (λ v. value (end_of v) ≤ʳ whole b))
          (ap (λ l. slice_get l (k - n)) is ∙ slice_get-drop n lines (k - n) ∙ ap (slice_get lines) e)
          (cut.ended (k - n) (omega (arith, h, high)))
    ]

-- ---- a larger reach

moved_more : (a b : ℕ) (p : Margin) → a ≤ b → IsMovedBy a p → IsMovedBy b p
moved_more a b p le (low, high) = (omega (arith, ints, le, low), omega (arith, ints, le, high))

fit_line_more : (a b : ℕ) (x : MarginLine) → a ≤ b → IsFitLine a x → IsFitLine b x
fit_line_more a b (Point at v) le (t, v', m) = (t, v', moved_more a b v le m)
fit_line_more a b (Gap from to p) le (s, t, v, w, m) = (s, t, v, w, moved_more a b p le m)

-- lines within some limits keep within wider ones
pub fit_more : (a b : ℕ) (lines : List MarginLine) → a ≤ b → AreFit a lines → AreFit b lines
fit_more a b [] le fit = tt
fit_more a b (x ∷ lines) le fit = (fit_line_more a b x le fit.0, fit_more a b lines le fit.1)

-- an input within limits is one within wider ones
pub input_reach : (F : Function) (a b start : ℕ) (back : Option ℤ) (f : ℤ) (lines : List MarginLine) → a ≤ b
    → IsInput F a start back f lines → IsInput F b start back f lines
input_reach F a b start back f lines le input = by_test (int_lt f (pos start)) input
  where
    by_test : (t : Bool) → MatchBool t (lines ≡ []) (AreInputs F a start back f lines) → MatchBool t (lines ≡ []) (AreInputs F b start back f lines)
    by_test true e = e
    by_test false i = record { told = i.told; fit = fit_more a b lines le i.fit; left = i.left }
