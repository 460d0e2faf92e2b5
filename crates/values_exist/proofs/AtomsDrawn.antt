-- The atoms are drawn: by their margins, by their truth, and by their truth where items cover them.
use Rattle.std.proofs.Common.{◌≡◌, ℕ, ◌<◌, ◌⊎◌, ◌↔◌, inl, inr, Bool, true, false, List, [], ◌∷◌, IsTrue, refl, sym, ◌∙◌, arith}
use Rattle.std.proofs.lemmas.Bool.{cases_order}
use Rattle.rational.specs.Rational.{Rational, ◌<ʳ◌, ◌≤ʳ◌}
use Rattle.rational.specs.Time.{Precedes, Interval, IsIn}
use Rattle.rational.specs.Extended.{Extended, finite, ◌≤ᵉ◌}
use Rattle.rational.proofs.Order.{le_or_lt, not_lt_of_le, lt_irrefl}
use Rattle.rational.proofs.ExtendedLemmas.{le_transᵉ}
use Rattle.rational.proofs.AffineLemmas.{same_reflᵉ}
use Rattle.frac128.specs.Spans.{interval}
use Rattle.stl_syntax.specs.Trace.{Trace}
use Rattle.stl_syntax.specs.Truth.{expression, compares, holds_at}
use Rattle.stl_syntax.specs.Kleene.{IsCovered}
use Rattle.stl_syntax.specs.SupInf.{Reading, margins, truths, certainties, Gives, margin, one, zero_value, minus_one}
use Rattle.stl_syntax.specs.SupInf.{margin_setting, truth_setting, certainty_setting}
use Rattle.stl_syntax.specs.declared.atom.Atom.{Atom}
use Rattle.stl_syntax.specs.declared.items.Item.{Item}
use Rattle.stl_syntax.specs.declared.rel.Rel.{Rel}
use Rattle.stl_syntax.specs.declared.rel.Rel.TheVariants.{AtLeast, Above, AtMost, Below}
use Rattle.stl_syntax.proofs.SupInfLemmas.{GivesOne, margins_give_one, truths_give_one}
use Rattle.stl_syntax.proofs.CoverLemmas.{told_covered, certainties_give_one}
use Rattle.values_exist.proofs.Sums.{nought, alone}
use Rattle.values_exist.proofs.LinearTests.{Test, above, opposite, both, either, Passes}
use Rattle.values_exist.proofs.Edges.{edge_alike, edge_of_value}
use Rattle.values_exist.proofs.Extremes.{HasEdge}
use Rattle.values_exist.proofs.WindowTests.{limit_test, limit_at_one}
use Rattle.values_exist.proofs.Drawn.{IsDrawn}
use Rattle.values_exist.proofs.Formulas.{AtomsAreDrawn}
use Rattle.values_exist.proofs.Pieces.{before_number, after_number, before_number_passes, after_number_passes}
use Rattle.values_exist.proofs.Pieces.{positive_said, negative_said, at_most_said}
use Rattle.values_exist.proofs.Columns.{expression_piecewise, margin_piecewise}

-- a value that the reading gives, with its edge
given : (A : Reading) (i : ℕ) (a : Atom) (t : Rational) (r : Extended) (φ : Test) → GivesOne A → Gives A i a t r
    → ((x : Rational) → Passes φ (t ∷ x ∷ []) ↔ (finite x ≤ᵉ r)) → HasEdge (Gives A i a) t (λ x. Passes φ (t ∷ x ∷ []))
given A i a t r φ one_value gives same = record {
  level = r;
  is_value = gives;
  only = λ w g. record { at_most = one_value i a t w r g gives; at_least = one_value i a t r w gives g };
  edge = edge_alike r (λ x. (same x).1) (λ x. (same x).0) (edge_of_value r);
}

-- margins are drawn
pub margins_drawn : (tr : Trace) → AtomsAreDrawn (margin_setting tr)
margins_drawn tr i a =
    let m = at_most_said (λ t. margin a.rel (expression a tr t)) (margin_piecewise a.rel (expression a tr) (expression_piecewise a tr)) in (
      m.0,
      λ t w. given (margins tr) i a t (finite (margin a.rel (expression a tr t))) m.0 (margins_give_one tr)
          (same_reflᵉ (finite (margin a.rel (expression a tr t)))) (m.1 t),
    )

-- the comparison with 0
abbrev Compares : Rel → Rational → Type 0
Compares AtLeast e = ¬ (e <ʳ nought)
Compares Above e = nought <ʳ e
Compares AtMost e = ¬ (nought <ʳ e)
Compares Below e = e <ʳ nought

compares_told : (rel : Rel) (e : Rational) → IsTrue (compares rel e) ↔ Compares rel e
compares_told AtLeast e = (λ h k. grind arith, λ n. by_order n (le_or_lt nought e))
  where
    by_order : ¬ (e <ʳ nought) → (nought ≤ʳ e) ⊎ (e <ʳ nought) → IsTrue (compares AtLeast e)
    by_order n (inl k) = let l = k.le in grind arith
    by_order n (inr k) = absurd (n k)
compares_told Above e = (λ h. record { lt = grind arith }, λ k. let l = k.lt in grind arith)
compares_told AtMost e = (λ h k. grind arith, λ n. by_order n (le_or_lt e nought))
  where
    by_order : ¬ (nought <ʳ e) → (e ≤ʳ nought) ⊎ (nought <ʳ e) → IsTrue (compares AtMost e)
    by_order n (inl k) = let l = k.le in grind arith
    by_order n (inr k) = absurd (n k)
compares_told Below e = (λ h. record { lt = grind arith }, λ k. let l = k.lt in grind arith)

-- the test that the atom holds
holds_told : (a : Atom) (tr : Trace) → (φ : Test) × ((t x : Rational) → Passes φ (t ∷ x ∷ []) ↔ IsTrue (holds_at a tr t))
holds_told a tr = by_rel a.rel
  where
    positive : (φ : Test) × ((t x : Rational) → Passes φ (t ∷ x ∷ []) ↔ (nought <ʳ expression a tr t))
    positive = positive_said (expression a tr) (expression_piecewise a tr)

    negative : (φ : Test) × ((t x : Rational) → Passes φ (t ∷ x ∷ []) ↔ (expression a tr t <ʳ nought))
    negative = negative_said (expression a tr) (expression_piecewise a tr)

    told : (φ : Test) → (rel : Rel) → ((t x : Rational) → Passes φ (t ∷ x ∷ []) ↔ Compares rel (expression a tr t))
        → (φ : Test) × ((t x : Rational) → Passes φ (t ∷ x ∷ []) ↔ IsTrue (compares rel (expression a tr t)))
    told φ rel same = (
      φ,
      λ t x.
          let c = compares_told rel (expression a tr t) in
          (λ h. c.1 ((same t x).0 h), λ h. (same t x).1 (c.0 h)),
    )

    denial : (φ : Test) (P : Rational → Type 0) → ((t x : Rational) → Passes φ (t ∷ x ∷ []) ↔ P t)
        → (t x : Rational) → Passes (opposite φ) (t ∷ x ∷ []) ↔ (¬ P t)
    denial φ P same t x = (λ n h. n ((same t x).1 h), λ n h. n ((same t x).0 h))

    by_rel : (rel : Rel) → (φ : Test) × ((t x : Rational) → Passes φ (t ∷ x ∷ []) ↔ IsTrue (compares rel (expression a tr t)))
    by_rel AtLeast = told (opposite negative.0) AtLeast (denial negative.0 (λ t. expression a tr t <ʳ nought) negative.1)
    by_rel Above = told positive.0 Above positive.1
    by_rel AtMost = told (opposite positive.0) AtMost (denial positive.0 (λ t. nought <ʳ expression a tr t) positive.1)
    by_rel Below = told negative.0 Below negative.1

-- the values of false, of neither and of true rise
low_high : minus_one ≤ᵉ one
low_high = omega arith

low_zero : minus_one ≤ᵉ zero_value
low_zero = omega arith

-- at most the value of truth: that of false, or of true where the atom holds
abbrev truth_test : Test → Test
truth_test holds = either (limit_test minus_one) (both holds (limit_test one))

-- truths are drawn
pub truths_drawn : (tr : Trace) → AtomsAreDrawn (truth_setting tr)
truths_drawn tr i a = by_test (holds_told a tr)
  where
    by_test : ((φ : Test) × ((t x : Rational) → Passes φ (t ∷ x ∷ []) ↔ IsTrue (holds_at a tr t)))
        → IsDrawn (truth_setting tr).from (truth_setting tr).to (Gives (truths tr) i a)
    by_test (holds, told) = (truth_test holds, λ t w. by_truth t (holds_at a tr t) refl)
      where
        by_truth : (t : Rational) (b : Bool) → holds_at a tr t ≡ b
            → HasEdge (Gives (truths tr) i a) t (λ x. Passes (truth_test holds) (t ∷ x ∷ []))
        by_truth t true e = given (truths tr) i a t one (truth_test holds) (truths_give_one tr) (inl (e, same_reflᵉ one))
            (λ x. (
              λ h. elim h [
                | inl l ↦ le_transᵉ (finite x) minus_one one ((limit_at_one minus_one t x).0 l) low_high
                | inr l ↦ (limit_at_one one t x).0 l.1
              ],
              λ h. inr ((told t x).1 e, (limit_at_one one t x).1 h),
            ))
        by_truth t false e = given (truths tr) i a t minus_one (truth_test holds) (truths_give_one tr) (inr (e, same_reflᵉ minus_one))
            (λ x. (
              λ h. elim h [
                | inl l ↦ (limit_at_one minus_one t x).0 l
                | inr l ↦ absurd (let y = (told t x).0 l.0 in let z : true ≡ false = sym y ∙ e in cc)
              ],
              λ h. inl ((limit_at_one minus_one t x).1 h),
            ))

-- the first number is past the begin of an interval
abbrev begin_test : Bool → Rational → Test
begin_test true k = opposite (before_number k)
begin_test false k = after_number k

begin_told : (b : Bool) (k t : Rational) (point : List Rational) → Passes (begin_test b k) (t ∷ point) ↔ Precedes b k t
begin_told true k t point =
    let p = before_number_passes k t point in
    (λ n. elim (le_or_lt k t) [ inl h ↦ h | inr h ↦ absurd (n (p.1 h)) ], λ h l. not_lt_of_le h (p.0 l))
begin_told false k t point = after_number_passes k t point

-- and not past the end
abbrev end_test : Bool → Rational → Test
end_test true k = opposite (after_number k)
end_test false k = before_number k

end_told : (b : Bool) (k t : Rational) (point : List Rational) → Passes (end_test b k) (t ∷ point) ↔ Precedes b t k
end_told true k t point =
    let p = after_number_passes k t point in
    (λ n. elim (le_or_lt t k) [ inl h ↦ h | inr h ↦ absurd (n (p.1 h)) ], λ h l. not_lt_of_le h (p.0 l))
end_told false k t point = before_number_passes k t point

-- the test that the first number is in an interval
abbrev interval_test : Interval → Test
interval_test on = both (begin_test on.from_in on.from) (end_test on.to_in on.to)

-- in an interval as the test says
interval_told : (on : Interval) (t : Rational) (point : List Rational) → Passes (interval_test on) (t ∷ point) ↔ IsIn on t
interval_told on t point =
    let b = begin_told on.from_in on.from t point in
    let e = end_told on.to_in on.to t point in
    (λ h. record { above = b.0 h.0; below = e.0 h.1 }, λ m. (b.1 m.above, e.1 m.below))

-- a test that nothing passes
abbrev never : Test
never = above (alone nought)

abbrev IsCoverTest : List Item → ℕ → Test → Type 0
IsCoverTest items i φ = (t : Rational) (point : List Rational) → Passes φ (t ∷ point) ↔ IsCovered items i t

-- the test that some item covers the time
covered_told : (items : List Item) (i : ℕ) → (φ : Test) × IsCoverTest items i φ
covered_told [] i = (never, λ t point. (λ h. lt_irrefl h, λ h. absurd h))
covered_told (e ∷ items) i = by_node (cases_order e.node i) (covered_told items i)
  where
    by_node : (e.node ≡ i) ⊎ ((e.node < i) ⊎ (i < e.node)) → ((φ : Test) × IsCoverTest items i φ) → (φ : Test) × IsCoverTest (e ∷ items) i φ
    by_node (inl same) (φ, told) = (
      either (interval_test (interval e.on)) φ,
      λ t point.
          let m = interval_told (interval e.on) t point in (
            λ h. elim h [ inl k ↦ inl (same, m.0 k) | inr k ↦ inr ((told t point).0 k) ],
            λ h. elim h [ inl k ↦ inl (m.1 k.1) | inr k ↦ inr ((told t point).1 k) ],
          ),
    )
    by_node (inr other) (φ, told) = (
      φ,
      λ t point. (
        λ h. inr ((told t point).0 h),
        λ h. elim h [
          | inl k ↦ elim other [ inl x ↦ absurd (omega (arith, k.0)) | inr x ↦ absurd (omega (arith, k.0)) ]
          | inr k ↦ (told t point).1 k
        ],
      ),
    )

-- at most the value that certainty has: that of false, of neither where no item covers the time, of true where one does and the atom holds
abbrev certainty_test : Test → Test → Test
certainty_test holds covered =
    either (limit_test minus_one) (either (both (opposite covered) (limit_test zero_value)) (both (both covered holds) (limit_test one)))

-- certainties are drawn
pub certainties_drawn : (tr : Trace) (items : List Item) → AtomsAreDrawn (certainty_setting tr items)
certainties_drawn tr items i a = by_tests (holds_told a tr) (covered_told items i)
  where
    by_tests : ((φ : Test) × ((t x : Rational) → Passes φ (t ∷ x ∷ []) ↔ IsTrue (holds_at a tr t))) → ((φ : Test) × IsCoverTest items i φ)
        → IsDrawn (certainty_setting tr items).from (certainty_setting tr items).to (Gives (certainties tr items) i a)
    by_tests (holds, told) (covered, covers) = (certainty_test holds covered, λ t w. by_truth t (holds_at a tr t) refl (told_covered items i t))
      where
        at : (t : Rational) (r : Extended) → Gives (certainties tr items) i a t r
            → ((x : Rational) → Passes (certainty_test holds covered) (t ∷ x ∷ []) ↔ (finite x ≤ᵉ r))
            → HasEdge (Gives (certainties tr items) i a) t (λ x. Passes (certainty_test holds covered) (t ∷ x ∷ []))
        at t r gives same = given (certainties tr items) i a t r (certainty_test holds covered) (certainties_give_one tr items) gives same

        by_truth : (t : Rational) (b : Bool) → holds_at a tr t ≡ b → IsCovered items i t ⊎ (¬ IsCovered items i t)
            → HasEdge (Gives (certainties tr items) i a) t (λ x. Passes (certainty_test holds covered) (t ∷ x ∷ []))
        by_truth t b e (inr n) = at t zero_value (inr (inr (n, same_reflᵉ zero_value))) (λ x. (
          λ h. elim h [
            | inl l ↦ le_transᵉ (finite x) minus_one zero_value ((limit_at_one minus_one t x).0 l) low_zero
            | inr m ↦ elim m [ inl l ↦ (limit_at_one zero_value t x).0 l.1 | inr l ↦ absurd (n ((covers t (x ∷ [])).0 l.0.0)) ]
          ],
          λ h. inr (inl (λ k. n ((covers t (x ∷ [])).0 k), (limit_at_one zero_value t x).1 h)),
        ))
        by_truth t true e (inl c) = at t one (inl (e, c, same_reflᵉ one)) (λ x. (
          λ h. elim h [
            | inl l ↦ le_transᵉ (finite x) minus_one one ((limit_at_one minus_one t x).0 l) low_high
            | inr m ↦ elim m [ inl l ↦ absurd (l.0 ((covers t (x ∷ [])).1 c)) | inr l ↦ (limit_at_one one t x).0 l.1 ]
          ],
          λ h. inr (inr (((covers t (x ∷ [])).1 c, (told t x).1 e), (limit_at_one one t x).1 h)),
        ))
        by_truth t false e (inl c) = at t minus_one (inr (inl (e, c, same_reflᵉ minus_one))) (λ x. (
          λ h. elim h [
            | inl l ↦ (limit_at_one minus_one t x).0 l
            | inr m ↦ elim m [
              | inl l ↦ absurd (l.0 ((covers t (x ∷ [])).1 c))
              | inr l ↦ absurd (let y = (told t x).0 l.0.1 in let z : true ≡ false = sym y ∙ e in cc)
            ]
          ],
          λ h. inl ((limit_at_one minus_one t x).1 h),
        ))
