-- Which windows reach past a place, which begin before it, and which have a time.
use Rattle.std.proofs.Common.{◌≡◌, ◌⊎◌, inl, inr, refl, sym, ◌∙◌, Bool, true, false, not, ◌||◌, ◌&&◌, ℤ, neg_ℤ, ap, subst, arith}
use Rattle.std.specs.Prelude.{MatchBool, IsTrue, ◌↔◌, ◌<ℤ◌}
use Rattle.std.proofs.lemmas.Int.{by_lt_z, ints}
use Rattle.rational.specs.Time.{Rational, ◌≤ʳ◌, ◌<ʳ◌, ◌≈◌, add, whole}
use Rattle.rational.proofs.Order.{lt_or_same_or_gt, le_of_lt, le_of_same, ge_of_same, same_trans, same_sym, same_refl, le_refl, not_lt_of_le}
use Rattle.rational.proofs.Shift.{same_shift, shift_back, shift_forth, lt_ahead, lt_ahead_back, lt_behind_back, lt_behind, lt_shift_by}
use Rattle.rational.specs.Places.{Place, After, Upto, Before, moved_begin, moved_end}
use Rattle.time_sets.specs.Parts.{low_place, high_place}

same_back : (c t : Rational) (k : ℤ) → add c (whole (neg_ℤ k)) ≈ t → c ≈ add t (whole k)
same_back c t k h = same_trans (same_sym (shift_forth c k)) (same_shift k h)

same_forth : (c t : Rational) (k : ℤ) → c ≈ add t (whole k) → add c (whole (neg_ℤ k)) ≈ t
same_forth c t k h = same_trans (same_shift (neg_ℤ k) h) (shift_back t k)

-- a window ends behind a place from a time on
pub ends_past : (k : ℤ) (i : Bool) (c : Place) (t : Rational) → After (moved_begin (neg_ℤ k) i c) t ↔ Before c (high_place k i t)
ends_past k i c t = (there c.after i refl refl, back c.after i refl refl)
  where
    there : (a j : Bool) → c.after ≡ a → i ≡ j → MatchBool (a || not j) (add c.at (whole (neg_ℤ k)) <ʳ t) (add c.at (whole (neg_ℤ k)) ≤ʳ t)
        → (c.at <ʳ add t (whole k)) ⊎ ((c.at ≈ add t (whole k)) × (c.after ≡ false) × (i ≡ true))
    there true j e f h = inl (lt_ahead c.at t k h)
    there false false e f h = inl (lt_ahead c.at t k h)
    there false true e f h = elim (lt_or_same_or_gt (add c.at (whole (neg_ℤ k))) t) [
      | inl l ↦ inl (lt_ahead c.at t k l)
      | inr o ↦ elim o [ inl s ↦ inr (same_back c.at t k s, e, f) | inr l ↦ absurd (not_lt_of_le h l) ]
    ]

    back : (a j : Bool) → c.after ≡ a → i ≡ j → (c.at <ʳ add t (whole k)) ⊎ ((c.at ≈ add t (whole k)) × (c.after ≡ false) × (i ≡ true))
        → MatchBool (a || not j) (add c.at (whole (neg_ℤ k)) <ʳ t) (add c.at (whole (neg_ℤ k)) ≤ʳ t)
    back true j e f (inl l) = lt_ahead_back c.at t k l
    back true j e f (inr (s, x, y)) = absurd (let z : true ≡ false = sym e ∙ x in cc)
    back false false e f (inl l) = lt_ahead_back c.at t k l
    back false false e f (inr (s, x, y)) = absurd (let z : true ≡ false = sym y ∙ f in cc)
    back false true e f (inl l) = le_of_lt (lt_ahead_back c.at t k l)
    back false true e f (inr (s, x, y)) = le_of_same (same_forth c.at t k s)

-- and begins before a place up to a time
pub begins_before : (k : ℤ) (i : Bool) (c : Place) (t : Rational) → Upto (moved_end (neg_ℤ k) i c) t ↔ Before (low_place k i t) c
begins_before k i c t = (there c.after i refl refl, back c.after i refl refl)
  where
    there : (a j : Bool) → c.after ≡ a → i ≡ j → MatchBool (a && j) (t ≤ʳ add c.at (whole (neg_ℤ k))) (t <ʳ add c.at (whole (neg_ℤ k)))
        → (add t (whole k) <ʳ c.at) ⊎ ((add t (whole k) ≈ c.at) × (not i ≡ false) × (c.after ≡ true))
    there false j e f h = inl (lt_behind_back t c.at k h)
    there true false e f h = inl (lt_behind_back t c.at k h)
    there true true e f h = elim (lt_or_same_or_gt (add c.at (whole (neg_ℤ k))) t) [
      | inl l ↦ absurd (not_lt_of_le h l)
      | inr o ↦ elim o [ inl s ↦ inr (same_sym (same_back c.at t k s), ap not f, e) | inr l ↦ inl (lt_behind_back t c.at k l) ]
    ]

    back : (a j : Bool) → c.after ≡ a → i ≡ j → (add t (whole k) <ʳ c.at) ⊎ ((add t (whole k) ≈ c.at) × (not i ≡ false) × (c.after ≡ true))
        → MatchBool (a && j) (t ≤ʳ add c.at (whole (neg_ℤ k))) (t <ʳ add c.at (whole (neg_ℤ k)))
    back false j e f (inl l) = lt_behind t c.at k l
    back false j e f (inr (s, x, y)) = absurd (let z : true ≡ false = sym y ∙ e in cc)
    back true false e f (inl l) = lt_behind t c.at k l
    back true false e f (inr (s, x, y)) = absurd (let z : true ≡ false = sym (ap not f) ∙ x in cc)
    back true true e f (inl l) = le_of_lt (lt_behind t c.at k l)
    back true true e f (inr (s, x, y)) = ge_of_same (same_forth c.at t k (same_sym s))

-- a window has a time exactly where its bounds leave room
pub room_in : (j k : ℤ) (i h : Bool) (t : Rational) → (j <ℤ k) ⊎ ((j ≡ k) × IsTrue i × IsTrue h) → Before (low_place j i t) (high_place k h t)
room_in j k i h t (inl l) = inl (lt_shift_by t j k l)
room_in j k i h t (inr (e, x, y)) = inr (subst (λ n. add t (whole j) ≈ add t (whole n)) e (same_refl (add t (whole j))), ap not x, y)

-- two whole numbers are in order, or one
int_order : (j k : ℤ) → (j <ℤ k) ⊎ (j ≡ k) ⊎ (k <ℤ j)
int_order j k = by_lt_z j k inl (λ h. inr (by_lt_z k j inr (λ l. inl (omega (arith, ints)))))

-- a window with a time has its ends in order
pub room_out : (j k : ℤ) (i h : Bool) (t : Rational) → Before (low_place j i t) (high_place k h t) → (j <ℤ k) ⊎ ((j ≡ k) × IsTrue i × IsTrue h)
room_out j k i h t b = elim (int_order j k) [
  | inl l ↦ inl l
  | inr o ↦ elim o [
    | inl e ↦ by_before e b
    | inr l ↦ absurd (turned l b)
  ]
]
  where
    turned : k <ℤ j → Before (low_place j i t) (high_place k h t) → ⊥
    turned l (inl x) = not_lt_of_le (le_of_lt (lt_shift_by t k j l)) x
    turned l (inr (s, x, y)) = not_lt_of_le (le_of_same s) (lt_shift_by t k j l)

    is_in : (i : Bool) → not i ≡ false → i ≡ true
    is_in true x = refl
    is_in false x = absurd (let z : true ≡ false = x in cc)

    by_before : j ≡ k → Before (low_place j i t) (high_place k h t) → (j <ℤ k) ⊎ ((j ≡ k) × IsTrue i × IsTrue h)
    by_before e (inl x) = absurd (not_lt_of_le (subst (λ n. add t (whole n) ≤ʳ add t (whole j)) e (le_refl (add t (whole j)))) x)
    by_before e (inr (s, x, y)) = inr (e, is_in i x, y)
