-- Which windows meet what was found.
use Rattle.std.proofs.Common.{◌≡◌, ◌⊎◌, inl, inr, refl, sym, ◌∙◌, Bool, true, false, not, ◌||◌, ◌&&◌, ℤ, neg_ℤ, ap}
use Rattle.std.specs.Prelude.{MatchBool}
use Rattle.rational.specs.Rational.{Rational, ◌≤ʳ◌, ◌<ʳ◌, ◌≈◌, add, whole}
use Rattle.rational.proofs.Order.{lt_or_same_or_gt, le_of_lt, le_of_same, ge_of_same, same_trans, same_sym, not_lt_of_le}
use Rattle.rational.proofs.Shift.{same_shift, shift_back, shift_forth, lt_ahead, lt_ahead_back, lt_behind_back}
use Rattle.rational.proofs.Shift.{lt_behind}
use Rattle.rational.specs.Places.{Place, moved_begin, moved_end}
use Rattle.online_nodes.specs.Truths.{MeetsAfter, MeetsUpto}

same_back : (c t : Rational) (k : ℤ) → add c (whole k) ≈ t → c ≈ add t (whole (neg_ℤ k))
same_back c t k h = same_trans (same_sym (shift_back c k)) (same_shift (neg_ℤ k) h)

same_forth : (c t : Rational) (k : ℤ) → c ≈ add t (whole (neg_ℤ k)) → add c (whole k) ≈ t
same_forth c t k h = same_trans (same_shift k h) (shift_forth t k)

-- windows behind a place's begin meet what begins there
pub meets_after : (k : ℤ) (i : Bool) (c : Place)
    → MeetsAfter (λ t. record { at = add t (whole (neg_ℤ k)); after = i }) c (moved_begin k i c)
meets_after k i c t = (there c.after i refl refl, back c.after i refl refl)
  where
    there : (a j : Bool) → c.after ≡ a → i ≡ j → MatchBool (a || not j) (add c.at (whole k) <ʳ t) (add c.at (whole k) ≤ʳ t)
        → (c.at <ʳ add t (whole (neg_ℤ k))) ⊎ ((c.at ≈ add t (whole (neg_ℤ k))) × (c.after ≡ false) × (i ≡ true))
    there true j e f h = inl (lt_behind c.at t k h)
    there false false e f h = inl (lt_behind c.at t k h)
    there false true e f h = elim (lt_or_same_or_gt (add c.at (whole k)) t) [
      | inl l ↦ inl (lt_behind c.at t k l)
      | inr o ↦ elim o [ inl s ↦ inr (same_back c.at t k s, e, f) | inr l ↦ absurd (not_lt_of_le h l) ]
    ]

    back : (a j : Bool) → c.after ≡ a → i ≡ j
        → (c.at <ʳ add t (whole (neg_ℤ k))) ⊎ ((c.at ≈ add t (whole (neg_ℤ k))) × (c.after ≡ false) × (i ≡ true))
        → MatchBool (a || not j) (add c.at (whole k) <ʳ t) (add c.at (whole k) ≤ʳ t)
    back true j e f (inl l) = lt_behind_back c.at t k l
    back true j e f (inr (s, x, y)) = absurd (let z : true ≡ false = sym e ∙ x in cc)
    back false false e f (inl l) = lt_behind_back c.at t k l
    back false false e f (inr (s, x, y)) = absurd (let z : true ≡ false = sym y ∙ f in cc)
    back false true e f (inl l) = le_of_lt (lt_behind_back c.at t k l)
    back false true e f (inr (s, x, y)) = le_of_same (same_forth c.at t k s)

-- and windows up to its end meet what ends there
pub meets_upto : (k : ℤ) (i : Bool) (c : Place)
    → MeetsUpto (λ t. record { at = add t (whole (neg_ℤ k)); after = not i }) c (moved_end k i c)
meets_upto k i c t = (there c.after i refl refl, back c.after i refl refl)
  where
    there : (a j : Bool) → c.after ≡ a → i ≡ j → MatchBool (a && j) (t ≤ʳ add c.at (whole k)) (t <ʳ add c.at (whole k))
        → (add t (whole (neg_ℤ k)) <ʳ c.at) ⊎ ((add t (whole (neg_ℤ k)) ≈ c.at) × (not i ≡ false) × (c.after ≡ true))
    there false j e f h = inl (lt_ahead_back t c.at k h)
    there true false e f h = inl (lt_ahead_back t c.at k h)
    there true true e f h = elim (lt_or_same_or_gt (add c.at (whole k)) t) [
      | inl l ↦ absurd (not_lt_of_le h l)
      | inr o ↦ elim o [ inl s ↦ inr (same_sym (same_back c.at t k s), ap not f, e) | inr l ↦ inl (lt_ahead_back t c.at k l) ]
    ]

    back : (a j : Bool) → c.after ≡ a → i ≡ j
        → (add t (whole (neg_ℤ k)) <ʳ c.at) ⊎ ((add t (whole (neg_ℤ k)) ≈ c.at) × (not i ≡ false) × (c.after ≡ true))
        → MatchBool (a && j) (t ≤ʳ add c.at (whole k)) (t <ʳ add c.at (whole k))
    back false j e f (inl l) = lt_ahead t c.at k l
    back false j e f (inr (s, x, y)) = absurd (let z : true ≡ false = sym y ∙ e in cc)
    back true false e f (inl l) = lt_ahead t c.at k l
    back true false e f (inr (s, x, y)) = absurd (let z : true ≡ false = sym (ap not f) ∙ x in cc)
    back true true e f (inl l) = le_of_lt (lt_ahead t c.at k l)
    back true true e f (inr (s, x, y)) = ge_of_same (same_forth c.at t k (same_sym s))
