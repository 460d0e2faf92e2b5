-- Signals read side by side, by the places of their knots.
use Rattle.std.proofs.Common.{◌≡◌, ℕ, ◌+◌, ◌<◌, ◌≤◌, ◌⊎◌, ◌↔◌, IsTrue, true, false, inl, inr, List, [], length, Some, refl, sym, subst}
use Rattle.std.specs.Prelude.{slice_get}
use Rattle.std.proofs.lemmas.Bool.{cases_lt, false≢true}
use Rattle.std.proofs.lemmas.Option.{slice_get_past}
use Rattle.rational.specs.Time.{Rational, ◌≤ʳ◌, ◌<ʳ◌, ◌≈◌}
use Rattle.rational.specs.Extended.{value_at}
use Rattle.rational.proofs.Order.{le_of_lt, le_of_same, ge_of_same, lt_of_lt_of_le, lt_of_le_of_lt, lt_or_same_or_gt, not_lt_of_le}
use Rattle.value_laws.specs.Members.{ShapeOf}
use Rattle.pl_signal.specs.declared.knot.Knot.{Knot}
use Rattle.pl_signal.specs.Knots.{time, stop, IsWorth, IsSignal}
use Rattle.pl_signal.specs.Places.{IsPlace}
use Rattle.pl_signal.proofs.Values.{next_rises, stop_at, worth_between}

-- what is not after a time, and not equal to it, is before it
pub before_unless : {a b : Rational} → b ≤ʳ a → ¬ (a ≈ b) → b <ʳ a
before_unless {a} {b} h n = by_order (lt_or_same_or_gt a b)
  where
    by_order : (a <ʳ b) ⊎ (a ≈ b) ⊎ (b <ʳ a) → b <ʳ a
    by_order (inl l) = absurd (not_lt_of_le h l)
    by_order (inr (inl e)) = absurd (n e)
    by_order (inr (inr l)) = l

-- true says that two times are equal which are
pub says_equal : {a b : Rational} → a ≈ b → IsTrue true ↔ (a ≈ b)
says_equal e = (λ t. e, λ k. refl)

-- false says so of a time and an earlier one
pub says_later : {a b : Rational} → b <ʳ a → IsTrue false ↔ (a ≈ b)
says_later h = (λ t. absurd (false≢true t), λ e. absurd (not_lt_of_le (le_of_same e) h))

module _ {P : Type 0} (shape : ShapeOf P) where
  -- the place at the first time
  pub first_place : (ks : List (Knot P)) (k : Knot P) (t : Rational) → IsSignal shape ks → slice_get ks 0 ≡ Some k → time k ≈ t → IsPlace ks t 0
  first_place ks k t s h e = record {
    inside = s.some;
    not_later = λ n m. let same : k ≡ n = cc in subst (λ n. time n ≤ʳ t) same (le_of_same e);
    later = λ n m. lt_of_le_of_lt (ge_of_same e) (next_rises shape ks 0 k n s.each h m);
  }

  -- the place at a time at which the next knot stands
  pub place_next : (ks : List (Knot P)) (i : ℕ) (n : Knot P) (to : Rational) → IsSignal shape ks → i + 1 < length ks → slice_get ks (i + 1) ≡ Some n
      → time n ≈ to → IsPlace ks to (i + 1)
  place_next ks i n to s more at_next e = record {
    inside = more;
    not_later = λ k h. let same : n ≡ k = cc in subst (λ k. time k ≤ʳ to) same (le_of_same e);
    later = λ k h. lt_of_le_of_lt (ge_of_same e) (next_rises shape ks (i + 1) n k s.each at_next h);
  }

  -- the place at a time before the next knot
  pub place_stays : (ks : List (Knot P)) (i : ℕ) (n : Knot P) (to : Rational) → i < length ks
      → ((k : Knot P) → slice_get ks i ≡ Some k → time k <ʳ to) → slice_get ks (i + 1) ≡ Some n → to <ʳ time n → IsPlace ks to i
  place_stays ks i n to inside begun at_next before = record {
    inside = inside;
    not_later = λ k h. le_of_lt (begun k h);
    later = λ k h. let same : n ≡ k = cc in subst (λ k. to <ʳ time k) same before;
  }

  -- a signal that goes on beyond a time has a knot after its place there
  pub more_knots : (ks : List (Knot P)) (i : ℕ) (k : Knot P) (t : Rational) → IsPlace ks t i → slice_get ks i ≡ Some k → t <ʳ stop ks → i + 1 < length ks
  more_knots ks i k t p at_i beyond = elim (cases_lt (i + 1) (length ks)) as (λ v. i + 1 < length ks) [
    | inl l ↦ l
    | inr l ↦ absurd (not_lt_of_le (subst (λ s. s ≤ʳ t) (sym (stop_at shape ks i k at_i (slice_get_past ks (i + 1) l))) (p.not_later k at_i)) beyond)
  ]

  -- on the gap up to the next knot a signal is worth what its shape there is
  pub part_on_gap : {n : Knot P} {from to : Rational} (ks : List (Knot P)) (i : ℕ) (k : Knot P) (t : Rational) → IsPlace ks from i → slice_get ks i ≡ Some k
      → slice_get ks (i + 1) ≡ Some n → to ≤ʳ time n → from <ʳ t → t <ʳ to
      → IsWorth shape ks t (value_at (shape.function k.after) t)
  part_on_gap {n} ks i k t p at_i at_next before h l = worth_between shape ks i k n t at_i at_next (lt_of_le_of_lt (p.not_later k at_i) h)
      (lt_of_lt_of_le l before)
