-- A signal read at a time, from the place of the last knot that is not later.
use Rattle.std.proofs.Common.{◌≡◌, ℕ, ◌+◌, ◌<◌, List, length, get_or, Some, refl, subst, arith}
use Rattle.std.specs.Prelude.{slice_get}
use Rattle.std.specs.declared.cmp.Ordering.{Ordering}
use Rattle.std.specs.declared.cmp.Ordering.TheVariants.{Less, Equal, Greater}
use Rattle.std.proofs.lemmas.Option.{slice_get_past, slice_get-get_or}
use Rattle.rational.specs.Rational.{IsOrder}
use Rattle.rational.specs.Time.{Rational, Within, ◌≤ʳ◌, ◌<ʳ◌, ◌≈◌}
use Rattle.rational.specs.Extended.{value_at}
use Rattle.rational.proofs.Order.{not_lt_of_le, same_sym, le_of_lt, le_of_same}
use Rattle.value_laws.specs.Members.{ShapeOf}
use Rattle.pl_signal.specs.declared.knot.Knot.{Knot}
use Rattle.pl_signal.specs.Knots.{time, start, stop, HasShape, IsWorth, IsSignal}
use Rattle.pl_signal.proofs.Values.{worth_within, worth_at, worth_between, shape_at, shape_after, stop_at}

-- not later, and not at one time, is before
pub earlier : (o : Ordering) {a b : Rational} → IsOrder o a b → a ≤ʳ b → ¬ (o ≡ Equal) → a <ʳ b
earlier Less h k n = h
earlier Equal h k n = absurd (n refl)
earlier Greater h k n = absurd (not_lt_of_le k h)

-- what is not later by an answer
pub not_later : (o : Ordering) {a b : Rational} → IsOrder o a b → ¬ (o ≡ Greater) → a ≤ʳ b
not_later Less h n = le_of_lt h
not_later Equal h n = le_of_same h
not_later Greater h n = absurd (n refl)

module _ {P : Type 0} (shape : ShapeOf P) where
  -- p is a shape of the signal that has its value at t
  abbrev pub IsSample : List (Knot P) → Rational → P → Type 0
  IsSample ks t p = Within (start ks) (stop ks) t × HasShape ks p × IsWorth shape ks t (value_at (shape.function p) t)

  -- at a knot the point is read
  pub read_point : (ks : List (Knot P)) (i : ℕ) (k : Knot P) (t : Rational) → IsSignal shape ks → slice_get ks i ≡ Some k → time k ≈ t → IsSample ks t k.point
  read_point ks i k t s h e =
      let w = worth_at shape ks i k t h (same_sym e) in (worth_within shape ks t (value_at (shape.function k.point) t) s w, shape_at shape ks i k h, w)

  -- after a knot, before the next, the shape there
  pub read_after : (ks : List (Knot P)) (i : ℕ) (k : Knot P) (t : Rational) → IsSignal shape ks → slice_get ks i ≡ Some k → i + 1 < length ks → time k <ʳ t
      → ((n : Knot P) → slice_get ks (i + 1) ≡ Some n → t <ʳ time n) → IsSample ks t k.after
  read_after ks i k t s h l a b =
      let next = slice_get-get_or ks (i + 1) k l in
      let w = worth_between shape ks i k (get_or ks (i + 1) k) t h next a (b (get_or ks (i + 1) k) next) in
      (worth_within shape ks t (value_at (shape.function k.after) t) s w, shape_after shape ks i k h, w)

  -- after the last knot nothing
  pub read_none : (ks : List (Knot P)) (i : ℕ) (k : Knot P) (t : Rational) → slice_get ks i ≡ Some k → length ks ≡ i + 1 → time k <ʳ t
      → ¬ (Within (start ks) (stop ks) t)
  read_none ks i k t h l a w =
      let last = stop_at shape ks i k h (slice_get_past ks (i + 1) (omega (arith, l))) in
      not_lt_of_le (subst (λ s. t ≤ʳ s) last w.below) a
