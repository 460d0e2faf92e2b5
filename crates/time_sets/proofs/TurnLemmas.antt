-- The order of places by what turns keep.
use Rattle.std.proofs.Common.{◌≡◌, ◌≢◌, ◌⊎◌, inl, inr, ℕ, zero, suc, ◌+◌, ◌*◌, ◌<◌, ◌≤◌, Bool, true, false}
use Rattle.std.proofs.Common.{ℤ, pos, negsuc, ◌+ℤ◌, ◌*ℤ◌, ◌<ℤ◌, ◌≤ℤ◌, refl, sym, ap, ◌∙◌, arith}
use Rattle.std.specs.Prelude.{◌==◌}
use Rattle.std.proofs.lemmas.Int.{ints}
use Rattle.std.proofs.lemmas.Nat.{mod_below}
use Rattle.std.proofs.Math.Nat.{zero-lt-suc}
use mir.Val.{bool_byte}
use Rattle.std.specs.Int.{int_rem_euclid}
use Rattle.std.specs.Int.RustNames.{unsigned_abs}
use Rattle.std.specs.declared.cmp.Ordering.{Ordering}
use Rattle.std.specs.declared.cmp.Ordering.TheVariants.{Less, Equal, Greater}
use Rattle.std.specs.Ordering.{int_cmp, nat_cmp}
use Rattle.std.proofs.lemmas.Cmp.{ranked, int_ranked}
use Rattle.rational.specs.Rational.{mixed, fraction, whole, part_above, part_below, ◌≈◌}
use Rattle.rational.specs.Places.{Place, Before, Same}
use Rattle.rational.proofs.PlaceLemmas.{before_trans, not_before_itself}
use Rattle.rational.proofs.Mixed.{floor_split, floor_value, lt_by_whole, lt_by_rest, same_by_rest}
use Rattle.time_sets.specs.Twice.{floor_of, is_after}
use Rattle.time_sets.specs.Turns.{IsPlaceOrder}

-- a number with no rest
pub whole_mixed : (w v : ℤ) (r d : ℕ) (p : 0 < d) → w ≡ v → r ≡ 0 → whole w ≈ mixed v r d p
whole_mixed w v r d p e h = record { same = omega (arith, h, ap (λ k. part_above k * d) e, ap (λ k. part_below k * d) e) }

-- the lowest bit
abbrev bit : ℤ → ℕ
bit z = unsigned_abs (int_rem_euclid z (pos 2))

rem_pos : (z : ℤ) → int_rem_euclid z (pos 2) ≡ pos (bit z)
rem_pos (pos a) = refl
rem_pos (negsuc a) = refl

bit_small : (z : ℤ) → bit z < 2
bit_small (pos a) = mod_below a 2 (zero-lt-suc 1)
bit_small (negsuc a) = omega arith

-- a number is twice its floor and its bit
split : (z : ℤ) → floor_of z *ℤ pos 2 +ℤ pos (bit z) ≡ z
split z = ap (λ r. floor_of z *ℤ pos 2 +ℤ r) (sym (rem_pos z)) ∙ floor_split z (pos 2) (omega (arith, ints))

by_bit : (n m : ℕ) → n ≡ m → (n == 1) ≡ (m == 1)
by_bit n m e = ap (λ k. k == 1) e

bit_zero : (n : ℕ) → n ≡ 0 → (n == 1) ≡ false
bit_zero n e = by_bit n 0 e

bit_one : (n : ℕ) → n ≡ 1 → (n == 1) ≡ true
bit_one n e = by_bit n 1 e

-- arithmetic of twice a floor and a bit
floors_rise : (f g z y : ℤ) (b c : ℕ) → f *ℤ pos 2 +ℤ pos b ≡ z → g *ℤ pos 2 +ℤ pos c ≡ y → b < 2 → c < 2 → z <ℤ y → f ≢ g → f <ℤ g
floors_rise f g z y b c e h i j l n = omega (arith, ints, e, h, i, j, l, n)

bits_rise : (f g z y : ℤ) (b c : ℕ) → f *ℤ pos 2 +ℤ pos b ≡ z → g *ℤ pos 2 +ℤ pos c ≡ y → b < 2 → c < 2 → z <ℤ y → f ≡ g → (b ≡ 0) × (c ≡ 1)
bits_rise f g z y b c e h i j l n = (omega (arith, ints, e, h, i, j, l, n), omega (arith, ints, e, h, i, j, l, n))

same_floors : (z y : ℤ) → floor_of z ≡ floor_of y ⊎ floor_of z ≢ floor_of y
same_floors z y = decided (floor_of z) (floor_of y)
  where
    decided : (f g : ℤ) → f ≡ g ⊎ f ≢ g
    decided f g = by_order (int_cmp f g) refl
      where
        by_order : (o : Ordering) → o ≡ int_cmp f g → f ≡ g ⊎ f ≢ g
        by_order Less e = inr (λ s. let l = int_ranked f g Less e in omega (arith, ints, l, s))
        by_order Equal e = inl (int_ranked f g Equal e)
        by_order Greater e = inr (λ s. let l = int_ranked f g Greater e in omega (arith, ints, l, s))

module _ (z y : ℤ) (r d s e : ℕ) (p : 0 < d) (q : 0 < e) where
  -- the two places
  abbrev here : Place
  here = record { at = mixed (floor_of z) r d p; after = is_after z }

  abbrev there : Place
  there = record { at = mixed (floor_of y) s e q; after = is_after y }

-- the floors differ, or above them the two times are one
abbrev pub IsPlain : (z y : ℤ) (r d s e : ℕ) → Type 0
IsPlain z y r d s e = floor_of z ≢ floor_of y ⊎ r * e ≡ s * d

-- a lesser twice is an earlier place
before_by_twice : (z y : ℤ) (r d s e : ℕ) (p : 0 < d) (q : 0 < e) → r < d → IsPlain z y r d s e → z <ℤ y
    → Before (here z y r d s e p q) (there z y r d s e p q)
before_by_twice z y r d s e p q below plain l = by_floors (same_floors z y) plain
  where
    by_floors : floor_of z ≡ floor_of y ⊎ floor_of z ≢ floor_of y → IsPlain z y r d s e
        → Before (here z y r d s e p q) (there z y r d s e p q)
    by_floors (inr n) plain = inl (lt_by_whole (floor_of z) (floor_of y) r d s e p q
        (floors_rise (floor_of z) (floor_of y) z y (bit z) (bit y) (split z) (split y) (bit_small z) (bit_small y) l n) below)
    by_floors (inl f) (inl n) = absurd (n f)
    by_floors (inl f) (inr same) =
        let bits = bits_rise (floor_of z) (floor_of y) z y (bit z) (bit y) (split z) (split y) (bit_small z) (bit_small y) l f in
        inr (same_by_rest (floor_of z) (floor_of y) r d s e p q f same, bit_zero (bit z) bits.0, bit_one (bit y) bits.1)

plain_sym : (z y : ℤ) (r d s e : ℕ) → IsPlain z y r d s e → IsPlain y z s e r d
plain_sym z y r d s e (inl n) = inl (λ x. n (sym x))
plain_sym z y r d s e (inr h) = inr (sym h)

-- where the floors differ, or above them the two times are one, the order is that of the twices
pub order_by_twice : (o : Ordering) (z y : ℤ) (r d s e : ℕ) (p : 0 < d) (q : 0 < e) → r < d → s < e → IsPlain z y r d s e → o ≡ int_cmp z y
    → IsPlaceOrder o (record { at = mixed (floor_of z) r d p; after = is_after z }) (record { at = mixed (floor_of y) s e q; after = is_after y })
order_by_twice Less z y r d s e p q i j plain h = before_by_twice z y r d s e p q i plain (int_ranked z y Less h)
order_by_twice Equal z y r d s e p q i j plain h = let same = int_ranked z y Equal h in by_plain plain same
  where
    by_plain : IsPlain z y r d s e → z ≡ y
        → Same (record { at = mixed (floor_of z) r d p; after = is_after z }) (record { at = mixed (floor_of y) s e q; after = is_after y })
    by_plain (inl n) same = absurd (n (ap floor_of same))
    by_plain (inr k) same = (same_by_rest (floor_of z) (floor_of y) r d s e p q (ap floor_of same) k, ap is_after same)
order_by_twice Greater z y r d s e p q i j plain h = before_by_twice y z s e r d q p j (plain_sym z y r d s e plain) (int_ranked z y Greater h)

-- above one floor two rests that differ decide
pub order_by_rests : (o : Ordering) (z y : ℤ) (r d s e : ℕ) (p : 0 < d) (q : 0 < e) → floor_of z ≡ floor_of y → r * e ≢ s * d
    → o ≡ nat_cmp (r * e) (s * d)
    → IsPlaceOrder o (record { at = mixed (floor_of z) r d p; after = is_after z }) (record { at = mixed (floor_of y) s e q; after = is_after y })
order_by_rests Less z y r d s e p q f n h = inl (lt_by_rest (floor_of z) (floor_of y) r d s e p q f (ranked (r * e) (s * d) Less h))
order_by_rests Equal z y r d s e p q f n h = absurd (n (ranked (r * e) (s * d) Equal h))
order_by_rests Greater z y r d s e p q f n h = inl (lt_by_rest (floor_of y) (floor_of z) s e r d q p (sym f) (ranked (r * e) (s * d) Greater h))

-- the floor of twice a number and a bit is that number
pub floor_back : (z f : ℤ) (n : ℕ) → z ≡ pos 2 *ℤ f +ℤ pos n → n < 2 → floor_of z ≡ f
floor_back z f n e h = same (floor_of z) (bit z) (split z) (bit_small z)
  where
    same : (g : ℤ) (b : ℕ) → g *ℤ pos 2 +ℤ pos b ≡ z → b < 2 → g ≡ f
    same g b s k = omega (arith, ints, s, e, h, k)

bit_back : (z f : ℤ) (n : ℕ) → z ≡ pos 2 *ℤ f +ℤ pos n → n < 2 → bit z ≡ n
bit_back z f n e h = same (floor_of z) (bit z) (split z) (bit_small z)
  where
    same : (g : ℤ) (b : ℕ) → g *ℤ pos 2 +ℤ pos b ≡ z → b < 2 → b ≡ n
    same g b s k = omega (arith, ints, s, e, h, k)

one_of : (b : Bool) → (bool_byte b == 1) ≡ b
one_of true = refl
one_of false = refl

-- a truth is a bit
pub byte_small : (b : Bool) → bool_byte b < 2
byte_small true = omega arith
byte_small false = omega arith

-- twice a floor and its bit, taken apart again
pub twice_apart : (z f : ℤ) (b : Bool) → z ≡ pos 2 *ℤ f +ℤ pos (bool_byte b) → (floor_of z ≡ f) × (is_after z ≡ b)
twice_apart z f b e = (
  floor_back z f (bool_byte b) e (byte_small b),
  by_bit (bit z) (bool_byte b) (bit_back z f (bool_byte b) e (byte_small b)) ∙ one_of b,
)

-- a place that comes before another has no larger floor
pub floors_in_order : (z y : ℤ) (r d s e : ℕ) (p : 0 < d) (q : 0 < e) → s < e
    → Before (record { at = mixed (floor_of z) r d p; after = is_after z }) (record { at = mixed (floor_of y) s e q; after = is_after y })
    → floor_of z ≤ℤ floor_of y
floors_in_order z y r d s e p q below b = by_order (int_cmp (floor_of y) (floor_of z)) refl
  where
    ordered : (f g : ℤ) (o : Ordering) → o ≡ int_cmp f g → (f <ℤ g) ⊎ (g ≤ℤ f)
    ordered f g Less e = inl (int_ranked f g Less e)
    ordered f g Equal e = inr (let s = int_ranked f g Equal e in omega (arith, ints, s))
    ordered f g Greater e = inr (let l = int_ranked f g Greater e in omega (arith, ints, l))

    by_order : (o : Ordering) → o ≡ int_cmp (floor_of y) (floor_of z) → floor_of z ≤ℤ floor_of y
    by_order o h = elim (ordered (floor_of y) (floor_of z) o h) [
      | inl l ↦ absurd (not_before_itself (here z y r d s e p q) (before_trans (here z y r d s e p q) (there z y r d s e p q) (here z y r d s e p q) b
          (inl (lt_by_whole (floor_of y) (floor_of z) s e r d q p l below))))
      | inr k ↦ k
    ]

-- what lies between two small numbers is small
pub small_between : (f g h : ℤ) (n : ℕ) → f ≤ℤ g → g ≤ℤ h → unsigned_abs f ≤ n → unsigned_abs h ≤ n → unsigned_abs g ≤ n
small_between f g h n i j k l = omega (arith, ints, i, j, k, l)

-- a floor and a rest are the parts of the fraction that they make up
pub mixed_fraction : (f g : ℤ) (r d : ℕ) (p : 0 < d) → g ≡ f → mixed g r d p ≈ fraction (f *ℤ pos d +ℤ pos r) (pos d)
mixed_fraction f g r zero p e = absurd (omega (arith, p))
mixed_fraction f g r (suc k) p e =
    record { same = (floor_value (f *ℤ pos (suc k) +ℤ pos r) (pos (suc k)) g r (suc k) p refl (ap (λ w. w *ℤ pos (suc k) +ℤ pos r) e)).same }
