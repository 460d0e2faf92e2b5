-- Numbers split into a whole part and a rest, and their order.
use Rattle.std.proofs.Common.{◌≡◌, ℕ, ℤ, zero, suc, pos, ap, negsuc, ◌+ℤ◌, ◌*ℤ◌, ◌<ℤ◌, ◌*◌, ◌<◌, ◌^◌, arith, refl}
use Rattle.std.specs.Int.RustNames.{unsigned_abs}
use Rattle.std.specs.declared.cmp.Ordering.{Ordering}
use Rattle.std.specs.declared.cmp.Ordering.TheVariants.{Equal}
use Rattle.std.specs.Ordering.{nat_cmp, int_cmp}
use Rattle.std.proofs.lemmas.Int.{ints}
use Rattle.rational.specs.Rational.{◌≈◌, IsOrder, IsWithin, mixed, fraction}
use Rattle.rational.proofs.Order.{same_trans}
use Rattle.rational.proofs.Compare.{order_same}
use borrow.Author.Differences.{up, down}
use Rattle.frac128.specs.declared.frac.Frac.{Frac}
use Rattle.frac128.specs.Value.{value}
use Rattle.rational.proofs.Mixed.{same_by_rest, floor_value, fraction-is, neg_parts, order_by_rest, order_by_whole}

pub record Split (n d w : ℤ) (r : ℕ) : Type 0 where
  -- the denominator is above 0
  pub positive : pos 0 <ℤ d
  -- quotient and rest
  pub sum : w *ℤ d +ℤ pos r ≡ n
  -- the rest is below the denominator
  pub below : r < unsigned_abs d

-- a denominator above 0 has a size above 0
pub abs_pos : (den : ℤ) → pos 0 <ℤ den → 0 < unsigned_abs den
abs_pos (pos n) h = omega (arith, ints)
abs_pos (negsuc n) h = absurd (omega (arith, ints))

-- and is its size
pub is_pos : (den : ℤ) → pos 0 <ℤ den → den ≡ pos (unsigned_abs den)
is_pos (pos n) h = refl
is_pos (negsuc n) h = absurd (omega (arith, ints))

split_value : {n d w : ℤ} {r : ℕ} (m : Split n d w r) → mixed w r (unsigned_abs d) (abs_pos d m.positive) ≈ fraction n d
split_value {n} {d} {w} {r} m =
    let p = abs_pos d m.positive in
    rw (fraction-is n d p m.positive) (floor_value n d w r (unsigned_abs d) p (is_pos d m.positive) m.sum)

-- numbers of one quotient are ordered as their rests
pub order_by_rests : {n d w m e v : ℤ} {r s : ℕ} (o : Ordering) → Split n d w r → Split m e v s → int_cmp w v ≡ Equal
    → o ≡ nat_cmp (r * unsigned_abs e) (s * unsigned_abs d) → IsOrder o (fraction n d) (fraction m e)
order_by_rests {n} {d} {w} {m} {e} {v} {r} {s} o h k i j =
    order_same o (split_value h) (split_value k) (order_by_rest o w v r (unsigned_abs d) s (unsigned_abs e) (abs_pos d h.positive) (abs_pos e k.positive) i j)

-- and of two as their quotients
pub order_by_wholes : {n d w m e v : ℤ} {r s : ℕ} (o : Ordering) → Split n d w r → Split m e v s → o ≡ int_cmp w v
    → (o ≡ Equal → ⊥) → IsOrder o (fraction n d) (fraction m e)
order_by_wholes {n} {d} {w} {m} {e} {v} {r} {s} o h k i j =
    order_same o (split_value h) (split_value k)
    (order_by_whole o w v (abs_pos d h.positive) (abs_pos e k.positive) i j h.below k.below)

-- a fraction by its top
pub top_value : (f : Frac) (top den : ℤ) → top ≡ f.whole *ℤ pos f.den +ℤ pos 1 *ℤ pos f.rest → den ≡ pos f.den → value f ≈ fraction top den
top_value f top den h e =
    let split : Split top den f.whole f.rest = record {
      positive = let p = f.positive in omega (arith, ints, ap (λ z. up z) e, ap (λ z. down z) e);
      sum = rw e sum;
      below = rw e f.below;
    } in
    same_trans (same_by_rest f.whole f.whole f.rest f.den f.rest (unsigned_abs den) f.positive (abs_pos den split.positive) refl
    (ap (λ z. f.rest * unsigned_abs z) e)) (split_value split)
  where
    sum : f.whole *ℤ pos f.den +ℤ pos f.rest ≡ top
    sum = omega (arith, ints)

-- a fraction whose numerator is below 2^62 in size lies within 2^62
pub near_within : (num den : ℤ) → pos 0 <ℤ den → unsigned_abs num < 2 ^ 62 → IsWithin (2 ^ 62) (fraction num den)
near_within num (pos zero) p h = absurd (omega (arith, ints))
near_within (pos n) (pos (suc k)) p h = (record { le = omega (arith, ints, neg_parts (2 ^ 62)) }, record { le = omega (arith, ints) })
near_within (negsuc n) (pos (suc k)) p h = (record { le = omega (arith, ints, neg_parts (2 ^ 62)) }, record { le = omega (arith, ints) })
near_within num (negsuc k) p h = absurd (omega (arith, ints))
