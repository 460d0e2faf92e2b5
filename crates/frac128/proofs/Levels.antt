-- The order of a ramp's value and a constant, by their whole parts first.
use Rattle.std.proofs.Common.{◌≡◌, ℕ, ℤ, pos, negsuc, zero, suc, ◌+ℤ◌, ◌-ℤ◌, ◌-◌, ◌*ℤ◌, ◌<ℤ◌, ◌+◌, ◌*◌, ◌<◌, ◌≤◌}
use Rattle.std.proofs.Common.{◌^◌, arith, refl, ap, subst, mul-le-mul, mul-le-mul_right, mul-lt-mul_of_pos_right}
use Rattle.std.specs.Int.RustNames.{unsigned_abs}
use Rattle.std.proofs.lemmas.Int.{ints}
use Rattle.std.specs.declared.cmp.Ordering.{Ordering}
use Rattle.std.specs.declared.cmp.Ordering.TheVariants.{Less, Equal, Greater}
use Rattle.std.specs.Ordering.{MatchOrdering, int_cmp}
use Rattle.std.specs.Cmp.{int_cmp_is}
use Rattle.std.proofs.lemmas.Cmp.{int_ranked}
use Rattle.rational.specs.Rational.{Rational, part_above, part_below, mixed, fraction, IsOrder}
use Rattle.rational.proofs.Mixed.{parts}
use Rattle.frac128.proofs.Differences.{above, below, above_le, below_le, sum_parts}

-- X * e against Y
scaled_parts : (x : ℤ) (e : ℕ) → part_above (x *ℤ pos e) + part_below x * e ≡ part_below (x *ℤ pos e) + part_above x * e
scaled_parts x e = omega (arith, parts)

-- the order of two fractions is that of their cross products
pub products_order : (o : Ordering) (x : ℤ) (y d e : ℕ) → 0 < d → 0 < e
    → IsOrder o (fraction x (pos d)) (fraction (pos y) (pos e)) → o ≡ int_cmp (x *ℤ pos e) (pos (y * d))
products_order o x y zero e p q h = absurd (omega arith)
products_order o x y (suc d) zero p q h = absurd (omega arith)
products_order Less x y (suc d) (suc e) p q h = int_cmp_is (x *ℤ pos (suc e)) (pos (y * suc d)) Less
    (let l : part_above x * suc e < y * suc d + part_below x * suc e = omega (arith, h.lt) in let s = scaled_parts x (suc e) in omega (arith, parts))
products_order Equal x y (suc d) (suc e) p q h = int_cmp_is (x *ℤ pos (suc e)) (pos (y * suc d)) Equal
    (let l : part_above x * suc e ≡ y * suc d + part_below x * suc e = omega (arith, h.same) in let s = scaled_parts x (suc e) in omega (arith, parts))
products_order Greater x y (suc d) (suc e) p q h = int_cmp_is (x *ℤ pos (suc e)) (pos (y * suc d)) Greater
    (let l : y * suc d + part_below x * suc e < part_above x * suc e = omega (arith, h.lt) in let s = scaled_parts x (suc e) in omega (arith, parts))

-- a factor changes no sign
pub sign_scaled : (o : Ordering) (x : ℤ) (e : ℕ) → 0 < e → o ≡ int_cmp x (pos 0) → o ≡ int_cmp (x *ℤ pos e) (pos 0)
sign_scaled o x e p h = int_cmp_is (x *ℤ pos e) (pos 0) o (by_sign o (int_ranked x (pos 0) o h))
  where
    by_sign : (o : Ordering) → MatchOrdering o (x <ℤ pos 0) (x ≡ pos 0) (pos 0 <ℤ x)
        → MatchOrdering o ((x *ℤ pos e) <ℤ pos 0) (x *ℤ pos e ≡ pos 0) (pos 0 <ℤ (x *ℤ pos e))
    by_sign Less l = below (x *ℤ pos e) (let k : part_above x < part_below x = let l : x <ℤ pos 0 = l in omega (arith, parts) in
        omega (arith, scaled_parts x e, mul-lt-mul_of_pos_right k p))
    by_sign Equal l =
        let k : part_above x ≡ part_below x = let l : x ≡ pos 0 = l in omega (arith, parts) in let s = ap (λ n. n * e) k in
        omega (arith, parts, scaled_parts x e)
    by_sign Greater l = above (x *ℤ pos e) (let k : part_below x < part_above x = let l : pos 0 <ℤ x = l in omega (arith, parts) in
        omega (arith, scaled_parts x e, mul-lt-mul_of_pos_right k p))

pub record Far (ahead rise : ℤ) (run r d s e : ℕ) : Type 0 where
  -- the line is far from the constant
  pub far : 2 ^ 33 ≤ unsigned_abs ahead
  -- its rise is small
  pub small_rise : unsigned_abs rise ≤ 2 ^ 31
  -- and its run
  pub small_run : run ≤ 2 ^ 32
  -- the rest of the time is below its denominator
  pub rest : r < d
  -- and so is that of the constant
  pub other_rest : s < e

above_number : (z : ℤ) (n : ℕ) → part_below z + n < part_above z → pos n <ℤ z
above_number z n h = omega (arith, parts)

below_number : (z : ℤ) (n : ℕ) → part_above z < part_below z → z <ℤ pos n
below_number z n h = omega (arith, parts)

-- a whole number of 2^33 or more settles the order
high : (a rise x : ℤ) (run r d s e : ℕ) → Far a rise run r d s e → part_below a ≡ 0 → x ≡ a *ℤ pos d +ℤ rise *ℤ pos r → pos (run * s * d) <ℤ (x *ℤ pos e)
high a rise x run r d s e f z h = above_number (x *ℤ pos e) (run * s * d) (omega (arith, scaled_parts x e, scaled, other))
  where
    falls : part_below rise * r ≤ 2 ^ 31 * d
    falls = mul-le-mul (let k = f.small_rise in omega (arith, below_le rise)) (let k = f.rest in omega arith)

    large : 2 ^ 33 * d ≤ part_above a * d
    large = mul-le-mul_right d (let k = f.far in omega (arith, parts))

    over : part_below x + (2 ^ 33 - 2 ^ 31) * d ≤ part_above x
    over = omega (arith, sum_parts a rise x r d h, falls, large, ap (λ n. n * d) z)

    scaled : part_below x * e + (2 ^ 33 - 2 ^ 31) * d * e ≤ part_above x * e
    scaled = omega (arith, mul-le-mul_right e over)

    other : run * s * d < (2 ^ 33 - 2 ^ 31) * d * e
    other = let p : 0 < d = let k = f.rest in omega arith in omega (arith, mul-le-mul_right (s * d) f.small_run, mul-lt-mul_of_pos_right f.other_rest p)

low : (a rise x : ℤ) (run r d s e : ℕ) → Far a rise run r d s e → part_above a ≡ 0 → x ≡ a *ℤ pos d +ℤ rise *ℤ pos r → (x *ℤ pos e) <ℤ pos (run * s * d)
low a rise x run r d s e f z h = below_number (x *ℤ pos e) (run * s * d) (omega (arith, scaled_parts x e, mul-lt-mul_of_pos_right under positive))
  where
    positive : 0 < e
    positive = let k = f.other_rest in omega arith

    climbs : part_above rise * r ≤ 2 ^ 31 * d
    climbs = mul-le-mul (let k = f.small_rise in omega (arith, above_le rise)) (let k = f.rest in omega arith)

    large : 2 ^ 33 * d ≤ part_below a * d
    large = mul-le-mul_right d (let k = f.far in omega (arith, parts))

    under : part_above x < part_below x
    under = let k = f.rest in omega (arith, sum_parts a rise x r d h, climbs, large, ap (λ n. n * d) z)

-- far from the constant the whole parts tell the order
pub far_order : (o : Ordering) (ahead rise : ℤ) (run r d s e : ℕ) → Far ahead rise run r d s e → o ≡ int_cmp ahead (pos 0)
    → o ≡ int_cmp ((ahead *ℤ pos d +ℤ rise *ℤ pos r) *ℤ pos e) (pos (run * s * d))
far_order o ahead rise run r d s e f h =
    int_cmp_is ((ahead *ℤ pos d +ℤ rise *ℤ pos r) *ℤ pos e) (pos (run * s * d)) o (by_sign o ahead f (int_ranked ahead (pos 0) o h))
  where
    by_sign : (o : Ordering) (ahead : ℤ) → Far ahead rise run r d s e → MatchOrdering o (ahead <ℤ pos 0) (ahead ≡ pos 0)
        (pos 0 <ℤ ahead) → MatchOrdering o (((ahead *ℤ pos d +ℤ rise *ℤ pos r) *ℤ pos e) <ℤ pos (run * s * d))
        ((ahead *ℤ pos d +ℤ rise *ℤ pos r) *ℤ pos e ≡ pos (run * s * d)) (pos (run * s * d) <ℤ ((ahead *ℤ pos d +ℤ rise *ℤ pos r) *ℤ pos e))
    by_sign Less (pos a) f l = absurd (let l : pos a <ℤ pos 0 = l in omega (arith, ints))
    by_sign Less (negsuc a) f l = low (negsuc a) rise _ run r d s e f refl refl
    by_sign Equal a f l = absurd (let l : a ≡ pos 0 = l in let far = f.far in omega (arith, ints))
    by_sign Greater (pos a) f l = high (pos a) rise _ run r d s e f refl refl
    by_sign Greater (negsuc a) f l = absurd (let l : pos 0 <ℤ negsuc a = l in omega (arith, ints))

-- from the order of the products to that of the numbers
pub order_of_products : {sum x : ℤ} (o : Ordering) (a : Rational) (w : ℤ) (run d s e : ℕ) (p : 0 < e) → a.den ≡ run * d → sum ≡ pos a.up
    -ℤ pos a.down → x ≡ sum -ℤ w *ℤ pos (run * d) → o ≡ int_cmp (x *ℤ pos e) (pos (run * s * d)) → IsOrder o a (mixed w s e p)
order_of_products {sum} {x} o a w run d s e p den h j k = by_order o (int_ranked (x *ℤ pos e) (pos (run * s * d)) o k)
  where
    first : part_above x + a.down + part_above w * (run * d) ≡ part_below x + a.up + part_below w * (run * d)
    first = omega (arith, parts)

    second : part_above (x *ℤ pos e) + a.down * e + part_above w * (run * d) * e ≡ part_below (x *ℤ pos e) + a.up * e + part_below w * (run * d) * e
    second = omega (arith, scaled_parts x e, ap (λ n. n * e) first)

    up_den : part_above w * e * a.den + s * a.den ≡ part_above w * e * (run * d) + s * (run * d)
    up_den = ap (λ n. part_above w * e * n + s * n) den

    down_den : part_below w * e * a.den ≡ part_below w * e * (run * d)
    down_den = ap (λ n. part_below w * e * n) den

    by_order : (o : Ordering) → MatchOrdering o ((x *ℤ pos e) <ℤ pos (run * s * d)) (x *ℤ pos e ≡ pos (run * s * d))
        (pos (run * s * d) <ℤ (x *ℤ pos e)) → IsOrder o a (mixed w s e p)
    by_order Less l = record {
      lt = let m : (x *ℤ pos e) <ℤ pos (run * s * d) = l in
          let k : part_above (x *ℤ pos e) < part_below (x *ℤ pos e) + run * s * d = omega (arith, parts) in omega (arith, second, up_den, down_den);
    }
    by_order Equal l = record {
      same = let m : x *ℤ pos e ≡ pos (run * s * d) = l in
          let k : part_above (x *ℤ pos e) ≡ part_below (x *ℤ pos e) + run * s * d = omega (arith, parts) in omega (arith, second, up_den, down_den);
    }
    by_order Greater l = record {
      lt = let m : pos (run * s * d) <ℤ (x *ℤ pos e) = l in
          let k : part_below (x *ℤ pos e) + run * s * d < part_above (x *ℤ pos e) = omega (arith, parts) in omega (arith, second, up_den, down_den);
    }

-- with no rest of the constant the sign is the order
pub no_rest : (o : Ordering) (x : ℤ) (run d s e : ℕ) → 0 < e → s ≡ 0 → o ≡ int_cmp x (pos 0) → o ≡ int_cmp (x *ℤ pos e) (pos (run * s * d))
no_rest o x run d s e p z h = subst (λ n. o ≡ int_cmp (x *ℤ pos e) (pos n)) zero (sign_scaled o x e p h)
  where
    zero : 0 ≡ run * s * d
    zero = omega (arith, ap (λ n. run * n * d) z)

-- a whole number taken out before the rest is taken out after it
pub moved_down : (here ahead w sum x climb : ℤ) (run d r : ℕ) → ahead ≡ here *ℤ pos 1 -ℤ w *ℤ pos run
    → sum ≡ here *ℤ pos d +ℤ climb *ℤ pos r → x ≡ ahead *ℤ pos d +ℤ climb *ℤ pos r → x ≡ sum -ℤ w *ℤ pos (run * d)
moved_down here ahead w sum x climb run d r h j k =
    by_parts (omega (arith, sum_parts here climb sum r d j, sum_parts ahead climb x r d k, ap (λ n. n * d) first))
  where
    first : part_above ahead + part_below here + part_above w * run ≡ part_below ahead + part_above here + part_below w * run
    first = omega (arith, parts)

    by_parts : part_above x + part_below sum + part_above w * (run * d) ≡ part_below x + part_above sum + part_below w * (run * d)
        → x ≡ sum -ℤ w *ℤ pos (run * d)
    by_parts e = omega (arith, parts)

-- two numbers over one denominator are in the order of their difference and 0
pub order_of_difference : (o : Ordering) (a b : Rational) (x y z : ℤ) → a.den ≡ b.den → x ≡ pos a.up -ℤ pos a.down → y ≡ pos b.up -ℤ pos b.down
    → z ≡ x -ℤ y → o ≡ int_cmp z (pos 0) → IsOrder o a b
order_of_difference o a b x y z d h j k e = by_order o (int_ranked z (pos 0) o e)
  where
    apart : part_above z + a.down + b.up ≡ part_below z + a.up + b.down
    apart = omega (arith, parts)

    up_den : a.up * a.den ≡ a.up * b.den
    up_den = ap (λ n. a.up * n) d

    down_den : a.down * a.den ≡ a.down * b.den
    down_den = ap (λ n. a.down * n) d

    by_order : (o : Ordering) → MatchOrdering o (z <ℤ pos 0) (z ≡ pos 0) (pos 0 <ℤ z) → IsOrder o a b
    by_order Less l = record {
      lt = let m : z <ℤ pos 0 = l in let n : part_above z < part_below z = omega (arith, parts) in
          let q : a.up + b.down < b.up + a.down = omega (arith, apart) in omega (arith, mul-lt-mul_of_pos_right q a.positive, up_den, down_den);
    }
    by_order Equal l = record {
      same = let m : z ≡ pos 0 = l in let n : part_above z ≡ part_below z = omega (arith, parts) in
          let q : a.up + b.down ≡ b.up + a.down = omega (arith, apart) in omega (arith, ap (λ n. n * a.den) q, up_den, down_den);
    }
    by_order Greater l = record {
      lt = let m : pos 0 <ℤ z = l in let n : part_below z < part_above z = omega (arith, parts) in
          let q : b.up + a.down < a.up + b.down = omega (arith, apart) in omega (arith, mul-lt-mul_of_pos_right q a.positive, up_den, down_den);
    }

-- the difference of two sums over one denominator is the sum of the differences
pub sums_apart : {ahead climb x y z : ℤ} (here there rise other : ℤ) (d r : ℕ) → ahead ≡ here *ℤ pos 1 -ℤ there *ℤ pos 1 → climb ≡ rise -ℤ other
    → x ≡ here *ℤ pos d +ℤ rise *ℤ pos r → y ≡ there *ℤ pos d +ℤ other *ℤ pos r → z ≡ ahead *ℤ pos d +ℤ climb *ℤ pos r → z ≡ x -ℤ y
sums_apart {ahead} {climb} {x} {y} {z} here there rise other d r h j k l m =
    by_parts (omega (
      arith,
      sum_parts here rise x r d k,
      sum_parts there other y r d l,
      sum_parts ahead climb z r d m,
      ap (λ n. n * d) first,
      ap (λ n. n * r) second,
    ))
  where
    first : part_above ahead + part_below here + part_above there ≡ part_below ahead + part_above here + part_below there
    first = omega (arith, parts)

    second : part_above climb + part_below rise + part_above other ≡ part_below climb + part_above rise + part_below other
    second = omega (arith, parts)

    by_parts : part_above z + part_below x + part_above y ≡ part_below z + part_above x + part_below y → z ≡ x -ℤ y
    by_parts e = omega (arith, parts)
