-- A line as whole numbers: its sign at a time, and its root.
use Rattle.std.proofs.Common.{◌≡◌, ℕ, ℤ, pos, negsuc, ◌+ℤ◌, ◌-ℤ◌, ◌*ℤ◌, ◌<ℤ◌, neg_ℤ, inl, inr, ◌+◌}
use Rattle.std.proofs.Common.{◌*◌, ◌<◌, ◌≤◌, arith, ap, Option, Some, None, MatchOption}
use Rattle.std.specs.Int.RustNames.{unsigned_abs}
use Rattle.std.proofs.lemmas.Int.{ints}
use Rattle.std.specs.declared.cmp.Ordering.{Ordering}
use Rattle.std.specs.declared.cmp.Ordering.TheVariants.{Less, Equal, Greater}
use Rattle.std.specs.Ordering.{int_cmp}
use Rattle.std.proofs.lemmas.Cmp.{int_ranked}
use Rattle.rational.specs.Rational.{Rational, part_above, part_below, mixed, fraction, whole, IsOrder, ◌≈◌}
use Rattle.rational.specs.Line.{Line, Level, at, gap_line, AreParallel, MeetAt}
use Rattle.rational.proofs.Mixed.{parts, fraction-is, mul_parts}
use Rattle.rational.proofs.Lines.{root_at, root_at_falls, at_gap, same_of_zero, zero_of_same}
use Rattle.rational.proofs.Order.{same_sym, same_trans}
use Rattle.rational.proofs.Meetings.{meet_of_same}
use Rattle.frac128.specs.declared.ratio.Ratio.{Ratio}
use Rattle.frac128.specs.Sizes.{IsQuotient}
use Rattle.frac128.specs.Difference.{IsAbove}
use Rattle.frac128.proofs.Ratios.{abs_pos}

-- the parts of a gap
pub base_parts : {d : Line} {base climb : ℤ} → IsAbove d base climb → part_above base + d.base_down ≡ part_below base + d.base_up
base_parts {d} {base} {climb} h = let e = h.base_is in omega (arith, parts)

-- the parts of its climb
pub climb_parts : {d : Line} {base climb : ℤ} → IsAbove d base climb → part_above climb + d.rise_down ≡ part_below climb + d.rise_up
climb_parts {d} {base} {climb} h = let e = h.climb_is in omega (arith, parts)

-- and a gap from its parts
pub gap_from_parts : (d : Line) (base climb : ℤ) → part_above base + d.base_down ≡ part_below base + d.base_up
    → part_above climb + d.rise_down ≡ part_below climb + d.rise_up → IsAbove d base climb
gap_from_parts d base climb h k = record { base_is = omega (arith, parts); climb_is = omega (arith, parts) }

-- where the line is 0
root_of_gap : (d : Line) (base climb q r : ℤ) → IsAbove d base climb → IsQuotient (neg_ℤ base) climb q r → at d (fraction q r) ≈ whole (pos 0)
root_of_gap d base climb q r g (p, inl h) =
    let a = abs_pos r p in
    let b = base_parts g in
    let c = climb_parts g in
    let e : q ≡ neg_ℤ base = h.0 in
    let k : r ≡ climb = h.1 in
    rw (fraction-is q r a p) (root_at d q (unsigned_abs r) a (omega (arith, parts)) (omega (arith, parts)))
root_of_gap d base climb q r g (p, inr h) =
    let a = abs_pos r p in
    let b = base_parts g in
    let c = climb_parts g in
    let e : q ≡ neg_ℤ (neg_ℤ base) = h.0 in
    let k : r ≡ neg_ℤ climb = h.1 in
    rw (fraction-is q r a p) (root_at_falls d q (unsigned_abs r) a (omega (arith, parts)) (omega (arith, parts)))

not_level : (d : Line) (base climb num q r : ℤ) → IsAbove d base climb → IsQuotient num climb q r → ¬ (Level d)
not_level d base climb num q r g (p, inl h) l = let c = g.climb_is in let e = h.1 in let k = l.level in omega (arith, ints)
not_level d base climb num q r g (p, inr h) l = let c = g.climb_is in let e = h.1 in let k = l.level in omega (arith, ints)

level : (d : Line) (base climb : ℤ) → IsAbove d base climb → climb ≡ pos 0 → Level d
level d base climb g e = record { level = let c = g.climb_is in omega (arith, ints) }

-- two lines meet at the root of their gap
pub meeting : (f g : Line) (base climb : ℤ) (o : Option Ratio) → IsAbove (gap_line f g) base climb
    → MatchOption o (climb ≡ pos 0) (λ q. IsQuotient (neg_ℤ base) climb q.num q.den)
    → MatchOption o (AreParallel f g) (λ q. ¬ (AreParallel f g) × MeetAt f g (fraction q.num q.den))
meeting f g base climb None h k = level (gap_line f g) base climb h k
meeting f g base climb (Some q) h k =
    let t = fraction q.num q.den in
    let n = not_level (gap_line f g) base climb (neg_ℤ base) q.num q.den h k in
    (n, meet_of_same f g t n (same_of_zero (same_trans (same_sym (at_gap f g t)) (root_of_gap (gap_line f g) base climb q.num q.den h k))))

-- the value of a line at a whole part and a rest, over the run and the denominator
pub ahead_is : (d : Line) (base climb w ahead sum : ℤ) (r k : ℕ) (p : 0 < k) → IsAbove d base climb → ahead ≡ base +ℤ climb *ℤ w
    → sum ≡ ahead *ℤ pos k +ℤ climb *ℤ pos r → sum ≡ pos (at d (mixed w r k p)).up -ℤ pos (at d (mixed w r k p)).down
ahead_is d base climb w ahead sum r k p g h j = from_parts sum (at d (mixed w r k p)).up (at d (mixed w r k p)).down total
  where
    from_parts : (z : ℤ) (m n : ℕ) → part_above z + n ≡ part_below z + m → z ≡ pos m -ℤ pos n
    from_parts z m n e = omega (arith, parts)

    moved : part_above (climb *ℤ w) + (d.rise_up * part_below w + d.rise_down * part_above w)
        ≡ part_below (climb *ℤ w) + (d.rise_up * part_above w + d.rise_down * part_below w)
    moved = omega (arith, mul_parts climb w, ap (λ n. n * part_above w) (climb_parts g), ap (λ n. n * part_below w) (climb_parts g))

    first : part_above ahead + part_below base + part_below (climb *ℤ w) ≡ part_below ahead + part_above base + part_above (climb *ℤ w)
    first = omega (arith, parts)

    second : part_above ahead + d.base_down + (d.rise_up * part_below w + d.rise_down * part_above w)
        ≡ part_below ahead + d.base_up + (d.rise_up * part_above w + d.rise_down * part_below w)
    second = omega (arith, first, moved, base_parts g)

    third : part_above sum + part_below ahead * k + part_below climb * r ≡ part_below sum + part_above ahead * k + part_above climb * r
    third = omega (arith, parts)

    total : part_above sum + (at d (mixed w r k p)).down ≡ part_below sum + (at d (mixed w r k p)).up
    total = omega (arith, third, ap (λ n. n * k) second, ap (λ n. n * r) (climb_parts g))

-- the sign of a number is that of its pair's difference
pub sign_of : (o : Ordering) (sum : ℤ) (a : Rational) → sum ≡ pos a.up -ℤ pos a.down → o ≡ int_cmp sum (pos 0) → IsOrder o a (whole (pos 0))
sign_of Less sum a h k = record { lt = let l = int_ranked sum (pos 0) Less k in omega (arith, ints) }
sign_of Equal sum a h k = record { same = let l = int_ranked sum (pos 0) Equal k in omega (arith, ints) }
sign_of Greater sum a h k = record { lt = let l = int_ranked sum (pos 0) Greater k in omega (arith, ints) }

-- the part of a number above 0 is at most its size
pub above_le : (z : ℤ) → part_above z ≤ unsigned_abs z
above_le (pos n) = omega arith
above_le (negsuc n) = omega arith

-- and so is the part below
pub below_le : (z : ℤ) → part_below z ≤ unsigned_abs z
below_le (pos n) = omega arith
below_le (negsuc n) = omega arith

-- the parts of a sum of products
pub sum_parts : (ahead climb sum : ℤ) (r k : ℕ) → sum ≡ ahead *ℤ pos k +ℤ climb *ℤ pos r
    → part_above sum + part_below ahead * k + part_below climb * r ≡ part_below sum + part_above ahead * k + part_above climb * r
sum_parts ahead climb sum r k e = omega (arith, parts)

-- a number with more above than below is above 0
pub above : (z : ℤ) → part_below z < part_above z → pos 0 <ℤ z
above z h = omega (arith, parts)

-- and one with less is below
pub below : (z : ℤ) → part_above z < part_below z → z <ℤ pos 0
below z h = omega (arith, parts)

-- two lines are one exactly where their gap is 0 and does not climb
pub zero_everywhere : (f g : Line) (base climb : ℤ) → IsAbove (gap_line f g) base climb → (base ≡ pos 0) × (climb ≡ pos 0) → (t : Rational) → at f t ≈ at g t
zero_everywhere f g base climb h e t = same_of_zero (same_trans (same_sym (at_gap f g t)) (flat (gap_line f g) t base_zero climb_zero))
  where
    base_zero : (gap_line f g).base_up ≡ (gap_line f g).base_down
    base_zero = let b = h.base_is in let z = e.0 in omega (arith, ints)

    climb_zero : (gap_line f g).rise_up ≡ (gap_line f g).rise_down
    climb_zero = let b = h.climb_is in let z = e.1 in omega (arith, ints)

    flat : (d : Line) (t : Rational) → d.base_up ≡ d.base_down → d.rise_up ≡ d.rise_down → at d t ≈ whole (pos 0)
    flat d t b r = record { same = omega (arith, ap (λ n. n * t.den) b, ap (λ n. n * t.up) r, ap (λ n. n * t.down) r) }

-- lines that are one have the gap 0
pub everywhere_zero : (f g : Line) (base climb : ℤ) → IsAbove (gap_line f g) base climb → ((t : Rational) → at f t ≈ at g t) → (base ≡ pos 0) × (climb ≡ pos 0)
everywhere_zero f g base climb h e = (let b = h.base_is in omega (arith, ints, at_start), let b = h.climb_is in omega (arith, ints, at_start, at_end))
  where
    zero : (t : Rational) → at (gap_line f g) t ≈ whole (pos 0)
    zero t = same_trans (at_gap f g t) (zero_of_same (e t))

    at_start : (gap_line f g).base_up ≡ (gap_line f g).base_down
    at_start = omega (arith, (zero (whole (pos 0))).same)

    at_end : (gap_line f g).base_up + (gap_line f g).rise_up ≡ (gap_line f g).base_down + (gap_line f g).rise_down
    at_end = omega (arith, (zero (whole (pos 1))).same)
