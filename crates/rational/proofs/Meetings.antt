-- Where two lines meet: at most once unless they are parallel, and between two times exactly where their order turns over.
use Rattle.std.proofs.Common.{pos, ◌⊎◌, inl, inr, refl, arith}
use Rattle.std.specs.declared.cmp.Ordering.{Ordering}
use Rattle.std.specs.declared.cmp.Ordering.TheVariants.{Less, Equal, Greater}
use Rattle.rational.specs.Rational.{Rational, ◌≤ʳ◌, ◌<ʳ◌, ◌≈◌, subtract, whole, IsOrder}
use Rattle.rational.specs.Line.{Line, Rises, Falls, Level, at, gap_line, AreParallel, MeetAt, CrossAt, AreOpposite}
use Rattle.rational.proofs.Order.{le_of_lt, le_of_same, ge_of_same, le_trans, lt_of_le_of_lt, lt_of_lt_of_le}
use Rattle.rational.proofs.Order.{lt_or_same_or_gt, not_lt_of_le, lt_trans, same_refl, same_sym, same_trans}
use Rattle.rational.proofs.Compare.{order_same}
use Rattle.rational.proofs.Lines.{same_at, lt_at_cancel, at_gap, at_level, slope_of, lt_at, lt_at_falls, same_of_zero, zero_of_same}

-- the sign of a difference is the order
pub order_of_difference : (o : Ordering) (a b : Rational) → IsOrder o (subtract a b) (whole (pos 0)) → IsOrder o a b
order_of_difference Less a b h = omega arith
order_of_difference Equal a b h = same_of_zero h
order_of_difference Greater a b h = omega arith

-- the sign of the gap of two lines is their order
pub order_of_gap : (o : Ordering) (f g : Line) (t : Rational) → IsOrder o (at (gap_line f g) t) (whole (pos 0)) → IsOrder o (at f t) (at g t)
order_of_gap o f g t h = order_of_difference o (at f t) (at g t) (order_same o (at_gap f g t) (same_refl (whole (pos 0))) h)

zero_gap : (f g : Line) (t : Rational) → at f t ≈ at g t → at (gap_line f g) t ≈ whole (pos 0)
zero_gap f g t h = same_trans (at_gap f g t) (zero_of_same h)

-- parallel lines that meet are one
pub same_parallels : (f g : Line) (t : Rational) → AreParallel f g → at f t ≈ at g t → (u : Rational) → at f u ≈ at g u
same_parallels f g t p h u = same_of_zero (same_trans (same_sym (at_gap f g u)) (same_trans (at_level u t (gap_line f g) p) (zero_gap f g t h)))

parallel_of_two : (f g : Line) (t u : Rational) → t <ʳ u → at f t ≈ at g t → at f u ≈ at g u → AreParallel f g
parallel_of_two f g t u h j k = by_slope (slope_of (gap_line f g))
  where
    by_slope : Rises (gap_line f g) ⊎ Level (gap_line f g) ⊎ Falls (gap_line f g) → AreParallel f g
    by_slope (inl p) = absurd (not_lt_of_le (le_of_same (same_trans (zero_gap f g u k) (same_sym (zero_gap f g t j)))) (lt_at (gap_line f g) p h))
    by_slope (inr (inl p)) = p
    by_slope (inr (inr p)) = absurd (not_lt_of_le (le_of_same (same_trans (zero_gap f g t j) (same_sym (zero_gap f g u k)))) (lt_at_falls (gap_line f g) p h))

-- lines that are not parallel meet at most once
pub meet_of_same : (f g : Line) (t : Rational) → ¬ (AreParallel f g) → at f t ≈ at g t → MeetAt f g t
meet_of_same f g t n h = record { equal = h; alone = λ u k. by_order u k (lt_or_same_or_gt t u) }
  where
    by_order : (u : Rational) → at f u ≈ at g u → (t <ʳ u) ⊎ (t ≈ u) ⊎ (u <ʳ t) → u ≈ t
    by_order u k (inl l) = absurd (n (parallel_of_two f g t u l h k))
    by_order u k (inr (inl e)) = same_sym e
    by_order u k (inr (inr l)) = absurd (n (parallel_of_two f g u t l k h))

-- two pairs of one time are one meeting
pub meet_same : {t u : Rational} (f g : Line) → t ≈ u → MeetAt f g t → MeetAt f g u
meet_same f g e m = record {
  equal = same_trans (same_sym (same_at f e)) (same_trans m.equal (same_at g e));
  alone = λ v k. same_trans (m.alone v k) e;
}

-- so for a crossing between two times
pub cross_same : {l r t u : Rational} (f g : Line) → t ≈ u → CrossAt f g l r t → CrossAt f g l r u
cross_same f g e c = record { after = lt_of_lt_of_le c.after (le_of_same e); before = lt_of_le_of_lt (ge_of_same e) c.before; meet = meet_same f g e c.meet }

-- lines that meet once are not parallel
pub not_parallel_of_meet : (f g : Line) (t u : Rational) → ¬ (u ≈ t) → MeetAt f g t → ¬ (AreParallel f g)
not_parallel_of_meet f g t u n m p = n (m.alone u (same_parallels f g t p m.equal u))

-- lines in one order at both ends do not cross between them
pub not_crossed : (f g : Line) (l r t : Rational) → l <ʳ r → at f l ≤ʳ at g l → at f r ≤ʳ at g r → ¬ (CrossAt f g l r t)
not_crossed f g l r t h j k c = by_slope (slope_of (gap_line f g))
  where
    zero : at (gap_line f g) t ≈ whole (pos 0)
    zero = zero_gap f g t c.meet.equal

    at_end : (u : Rational) → at f u ≤ʳ at g u → at (gap_line f g) u ≤ʳ at (gap_line f g) t
    at_end u i = le_trans (le_trans (le_of_same (at_gap f g u)) (low u i)) (ge_of_same zero)
      where
        low : (u : Rational) → at f u ≤ʳ at g u → subtract (at f u) (at g u) ≤ʳ whole (pos 0)
        low u i = omega (arith, i.le)

    by_slope : Rises (gap_line f g) ⊎ Level (gap_line f g) ⊎ Falls (gap_line f g) → ⊥
    by_slope (inl p) = not_lt_of_le (at_end r k) (lt_at (gap_line f g) p c.before)
    by_slope (inr (inl p)) = not_lt_of_le (ge_of_same (c.meet.alone l (same_parallels f g t p c.meet.equal l))) c.after
    by_slope (inr (inr p)) = not_lt_of_le (at_end l j) (lt_at_falls (gap_line f g) p c.after)

-- a meeting of lines that change their order lies between
pub crossed : (f g : Line) (l r t : Rational) → l <ʳ r → at f l <ʳ at g l → at g r <ʳ at f r → at f t ≈ at g t → (l <ʳ t) × (t <ʳ r)
crossed f g l r t h j k e = by_slope (slope_of (gap_line f g))
  where
    zero : at (gap_line f g) t ≈ whole (pos 0)
    zero = zero_gap f g t e

    low : at (gap_line f g) l <ʳ at (gap_line f g) t
    low = lt_of_lt_of_le (lt_of_le_of_lt (le_of_same (at_gap f g l)) (omega (arith, j.lt))) (ge_of_same zero)

    high : at (gap_line f g) t <ʳ at (gap_line f g) r
    high = lt_of_le_of_lt (le_of_same zero) (lt_of_lt_of_le (omega (arith, k.lt)) (ge_of_same (at_gap f g r)))

    by_slope : Rises (gap_line f g) ⊎ Level (gap_line f g) ⊎ Falls (gap_line f g) → (l <ʳ t) × (t <ʳ r)
    by_slope (inl p) = (lt_at_cancel (gap_line f g) p low, lt_at_cancel (gap_line f g) p high)
    by_slope (inr (inl p)) = absurd (not_lt_of_le (le_of_same (at_level t l (gap_line f g) p)) low)
    by_slope (inr (inr p)) = absurd (not_lt_of_le (le_of_lt (lt_trans low high)) (lt_at_falls (gap_line f g) p h))

-- a meeting is one of either line with the other
pub meet_swap : {t : Rational} (f g : Line) → MeetAt f g t → MeetAt g f t
meet_swap f g m = record { equal = same_sym m.equal; alone = λ u k. m.alone u (same_sym k) }

-- so for a crossing
pub cross_swap : {l r t : Rational} (f g : Line) → CrossAt f g l r t → CrossAt g f l r t
cross_swap f g c = record { after = c.after; before = c.before; meet = meet_swap f g c.meet }

-- lines whose order does not turn over do not cross
pub not_turned : (before after : Ordering) (f g : Line) (l r t : Rational) → l <ʳ r → ¬ (AreOpposite before after)
    → IsOrder before (at f l) (at g l) → IsOrder after (at f r) (at g r) → ¬ (CrossAt f g l r t)
not_turned Less Less f g l r t h n j k = not_crossed f g l r t h (le_of_lt j) (le_of_lt k)
not_turned Less Equal f g l r t h n j k = not_crossed f g l r t h (le_of_lt j) (le_of_same k)
not_turned Less Greater f g l r t h n j k = absurd (n refl)
not_turned Equal Less f g l r t h n j k = not_crossed f g l r t h (le_of_same j) (le_of_lt k)
not_turned Equal Equal f g l r t h n j k = not_crossed f g l r t h (le_of_same j) (le_of_same k)
not_turned Equal Greater f g l r t h n j k = λ c. not_crossed g f l r t h (ge_of_same j) (le_of_lt k) (cross_swap f g c)
not_turned Greater Less f g l r t h n j k = absurd (n refl)
not_turned Greater Equal f g l r t h n j k = λ c. not_crossed g f l r t h (le_of_lt j) (ge_of_same k) (cross_swap f g c)
not_turned Greater Greater f g l r t h n j k = λ c. not_crossed g f l r t h (le_of_lt j) (le_of_lt k) (cross_swap f g c)

-- lines whose order turns over meet between
pub turned : (before after : Ordering) (f g : Line) (l r t : Rational) → l <ʳ r → AreOpposite before after
    → IsOrder before (at f l) (at g l) → IsOrder after (at f r) (at g r) → MeetAt f g t → CrossAt f g l r t
turned Less Greater f g l r t h n j k m = let b = crossed f g l r t h j k m.equal in record { after = b.0; before = b.1; meet = m }
turned Equal Less f g l r t h n j k m = absurd n
turned Equal Equal f g l r t h n j k m = absurd n
turned Equal Greater f g l r t h n j k m = absurd n
turned Greater Less f g l r t h n j k m = let b = crossed g f l r t h j k (same_sym m.equal) in record { after = b.0; before = b.1; meet = m }
turned _ _ f g l r t h n j k m = absurd (cc)

-- parallel lines do not cross
pub parallels_do_not_cross : (f g : Line) (l r t : Rational) → AreParallel f g → ¬ (CrossAt f g l r t)
parallels_do_not_cross f g l r t p c = not_parallel_of_meet f g t l (λ e. not_lt_of_le (ge_of_same e) c.after) c.meet p
