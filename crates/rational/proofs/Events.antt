-- The events of two signals: knots, at which a signal is not affine, and crossings.
use Rattle.std.proofs.Common.{◌⊎◌, inl, inr, pos, arith, ℕ}
use Rattle.rational.specs.Rational.{Rational, subtract, whole, ◌<ʳ◌, ◌≤ʳ◌, ◌≈◌}
use Rattle.rational.specs.Line.{Line, at, gap_line}
use Rattle.rational.specs.Extended.{◌≤ᵉ◌, ◌<ᵉ◌, ◌≈ᵉ◌, Affine, always_low, affine, always_high, value_at}
use Rattle.rational.specs.Affine.{AreSame}
use Rattle.rational.specs.InPlay.{IsBreakpoint, start, stop, inner, IsCrossing, IsWideCrossing, IsWideValue}
use Rattle.rational.specs.Windows.{Function}
use Rattle.rational.proofs.Order.{le_of_same, ge_of_same, le_trans, lt_of_le_of_lt, same_trans}
use Rattle.rational.proofs.Lines.{at_gap}
use Rattle.rational.proofs.Sup.{below_an_end}
use Rattle.rational.proofs.ExtendedLemmas.{le_totalᵉ, clashᵉ}
use Rattle.rational.proofs.AffineLemmas.{same_symᵉ, affine_unique}
use Rattle.rational.specs.Onward.{IsBelow, InOrder}

-- two affine functions that have one value at two times are one
pub same_by_two : (f g : Affine) (t u : Rational) → t <ʳ u → value_at f t ≈ᵉ value_at g t → value_at f u ≈ᵉ value_at g u → AreSame f g
same_by_two f g t u h a b = λ s. record {
  at_most = affine_unique f g t u s h a b;
  at_least = affine_unique g f t u s h (same_symᵉ (value_at f t) (value_at g t) a) (same_symᵉ (value_at f u) (value_at g u) b);
}

-- lines that are in one strict order at both ends of a gap are so in it
line_strictly : {l t r : Rational} (f g : Line) → l <ʳ t → t <ʳ r → at f l <ʳ at g l → at f r <ʳ at g r → at f t <ʳ at g t
line_strictly {l} {t} {r} f g h k a b = from_zero (by_end (below_an_end (gap_line f g) h k))
  where
    low : (u : Rational) → at f u <ʳ at g u → at (gap_line f g) u <ʳ whole (pos 0)
    low u i = lt_of_le_of_lt (le_of_same (at_gap f g u)) (below u i)
      where
        below : (u : Rational) → at f u <ʳ at g u → subtract (at f u) (at g u) <ʳ whole (pos 0)
        below u i = omega (arith, i.lt)

    by_end : (at (gap_line f g) t ≤ʳ at (gap_line f g) l) ⊎ (at (gap_line f g) t ≤ʳ at (gap_line f g) r) → at (gap_line f g) t <ʳ whole (pos 0)
    by_end (inl i) = lt_of_le_of_lt i (low l a)
    by_end (inr i) = lt_of_le_of_lt i (low r b)

    from_zero : at (gap_line f g) t <ʳ whole (pos 0) → at f t <ʳ at g t
    from_zero i = from_difference (lt_of_le_of_lt (ge_of_same (at_gap f g t)) i)
      where
        from_difference : subtract (at f t) (at g t) <ʳ whole (pos 0) → at f t <ʳ at g t
        from_difference i = omega (arith, i.lt)

strictly : (f g : Affine) (l t r : Rational) → l <ʳ t → t <ʳ r → value_at f l <ᵉ value_at g l → value_at f r <ᵉ value_at g r → value_at f t <ᵉ value_at g t
strictly always_low (affine g) l t r h k a b = tt
strictly always_low always_high l t r h k a b = tt
strictly (affine f) (affine g) l t r h k a b = line_strictly f g h k a b
strictly (affine f) always_high l t r h k a b = tt
strictly _ _ l t r h k a b = a

-- functions in one order at both ends of a gap do not cross in it
pub not_crossed : (f g : Affine) (l t r : Rational) → InOrder f g l r → l <ʳ t → t <ʳ r → ¬ IsCrossing f g t
not_crossed f g l t r ordered h k c = elim ordered [
  | inl o ↦ one_way f g l t r o h k c.meet (λ s. c.apart (s c.elsewhere))
  | inr o ↦ one_way g f l t r o h k (same_symᵉ (value_at f t) (value_at g t) c.meet)
      (λ s. c.apart (same_symᵉ (value_at g c.elsewhere) (value_at f c.elsewhere) (s c.elsewhere)))
]
  where
    one_way : (f g : Affine) (l t r : Rational) → IsBelow f g l r → l <ʳ t → t <ʳ r → value_at f t ≈ᵉ value_at g t → ¬ (AreSame f g) → ⊥
    one_way f g l t r o h k meet apart = by_left (le_totalᵉ (value_at g l) (value_at f l))
      where
        by_right : value_at f l <ᵉ value_at g l → (value_at g r ≤ᵉ value_at f r) ⊎ (value_at f r <ᵉ value_at g r) → ⊥
        by_right a (inl b) = apart (same_by_two f g t r k meet (record { at_most = o.right; at_least = b }))
        by_right a (inr b) = clashᵉ (value_at f t) (value_at g t) (strictly f g l t r h k a b) meet.at_least

        by_left : (value_at g l ≤ᵉ value_at f l) ⊎ (value_at f l <ᵉ value_at g l) → ⊥
        by_left (inl a) = apart (same_by_two f g l t h (record { at_most = o.left; at_least = a }) meet)
        by_left (inr a) = by_right a (le_totalᵉ (value_at g r) (value_at f r))

-- a breakpoint by other pairs
pub breakpoint_same : (F : Function) (from to from' to' u : Rational) → from ≈ from' → to ≈ to' → IsBreakpoint F from to u → IsBreakpoint F from' to' u
breakpoint_same F from to from' to' u e f (start s) = start (same_trans s e)
breakpoint_same F from to from' to' u e f (stop s) = stop (same_trans s f)
breakpoint_same F from to from' to' u e f (inner w n) = inner (record { above = le_trans (ge_of_same e) w.above; below = le_trans w.below (le_of_same f) }) n

-- what crosses in play in one way does so in another
pub crossing_by : (A B : Rational → Affine → Type 0) (from to : Rational) (p q : Affine) (a b : Rational) (den : ℕ)
    → ((tau : Rational) (line : Affine) → A tau line → B tau line)
    → IsWideCrossing A from to p q a b den → IsWideCrossing B from to p q a b den
crossing_by A B from to p q a b den more h = record {
  tau = h.tau;
  after_start = h.after_start;
  before_stop = h.before_stop;
  above = h.above;
  below = h.below;
  first = more h.tau p h.first;
  second = more h.tau q h.second;
  meet = h.meet;
  alone = h.alone;
  denominator = h.denominator;
  wide = h.wide;
}

-- a constant that is in play in one way is so in another
pub value_by : (A B : Rational → Affine → Type 0) (from to : Rational) (p : Affine) (u : Rational) (den : ℕ)
    → ((tau : Rational) (line : Affine) → A tau line → B tau line)
    → IsWideValue A from to p u den → IsWideValue B from to p u den
value_by A B from to p u den more h = record {
  tau = h.tau;
  after_start = h.after_start;
  before_stop = h.before_stop;
  value = h.value;
  is_value = h.is_value;
  line = h.line;
  constant = h.constant;
  in_play = more h.tau h.line h.in_play;
  denominator = h.denominator;
  wide = h.wide;
}
