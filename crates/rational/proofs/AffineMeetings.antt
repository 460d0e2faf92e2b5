-- How two affine or constantly infinite functions lie between two times: in one order, or meeting at one time.
use Rattle.std.proofs.Common.{◌⊎◌, inl, inr, pos, arith}
use Rattle.rational.specs.Rational.{Rational, ◌≤ʳ◌, ◌<ʳ◌, subtract, whole}
use Rattle.rational.specs.Line.{Line, at, gap_line, solve}
use Rattle.rational.specs.Extended.{◌≤ᵉ◌, ◌<ᵉ◌, Affine, always_low, affine, always_high, value_at}
use Rattle.rational.specs.Affine.{MeetAlone}
use Rattle.rational.proofs.Order.{le_trans, le_of_same, ge_of_same, same_of_le, same_trans, same_sym, lt_of_le_of_lt, lt_of_lt_of_le, lt_trans}
use Rattle.rational.proofs.Lines.{at_gap, at_solve, solve_left, solve_right, solve_only, rises_between, same_of_zero, zero_of_same}
use Rattle.rational.proofs.Sup.{below_an_end}
use Rattle.rational.proofs.AffineLemmas.{same_symᵉ, finite_same}

-- lines in one order at both ends of a gap are in that order in it
line_between : {l t r : Rational} (f g : Line) → l <ʳ t → t <ʳ r → at f l ≤ʳ at g l → at f r ≤ʳ at g r → at f t ≤ʳ at g t
line_between {l} {t} {r} f g h k a b = from_zero (by_end (below_an_end (gap_line f g) h k))
  where
    low : (u : Rational) → at f u ≤ʳ at g u → at (gap_line f g) u ≤ʳ whole (pos 0)
    low u i = le_trans (le_of_same (at_gap f g u)) (below u i)
      where
        below : (u : Rational) → at f u ≤ʳ at g u → subtract (at f u) (at g u) ≤ʳ whole (pos 0)
        below u i = omega (arith, i.le)

    by_end : (at (gap_line f g) t ≤ʳ at (gap_line f g) l) ⊎ (at (gap_line f g) t ≤ʳ at (gap_line f g) r) → at (gap_line f g) t ≤ʳ whole (pos 0)
    by_end (inl i) = le_trans i (low l a)
    by_end (inr i) = le_trans i (low r b)

    from_zero : at (gap_line f g) t ≤ʳ whole (pos 0) → at f t ≤ʳ at g t
    from_zero i = from_difference (le_trans (ge_of_same (at_gap f g t)) i)
      where
        from_difference : subtract (at f t) (at g t) ≤ʳ whole (pos 0) → at f t ≤ʳ at g t
        from_difference i = omega (arith, i.le)

-- functions in one order at both ends are so ordered between
pub between : (f g : Affine) (l t r : Rational) → l <ʳ t → t <ʳ r → value_at f l ≤ᵉ value_at g l → value_at f r ≤ᵉ value_at g r → value_at f t ≤ᵉ value_at g t
between (affine f) always_low l t r h k a b = a
between (affine f) (affine g) l t r h k a b = line_between f g h k a b
between always_high always_low l t r h k a b = a
between always_high (affine g) l t r h k a b = a
between _ _ l t r h k a b = tt

-- lines whose order turns over meet, at one time in the gap
line_turn : (f g : Line) (l r : Rational) → l <ʳ r → at f l <ʳ at g l → at g r <ʳ at f r → (t : Rational) × MeetAlone (affine f) (affine g) l r t
line_turn f g l r h a b =
    let zero = whole (pos 0) in
    let up = rises_between (gap_line f g) h (lt_trans below above) in (
      solve (gap_line f g) up zero,
      record {
        after = solve_left (gap_line f g) up zero below;
        before = solve_right (gap_line f g) up zero above;
        meet = finite_same (same_of_zero (same_trans (same_sym (at_gap f g (solve (gap_line f g) up zero))) (at_solve (gap_line f g) up zero)));
        alone = λ u e. solve_only (gap_line f g) up zero (same_trans (at_gap f g u) (zero_of_same (same_of_le e.at_most e.at_least)));
      },
    )
  where
    below : at (gap_line f g) l <ʳ whole (pos 0)
    below = lt_of_le_of_lt (le_of_same (at_gap f g l)) (omega (arith, a.lt))

    above : whole (pos 0) <ʳ at (gap_line f g) r
    above = lt_of_lt_of_le (omega (arith, b.lt)) (ge_of_same (at_gap f g r))

-- functions whose order turns over meet between at one time alone
pub turn : (f g : Affine) (l r : Rational) → l <ʳ r → value_at f l <ᵉ value_at g l → value_at g r <ᵉ value_at f r → (t : Rational) × MeetAlone f g l r t
turn always_low (affine g) l r h a b = absurd b
turn always_low always_high l r h a b = absurd b
turn (affine f) (affine g) l r h a b = line_turn f g l r h a b
turn (affine f) always_high l r h a b = absurd b
turn _ _ l r h a b = absurd a

-- a meeting at one time alone is one of either function with the other
pub alone_swap : {f g : Affine} {l r t : Rational} → MeetAlone f g l r t → MeetAlone g f l r t
alone_swap {f} {g} {l} {r} {t} m = record {
  after = m.after;
  before = m.before;
  meet = same_symᵉ (value_at f t) (value_at g t) m.meet;
  alone = λ u e. m.alone u (same_symᵉ (value_at g u) (value_at f u) e);
}

-- and so do functions whose order turns over either way
pub meets : (f g : Affine) (l r : Rational) → l <ʳ r
    → ((value_at f l <ᵉ value_at g l) × (value_at g r <ᵉ value_at f r)) ⊎ ((value_at g l <ᵉ value_at f l) × (value_at f r <ᵉ value_at g r))
    → (t : Rational) × MeetAlone f g l r t
meets f g l r h (inl o) = turn f g l r h o.0 o.1
meets f g l r h (inr o) = let m = turn g f l r h o.0 o.1 in (m.0, alone_swap m.1)
