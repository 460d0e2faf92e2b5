-- The knots of a delayed trace are those of the trace, later.
use Rattle.std.proofs.Common.{◌≡◌, ℕ, ◌+◌, ◌*◌, List, [], ◌∷◌, map, refl, ap, subst, arith}
use Rattle.rational.specs.Line.{Line}
use Rattle.rational.specs.Time.{Rational, ◌≈◌, ◌<ʳ◌, later}
use Rattle.rational.specs.Extended.{◌≈ᵉ◌, minus_infinity, infinity, Affine, always_low, affine, always_high, value_at}
use Rattle.rational.proofs.Order.{same_sym, same_trans}
use Rattle.rational.proofs.AffineLemmas.{same_reflᵉ, finite_same}
use Rattle.rational.proofs.TimeLemmas.{same_later, later_lt}
use Rattle.stl_syntax.specs.Trace.{Trace, IsTrace, start, stop}
use Rattle.stl_syntax.specs.Formula.{Subformula}
use Rattle.stl_syntax.specs.Knots.{Piece, Knots}
use Rattle.stl_syntax.specs.SupInf.{margin_setting}
use Rattle.stl_syntax.specs.Verdicts.{DescribesMargins}
use Rattle.stl_syntax.proofs.TimeLaw.{SupInf-same}
use Rattle.unit_laws.specs.Origins.{delayed, earlier, piece_at, knots_at, KnotsMove}
use Rattle.unit_laws.proofs.KnotsChange.{Change, pieces_by, describes_by}
use Rattle.unit_laws.proofs.OriginRows.{delayed_counts, clock_later, robustness_moves}

earlier_same : (d : ℕ) (t u : Rational) → t ≈ u → earlier t d ≈ earlier u d
earlier_same d t u e = record { same = let h = e.same in omega (arith, h) }

earlier_lt : (d : ℕ) (t u : Rational) → t <ʳ u → earlier t d <ʳ earlier u d
earlier_lt d t u h = record { lt = let k = h.lt in omega (arith, k) }

-- a time is what is d ticks earlier, d ticks later
pub later-earlier : (d : ℕ) (t : Rational) → later (earlier t d) d ≈ t
later-earlier d t = record { same = omega arith }

earlier-later : (d : ℕ) (t : Rational) → earlier (later t d) d ≈ t
earlier-later d t = record { same = omega arith }

-- the line d ticks later
line_later : ℕ → Line → Line
line_later d f = record {
  base_up = f.base_up + f.rise_down * d;
  base_down = f.base_down + f.rise_up * d;
  rise_up = f.rise_up;
  rise_down = f.rise_down;
  run = f.run;
  positive = f.positive;
}

-- and d ticks earlier
line_earlier : ℕ → Line → Line
line_earlier d f = record {
  base_up = f.base_up + f.rise_up * d;
  base_down = f.base_down + f.rise_down * d;
  rise_up = f.rise_up;
  rise_down = f.rise_down;
  run = f.run;
  positive = f.positive;
}

affine_later : ℕ → Affine → Affine
affine_later d always_low = always_low
affine_later d (affine f) = affine (line_later d f)
affine_later d always_high = always_high

affine_earlier : ℕ → Affine → Affine
affine_earlier d always_low = always_low
affine_earlier d (affine f) = affine (line_earlier d f)
affine_earlier d always_high = always_high

later_is : (d : ℕ) (f : Affine) (t : Rational) → value_at (affine_later d f) (later t d) ≈ᵉ value_at f t
unfolding affine_later line_later
later_is d always_low t = same_reflᵉ minus_infinity
later_is d (affine f) t = finite_same (record { same = omega arith })
later_is d always_high t = same_reflᵉ infinity

earlier_is : (d : ℕ) (f : Affine) (t : Rational) → value_at (affine_earlier d f) (earlier t d) ≈ᵉ value_at f t
unfolding affine_earlier line_earlier
earlier_is d always_low t = same_reflᵉ minus_infinity
earlier_is d (affine f) t = finite_same (record { same = omega arith })
earlier_is d always_high t = same_reflᵉ infinity

module _ (p : Subformula) (tr : Trace) (d : ℕ) (ok : IsTrace tr) where
  starts : start (delayed d tr) ≈ later (start tr) d
  starts = same_trans (delayed_counts d tr ok).starts (clock_later d (start tr))

  stops : stop (delayed d tr) ≈ later (stop tr) d
  stops = same_trans (delayed_counts d tr ok).stops (clock_later d (stop tr))

  abbrev to_later : Change p tr p (delayed d tr)
  to_later = record {
    time = λ t. later t d;
    time_back = λ t. earlier t d;
    value = λ v. v;
    value_back = λ v. v;
    line = affine_later d;
    line_back = affine_earlier d;
    times_same = λ t u e. same_later d e;
    times_back_same = λ t u e. earlier_same d t u e;
    times_lt = λ t u h. later_lt t u d h;
    times_back_lt = λ t u h. earlier_lt d t u h;
    round = λ t. later-earlier d t;
    round_back = λ t. earlier-later d t;
    values_same = λ v w e. e;
    values_back_same = λ v w e. e;
    round_value = λ v. same_reflᵉ v;
    lines = later_is d;
    lines_back = earlier_is d;
    robust = λ t v h. (robustness_moves p tr d t v ok).0 h;
    robust_of_times = λ t u v e h. SupInf-same p (margin_setting (delayed d tr)) v e h;
    starts = starts;
    stops = stops;
  }

  abbrev to_earlier : Change p (delayed d tr) p tr
  to_earlier = record {
    time = λ t. earlier t d;
    time_back = λ t. later t d;
    value = λ v. v;
    value_back = λ v. v;
    line = affine_earlier d;
    line_back = affine_later d;
    times_same = λ t u e. earlier_same d t u e;
    times_back_same = λ t u e. same_later d e;
    times_lt = λ t u h. earlier_lt d t u h;
    times_back_lt = λ t u h. later_lt t u d h;
    round = λ t. earlier-later d t;
    round_back = λ t. later-earlier d t;
    values_same = λ v w e. e;
    values_back_same = λ v w e. e;
    round_value = λ v. same_reflᵉ v;
    lines = earlier_is d;
    lines_back = later_is d;
    robust = λ t v h. (robustness_moves p tr d (earlier t d) v ok).1
        (SupInf-same p (margin_setting (delayed d tr)) v (same_sym (later-earlier d t)) h);
    robust_of_times = λ t u v e h. SupInf-same p (margin_setting tr) v e h;
    starts = same_sym (same_trans (earlier_same d (start (delayed d tr)) (later (start tr) d) starts) (earlier-later d (start tr)));
    stops = same_sym (same_trans (earlier_same d (stop (delayed d tr)) (later (stop tr) d) stops) (earlier-later d (stop tr)));
  }

  later_pieces : (pieces : List Piece) → pieces_by to_later pieces ≡ map (piece_at (λ t. later t d)) pieces
  later_pieces [] = refl
  later_pieces (x ∷ pieces) = ap (λ xs. piece_at (λ t. later t d) x ∷ xs) (later_pieces pieces)

  earlier_pieces : (pieces : List Piece) → pieces_by to_earlier pieces ≡ map (piece_at (λ t. earlier t d)) pieces
  earlier_pieces [] = refl
  earlier_pieces (x ∷ pieces) = ap (λ xs. piece_at (λ t. earlier t d) x ∷ xs) (earlier_pieces pieces)

  moved_knots : (knots : Knots) → DescribesMargins knots p tr → DescribesMargins (knots_at (λ t. later t d) knots) p (delayed d tr)
  moved_knots knots h =
      subst (λ pieces. DescribesMargins (record { first = (knots_at (λ t. later t d) knots).first; pieces = pieces }) p (delayed d tr))
      (later_pieces knots.pieces) (describes_by to_later knots h)

  knots_back : (knots : Knots) → DescribesMargins knots p (delayed d tr) → DescribesMargins (knots_at (λ t. earlier t d) knots) p tr
  knots_back knots h =
      subst (λ pieces. DescribesMargins (record { first = (knots_at (λ t. earlier t d) knots).first; pieces = pieces }) p tr)
      (earlier_pieces knots.pieces) (describes_by to_earlier knots h)

-- the knots move with the trace, and their values stay
pub knots_move : KnotsMove
knots_move p tr d knots ok = (moved_knots p tr d ok knots, knots_back p tr d ok knots)
