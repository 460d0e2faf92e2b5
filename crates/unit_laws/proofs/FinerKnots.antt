-- Knots by another clock, and back.
use Rattle.std.proofs.Common.{ℕ, ◌+◌, ◌*◌, ◌<◌, refl, arith}
use Rattle.std.proofs.Math.Nat.{mul-pos}
use Rattle.rational.specs.Line.{Line}
use Rattle.rational.specs.Time.{Rational}
use Rattle.rational.specs.Extended.{Extended, minus_infinity, infinity, ◌≈ᵉ◌, Affine, always_low, affine, always_high, value_at}
use Rattle.rational.proofs.Order.{same_sym, same_trans}
use Rattle.rational.proofs.AffineLemmas.{same_reflᵉ, same_symᵉ, same_transᵉ, finite_same}
use Rattle.stl_syntax.specs.Trace.{Trace, start, stop}
use Rattle.stl_syntax.specs.Formula.{Subformula}
use Rattle.stl_syntax.specs.SupInf.{margin_setting}
use Rattle.stl_syntax.proofs.TimeLaw.{SupInf-same}
use Rattle.stl_syntax.proofs.SupInfLemmas.{value_alike}
use Rattle.bounds.proofs.NearTimes.{Move}
use Rattle.unit_laws.proofs.Clocks.{clock, unclock, clock_same, clock_lt, clock-unclock, unclock-clock, unclock_same, unclock_lt}
use Rattle.unit_laws.proofs.Recounts.{IsRecount}
use Rattle.unit_laws.proofs.FinerTrees.{finer_tree}
use Rattle.unit_laws.proofs.FinerTraces.{at_by}
use Rattle.unit_laws.proofs.FinerValues.{stretchᵉ, shrinkᵉ, same_stretchᵉ, same_backᵉ, stretch-shrinkᵉ}
use Rattle.unit_laws.proofs.FinerMargins.{margins_by}
use Rattle.unit_laws.proofs.KnotsChange.{Change}

-- the M-th part of M times a value is the value
pub shrink-stretchᵉ : (M : ℕ) (p : 0 < M) (v : Extended) → shrinkᵉ M p (stretchᵉ M v) ≈ᵉ v
shrink-stretchᵉ M p v = same_backᵉ M p (shrinkᵉ M p (stretchᵉ M v)) v (stretch-shrinkᵉ M p (stretchᵉ M v))

-- two ways to write one value have the same M-th part
pub shrink_sameᵉ : (M : ℕ) (p : 0 < M) (v w : Extended) → v ≈ᵉ w → shrinkᵉ M p v ≈ᵉ shrinkᵉ M p w
shrink_sameᵉ M p v w e =
    same_backᵉ M p (shrinkᵉ M p v) (shrinkᵉ M p w)
    (same_transᵉ (stretchᵉ M (shrinkᵉ M p v)) v (stretchᵉ M (shrinkᵉ M p w)) (stretch-shrinkᵉ M p v)
    (same_transᵉ v w (stretchᵉ M (shrinkᵉ M p w)) e (same_symᵉ (stretchᵉ M (shrinkᵉ M p w)) w (stretch-shrinkᵉ M p w))))

-- a line K times as wide and M times as high, and moved
line_by : (K : ℕ) (o : Move) (M : ℕ) → 0 < K → Line → Line
line_by K o M p f = record {
  base_up = K * (M * f.base_up) + M * f.rise_down * o.up + M * f.rise_up * o.down;
  base_down = K * (M * f.base_down) + M * f.rise_up * o.up + M * f.rise_down * o.down;
  rise_up = M * f.rise_up;
  rise_down = M * f.rise_down;
  run = K * f.run;
  positive = mul-pos p f.positive;
}

-- and the line of which it is that
line_part : (K : ℕ) (o : Move) (M : ℕ) → 0 < M → Line → Line
line_part K o M p f = record {
  base_up = f.base_up + f.rise_up * o.up + f.rise_down * o.down;
  base_down = f.base_down + f.rise_down * o.up + f.rise_up * o.down;
  rise_up = K * f.rise_up;
  rise_down = K * f.rise_down;
  run = M * f.run;
  positive = mul-pos p f.positive;
}

module _ (K : ℕ) (o : Move) (M : ℕ) (kp : 0 < K) (mp : 0 < M) where
  -- a function of time by the clock
  pub affine_by : Affine → Affine
  affine_by always_low = always_low
  affine_by (affine f) = affine (line_by K o M kp f)
  affine_by always_high = always_high

  -- and back
  pub affine_part : Affine → Affine
  affine_part always_low = always_low
  affine_part (affine f) = affine (line_part K o M mp f)
  affine_part always_high = always_high

  -- by the clock the function has M times the value
  pub affine_is : (f : Affine) (t : Rational) → value_at (affine_by f) (clock K o t) ≈ᵉ stretchᵉ M (value_at f t)
  unfolding affine_by line_by
  affine_is always_low t = same_reflᵉ minus_infinity
  affine_is (affine f) t = finite_same (at_by f (line_by K o M kp f) K o M t refl refl refl refl refl)
  affine_is always_high t = same_reflᵉ infinity

  -- and back it has the M-th part of the value
  pub affine_part_is : (f : Affine) (t : Rational) → value_at (affine_part f) (unclock K o kp t) ≈ᵉ shrinkᵉ M mp (value_at f t)
  unfolding affine_part line_part
  affine_part_is always_low t = same_reflᵉ minus_infinity
  affine_part_is (affine f) t = finite_same (record { same = omega arith })
  affine_part_is always_high t = same_reflᵉ infinity

  module _ {tr ur : Trace} (c : IsRecount K o M tr ur) (p : Subformula) where
    -- to the other clock
    abbrev pub to_clock : Change p tr (finer_tree K M p) ur
    to_clock = record {
      time = λ t. clock K o t;
      time_back = λ t. unclock K o kp t;
      value = λ v. stretchᵉ M v;
      value_back = λ v. shrinkᵉ M mp v;
      line = affine_by;
      line_back = affine_part;
      times_same = λ t u e. clock_same K o e;
      times_back_same = λ t u e. unclock_same K o kp e;
      times_lt = λ t u h. clock_lt K o kp h;
      times_back_lt = λ t u h. unclock_lt K o kp h;
      round = λ t. clock-unclock K o kp t;
      round_back = λ t. unclock-clock K o kp t;
      values_same = λ v w e. same_stretchᵉ M v w e;
      values_back_same = λ v w e. shrink_sameᵉ M mp v w e;
      round_value = λ v. shrink-stretchᵉ M mp v;
      lines = affine_is;
      lines_back = affine_part_is;
      robust = λ t v. (margins_by K o M kp mp c p t v).0;
      robust_of_times = λ t u v e h. SupInf-same (finer_tree K M p) (margin_setting ur) v e h;
      starts = c.starts;
      stops = c.stops;
    }

    -- and back
    abbrev pub from_clock : Change (finer_tree K M p) ur p tr
    from_clock = record {
      time = λ t. unclock K o kp t;
      time_back = λ t. clock K o t;
      value = λ v. shrinkᵉ M mp v;
      value_back = λ v. stretchᵉ M v;
      line = affine_part;
      line_back = affine_by;
      times_same = λ t u e. unclock_same K o kp e;
      times_back_same = λ t u e. clock_same K o e;
      times_lt = λ t u h. unclock_lt K o kp h;
      times_back_lt = λ t u h. clock_lt K o kp h;
      round = λ t. unclock-clock K o kp t;
      round_back = λ t. clock-unclock K o kp t;
      values_same = λ v w e. shrink_sameᵉ M mp v w e;
      values_back_same = λ v w e. same_stretchᵉ M v w e;
      round_value = λ v. stretch-shrinkᵉ M mp v;
      lines = affine_part_is;
      lines_back = affine_is;
      robust = λ t v h. (margins_by K o M kp mp c p (unclock K o kp t) (shrinkᵉ M mp v)).1
          (value_alike (finer_tree K M p) ur (clock K o (unclock K o kp t)) v (stretchᵉ M (shrinkᵉ M mp v))
          (same_symᵉ (stretchᵉ M (shrinkᵉ M mp v)) v (stretch-shrinkᵉ M mp v))
          (SupInf-same (finer_tree K M p) (margin_setting ur) v (same_sym (clock-unclock K o kp t)) h));
      robust_of_times = λ t u v e h. SupInf-same p (margin_setting tr) v e h;
      starts = same_sym (same_trans (unclock_same K o kp c.starts) (unclock-clock K o kp (start tr)));
      stops = same_sym (same_trans (unclock_same K o kp c.stops) (unclock-clock K o kp (stop tr)));
    }
