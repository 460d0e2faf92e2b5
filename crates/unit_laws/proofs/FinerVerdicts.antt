-- Verdicts by another clock.
use Rattle.std.proofs.Common.{◌≡◌, ℕ, zero, suc, ◌+◌, ◌-◌, ◌*◌, ◌/◌, ◌%◌, ◌^◌, ◌<◌, ◌&&◌, Bool, true, false}
use Rattle.std.proofs.Common.{List, [], ◌∷◌, refl, sym, ap, ◌∙◌, subst, arith, ℤ, pos, negsuc, MatchBool}
use Rattle.std.specs.Prelude.{◌+ℤ◌, ◌-ℤ◌}
use Rattle.std.proofs.Math.Nat.{mul-pos, mul-le-mul_left, mul-lt-mul_of_pos_left, lt_of_mul-lt-mul_left, zero-lt-suc}
use Rattle.std.proofs.lemmas.Nat.Gcd.{le_of_dvd}
use Prim.Native.Nat.{◌∣◌}
use Rattle.std.proofs.lemmas.Nat.{div-add-mod', div_below}
use Rattle.rational.specs.Rational.{mixed, part_above, part_below, add, whole}
use Rattle.rational.specs.Time.{Rational, ◌≈◌, Precedes, ratio, IsLowest, HasDenominator, Interval, IsIn, closed}
use Rattle.rational.proofs.Order.{same_sym, same_trans, le_of_same, ge_of_same}
use Rattle.rational.proofs.Lowest.{has_denominator, denominator_divides}
use Rattle.rational.proofs.Mixed.{mixed_shift, parts}
use Rattle.rational.proofs.TimeLemmas.{precedes_after, precedes_before, room_of_precedes, precedes_of_room, not_empty_of_precedes}
use Rattle.frac128.specs.Value.{value}
use Rattle.frac128.specs.Spans.{interval}
use Rattle.frac128.specs.declared.frac.Frac.{Frac}
use Rattle.frac128.specs.declared.span.Span.{Span}
use Rattle.stl_syntax.specs.Trace.{Trace, start, stop}
use Rattle.stl_syntax.specs.Formula.{Subformula}
use Rattle.stl_syntax.specs.Truth.{Truth}
use Rattle.stl_syntax.specs.Texts.{IsNumberText, IsSpanText, AreVerdictLines, IsStartLine}
use Rattle.stl_syntax.specs.Verdicts.{IsTold, GoesOn, Describes}
use Rattle.stl_syntax.specs.declared.scale.Scale.{Scale}
use Rattle.stl_syntax.specs.declared.items.Verdict.{Verdict}
use Rattle.stl_syntax.proofs.TruthLemmas.{Truth-same}
use Rattle.answer_lines.proofs.KeptTexts.{number_of_same}
use Rattle.bounds.proofs.NearTimes.{Move, by, ahead}
use Rattle.unit_laws.proofs.Multiples.{stretch}
use Rattle.unit_laws.proofs.Clocks.{clock, unclock, clock_same, clock-unclock, precedes_clock, precedes_of_clock}
use Rattle.unit_laws.proofs.Recounts.{IsRecount}
use Rattle.unit_laws.proofs.FinerTrees.{finer_tree}
use Rattle.unit_laws.proofs.FinerTruth.{truth_by}
use Rattle.unit_laws.proofs.FinerTexts.{time_text_by}

-- K times a number that the program keeps
pub record TimesFrac (K : ℕ) (f : Frac) : Type 0 where
  -- the number that is kept
  pub frac : Frac
  -- it is K times the other
  pub same : value frac ≈ stretch K (value f)

above_zero : (K N q R r D d m : ℕ) → q * D + r ≡ K * R → r * d ≡ m * D
    → ((K * N + q) * d + m) * D + K * (0 * D) * d ≡ K * (N * D + R) * d + 0 * d * D
above_zero K N q R r D d m e g = omega (arith, ap (λ x. x * d) e, g)

below_zero : (K S q R r D d m x : ℕ) → x + q ≡ K * S → q * D + r ≡ K * R → r * d ≡ m * D
    → (0 * d + m) * D + K * (S * D) * d ≡ K * (0 * D + R) * d + x * d * D
below_zero K S q R r D d m x c e g = omega (arith, ap (λ y. y * (d * D)) c, ap (λ y. y * d) e, g)

module _ (K : ℕ) (p : 0 < K) where
  -- by what K times the part above the floor comes to
  times_by : (f : Frac) (q r : ℕ) → q * f.den + r ≡ K * f.rest → r < f.den → q < K → (d : ℕ) × HasDenominator (ratio (pos r) f.den f.positive) d → TimesFrac K f
  times_by f q r e few small h = by_num h.0 h.1.0 h.1.1 h.1.2 (denominator_divides (pos r) f.den h.0 f.positive h.1)
    where
      by_num : (d : ℕ) (num : ℤ) (low : IsLowest num d) → ratio (pos r) f.den f.positive ≈ ratio num d low.positive → d ∣ f.den → TimesFrac K f
      by_num d (negsuc m) low same divides =
          absurd (let some = mul-pos (zero-lt-suc m) f.positive in omega (arith, same.same, some))
      by_num d (pos m) low same divides = by_whole f.whole refl
        where
          g : r * d ≡ m * f.den
          g = omega (arith, same.same)

          below : m < d
          below =
              let a = mul-lt-mul_of_pos_left few low.positive in
              lt_of_mul-lt-mul_left f.den (let b : f.den * m < f.den * d = omega (arith, a, g) in b)

          small_den : d < 2 ^ 60
          small_den = let a = le_of_dvd f.positive divides in omega (arith, a, f.small)

          by_whole : (w : ℤ) → f.whole ≡ w → TimesFrac K f
          by_whole (pos n) is = record {
            frac = record { whole = pos (K * n + q); rest = m; den = d; positive = low.positive; below = below; small = small_den; lowest = low };
            same = subst (λ z. mixed (pos (K * n + q)) m d low.positive ≈ stretch K (mixed z f.rest f.den f.positive)) (sym is)
                (record { same = above_zero K n q f.rest r f.den d m e g });
          }
          by_whole (negsuc n) is = by_rest (K * suc n - q) (let a = mul-le-mul_left K (zero-lt-suc n) in omega (arith, a, small)) refl
            where
              by_rest : (x : ℕ) → q < K * suc n → x ≡ K * suc n - q → TimesFrac K f
              by_rest zero more y = absurd (omega (arith, more, y))
              by_rest (suc x) more y = record {
                frac = record { whole = negsuc x; rest = m; den = d; positive = low.positive; below = below; small = small_den; lowest = low };
                same = subst (λ z. mixed (negsuc x) m d low.positive ≈ stretch K (mixed z f.rest f.den f.positive)) (sym is)
                    (record { same = below_zero K (suc n) q f.rest r f.den d m (suc x) (omega (arith, more, y)) e g });
              }

  -- each number has one that is K times it
  pub times_frac : (f : Frac) → TimesFrac K f
  times_frac f =
      times_by f (K * f.rest / f.den) (K * f.rest % f.den) (div-add-mod' (K * f.rest) f.den) (let h = f.positive in omega arith)
      (div_below (K * f.rest) f.den K f.positive (mul-lt-mul_of_pos_left f.below p)) (has_denominator (ratio (pos (K * f.rest % f.den)) f.den f.positive))

-- a number that the program keeps, moved by whole ticks
abbrev pub frac_by : Move → Frac → Frac
frac_by o f = record {
  whole = f.whole +ℤ (pos o.up -ℤ pos o.down);
  rest = f.rest;
  den = f.den;
  positive = f.positive;
  below = f.below;
  small = f.small;
  lowest = f.lowest;
}

by_difference : (o : Move) (t : Rational) → add t (whole (pos o.up -ℤ pos o.down)) ≈ by t o
by_difference o t =
    let e : part_above (pos o.up -ℤ pos o.down) + o.down ≡ o.up + part_below (pos o.up -ℤ pos o.down) = omega (arith, parts) in
    record { same = omega (arith, ap (λ n. n * (t.den * t.den)) e) }

by_same : (o : Move) {t u : Rational} → t ≈ u → by t o ≈ by u o
by_same o {t} {u} e = record { same = let h = e.same in omega (arith, h) }

moved_same : (o : Move) (f : Frac) → value (frac_by o f) ≈ by (value f) o
moved_same o f =
    same_trans (mixed_shift f.whole (f.whole +ℤ (pos o.up -ℤ pos o.down)) (pos o.up -ℤ pos o.down) f.rest f.den f.positive f.positive refl)
    (by_difference o (value f))

by_is_clock : (K : ℕ) (o : Move) (t : Rational) → by (stretch K t) o ≈ clock K o t
by_is_clock K o t = record { same = omega arith }

module _ (K : ℕ) (o : Move) (p : 0 < K) where
  -- what the clock shows at a number that the program keeps is one
  abbrev pub frac_of : Frac → Frac
  frac_of f = frac_by o (times_frac K p f).frac

  -- it is what the clock shows
  pub frac_same : (f : Frac) → value (frac_of f) ≈ clock K o (value f)
  frac_same f =
      same_trans (moved_same o (times_frac K p f).frac) (same_trans (by_same o (times_frac K p f).same) (by_is_clock K o (value f)))

  -- the ends of a span keep their order
  ends_by : (b : Bool) (x y : Frac) → Precedes b (value x) (value y) → Precedes b (value (frac_of x)) (value (frac_of y))
  ends_by b x y h =
      precedes_after b (value (frac_of x)) (clock K o (value x)) (value (frac_of y)) (le_of_same (frac_same x))
      (precedes_before b (clock K o (value x)) (clock K o (value y)) (value (frac_of y))
      (precedes_clock K o p b (value x) (value y) h) (ge_of_same (frac_same y)))

  -- a span by the clock has a time
  pub span_room : (on : Span) → Precedes (on.from_in && on.to_in) (value (frac_of on.from)) (value (frac_of on.to))
  span_room on = ends_by (on.from_in && on.to_in) on.from on.to (precedes_of_room (on.from_in && on.to_in) (value on.from) (value on.to) on.not_empty)

  -- the span by the clock
  abbrev pub span_by : Span → Span
  span_by on = record {
    from = frac_of on.from;
    from_in = on.from_in;
    to = frac_of on.to;
    to_in = on.to_in;
    not_empty = room_of_precedes (on.from_in && on.to_in) (value (frac_of on.from)) (value (frac_of on.to)) (span_room on);
  }

  -- the verdict by the clock
  abbrev pub verdict_by : Verdict → Verdict
  verdict_by v = record { on = span_by v.on; holds = v.holds }

  -- each verdict by the clock
  abbrev pub verdicts_by : List Verdict → List Verdict
  verdicts_by [] = []
  verdicts_by (v ∷ verdicts) = verdict_by v ∷ verdicts_by verdicts

  -- what the clock shows in the span is shown at a time of the span
  pub in_by : (on : Span) (t : Rational) → IsIn (interval (span_by on)) t → IsIn (interval on) (unclock K o p t)
  in_by on t i =
      let s = clock-unclock K o p t in
      let part = unclock K o p t in record {
        above = precedes_of_clock K o p on.from_in (value on.from) part
            (precedes_after on.from_in (clock K o (value on.from)) (value (frac_of on.from)) (clock K o part) (ge_of_same (frac_same on.from))
            (precedes_before on.from_in (value (frac_of on.from)) t (clock K o part) i.above (ge_of_same s)));
        below = precedes_of_clock K o p on.to_in part (value on.to)
            (precedes_before on.to_in (clock K o part) (value (frac_of on.to)) (clock K o (value on.to))
            (precedes_after on.to_in (clock K o part) t (value (frac_of on.to)) (le_of_same s) i.below) (le_of_same (frac_same on.to)));
      }

module _ (K : ℕ) (o : Move) (M : ℕ) (kp : 0 < K) (mp : 0 < M) {tr ur : Trace} (c : IsRecount K o M tr ur) (p : Subformula) where
  abbrev q : Subformula
  q = finer_tree K M p

  -- the truth at another time, and its failure
  pub told_at : (b : Bool) (t u : Rational) → u ≈ clock K o t → MatchBool b (Truth p tr t) (¬ Truth p tr t) → MatchBool b (Truth q ur u) (¬ Truth q ur u)
  told_at true t u e h = Truth-same q ur (same_sym e) ((truth_by K o M kp mp c p t).0 h)
  told_at false t u e h = λ k. h ((truth_by K o M kp mp c p t).1 (Truth-same q ur e k))

  told_by : (v : Verdict) → IsTold p tr v → IsTold q ur (verdict_by K o kp v)
  told_by v h = record {
    not_empty = not_empty_of_precedes (interval (span_by K o kp v.on)) (span_room K o kp v.on);
    truth = λ t i. told_at v.holds (unclock K o kp t) t (same_sym (clock-unclock K o kp t)) (h.truth (unclock K o kp t) (in_by K o kp v.on t i));
  }

  -- so the spans go on to the end of the stretch
  pub go_on_by : (on other : Interval) → other.to ≈ clock K o on.to → other.to_in ≡ on.to_in → (v : Verdict) (verdicts : List Verdict)
      → GoesOn p tr on v verdicts → GoesOn q ur other (verdict_by K o kp v) (verdicts_by K o kp verdicts)
  go_on_by on other e i v [] h = record {
    time = same_trans (frac_same K o kp v.on.to) (same_trans (clock_same K o h.time) (same_sym e));
    inside = h.inside ∙ sym i;
  }
  go_on_by on other e i v (w ∷ verdicts) h = (
    record {
      time = same_trans (frac_same K o kp w.on.from) (same_trans (clock_same K o h.0.time) (same_sym (frac_same K o kp v.on.to)));
      once = h.0.once;
    },
    h.1,
    told_by w h.2,
    go_on_by on other e i w verdicts h.3,
  )

  -- the verdicts of a stretch are by the clock those of the stretch that it shows
  pub stretch_described : (on other : Interval) → other.from ≈ clock K o on.from → other.from_in ≡ on.from_in → other.to ≈ clock K o on.to
      → other.to_in ≡ on.to_in → (verdicts : List Verdict) → Describes verdicts p tr on → Describes (verdicts_by K o kp verdicts) q ur other
  stretch_described on other a i b j [] h = h
  stretch_described on other a i b j (v ∷ verdicts) h = (
    record {
      time = same_trans (frac_same K o kp v.on.from) (same_trans (clock_same K o h.0.time) (same_sym a));
      inside = h.0.inside ∙ sym i;
    },
    told_by v h.1,
    go_on_by on other b j v verdicts h.2,
  )

  -- and those of the domain those of the domain
  pub verdicts_describe : (verdicts : List Verdict) → Describes verdicts p tr (closed (start tr) (stop tr))
      → Describes (verdicts_by K o kp verdicts) q ur (closed (start ur) (stop ur))
  verdicts_describe = stretch_described (closed (start tr) (stop tr)) (closed (start ur) (stop ur)) c.starts refl c.stops refl

  -- and so does the line of the start
  pub start_line_by : (text : List ℕ) → IsStartLine p tr text → IsStartLine q ur text
  start_line_by text (holds, h, e) = (holds, told_at holds (start tr) (start ur) c.starts h, e)

-- the lines of the verdicts stay
module _ (k : ℕ) (p : 0 < 10 ^ k) (scale other : Scale) (is : other.time ≡ scale.time + k) where
  end_text : (f : Frac) (text : List ℕ) → IsNumberText scale.time (value f) text → IsNumberText other.time (value (frac_of (10 ^ k) (ahead 0) p f)) text
  end_text f text h =
      subst (λ d. IsNumberText d (value (frac_of (10 ^ k) (ahead 0) p f)) text) (sym is)
      (number_of_same (scale.time + k) (clock (10 ^ k) (ahead 0) (value f)) (value (frac_of (10 ^ k) (ahead 0) p f)) text
      (same_sym (frac_same (10 ^ k) (ahead 0) p f))
      (time_text_by scale.time k (value f) text h))

  -- a span's text is that of the span in smaller ticks
  pub span_text : (on : Span) (text : List ℕ) → IsSpanText scale on text → IsSpanText other (span_by (10 ^ k) (ahead 0) p on) text
  span_text on text h = record {
    from = h.from;
    to = h.to;
    from_is = end_text on.from h.from h.from_is;
    to_is = end_text on.to h.to h.to_is;
    is = h.is;
  }

  -- the lines of verdicts are those of the verdicts in smaller ticks
  pub verdict_lines_by : (verdicts : List Verdict) (text : List ℕ) → AreVerdictLines scale verdicts text
      → AreVerdictLines other (verdicts_by (10 ^ k) (ahead 0) p verdicts) text
  verdict_lines_by [] text h = h
  verdict_lines_by (v ∷ verdicts) text (here, later, (on, h, e), g, f) = (here, later, (on, span_text v.on on h, e), verdict_lines_by verdicts later g, f)
