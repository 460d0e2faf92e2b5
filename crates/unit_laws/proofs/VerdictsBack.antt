-- Verdicts by another clock, taken back to the first.
use Rattle.std.proofs.Common.{◌≡◌, ℕ, ◌<◌, Bool, true, false, List, [], ◌∷◌, refl, ◌∙◌, MatchBool, ◌&&◌}
use Rattle.rational.specs.Time.{Rational, ◌≈◌, Interval, IsIn, IsNotEmpty, Precedes, closed}
use Rattle.rational.proofs.Order.{le_of_same, ge_of_same, same_sym, same_trans}
use Rattle.rational.proofs.TimeLemmas.{precedes_after, precedes_before, room_of_precedes, precedes_of_room, not_empty_of_precedes, precedes_of_not_empty}
use Rattle.frac128.specs.Value.{value}
use Rattle.frac128.specs.Spans.{interval}
use Rattle.frac128.specs.declared.span.Span.{Span}
use Rattle.stl_syntax.specs.Trace.{Trace, start, stop}
use Rattle.stl_syntax.specs.Formula.{Subformula}
use Rattle.stl_syntax.specs.Truth.{Truth}
use Rattle.stl_syntax.specs.Texts.{IsStartLine}
use Rattle.stl_syntax.specs.Verdicts.{IsTold, GoesOn, Describes}
use Rattle.stl_syntax.specs.declared.items.Verdict.{Verdict}
use Rattle.stl_syntax.proofs.TruthLemmas.{Truth-same}
use Rattle.bounds.proofs.NearTimes.{Move}
use Rattle.unit_laws.proofs.Clocks.{clock, unclock, clock-unclock, same_of_clock, precedes_clock, precedes_of_clock, unclock_same}
use Rattle.unit_laws.proofs.Recounts.{IsRecount}
use Rattle.unit_laws.proofs.FinerTrees.{finer_tree}
use Rattle.unit_laws.proofs.FinerTruth.{truth_by}
use Rattle.unit_laws.proofs.SmallFractions.{HasFrac}

module _ (K : ℕ) (o : Move) (kp : 0 < K) where
  -- the interval in which the clock shows the other
  abbrev pub shown : Interval → Interval
  shown on = record { from = unclock K o kp on.from; from_in = on.from_in; to = unclock K o kp on.to; to_in = on.to_in }

  -- what precedes another time on the clock does so
  pub precedes_unclock : (b : Bool) (t u : Rational) → Precedes b t u → Precedes b (unclock K o kp t) (unclock K o kp u)
  precedes_unclock b t u h =
      precedes_of_clock K o kp b (unclock K o kp t) (unclock K o kp u)
      (precedes_after b (clock K o (unclock K o kp t)) t (clock K o (unclock K o kp u)) (le_of_same (clock-unclock K o kp t))
      (precedes_before b t u (clock K o (unclock K o kp u)) h (ge_of_same (clock-unclock K o kp u))))

  -- it has a time
  pub shown_not_empty : (on : Interval) → IsNotEmpty on → IsNotEmpty (shown on)
  shown_not_empty on h = not_empty_of_precedes (shown on) (precedes_unclock (on.from_in && on.to_in) on.from on.to (precedes_of_not_empty on h))

  -- at a time of it the clock shows one of the other
  pub in_shown : (on : Interval) (u : Rational) → IsIn (shown on) u → IsIn on (clock K o u)
  in_shown on u i = record {
    above = precedes_after on.from_in on.from (clock K o (unclock K o kp on.from)) (clock K o u) (ge_of_same (clock-unclock K o kp on.from))
        (precedes_clock K o kp on.from_in (unclock K o kp on.from) u i.above);
    below = precedes_before on.to_in (clock K o u) (clock K o (unclock K o kp on.to)) on.to (precedes_clock K o kp on.to_in u (unclock K o kp on.to) i.below)
        (le_of_same (clock-unclock K o kp on.to));
  }

-- the times at which the clock shows the ends of the verdicts are numbers that the program keeps
abbrev pub HasEnds : (K : ℕ) (o : Move) → 0 < K → List Verdict → Type 0
HasEnds K o kp [] = Unit {0}
HasEnds K o kp (v ∷ verdicts) = HasFrac (unclock K o kp (value v.on.from)) × HasFrac (unclock K o kp (value v.on.to)) × HasEnds K o kp verdicts

module _ (K : ℕ) (o : Move) (kp : 0 < K) where
  -- a span taken back has a time
  pub span_room : (on : Span) (a : HasFrac (unclock K o kp (value on.from))) (b : HasFrac (unclock K o kp (value on.to)))
      → Precedes (on.from_in && on.to_in) (value a.frac) (value b.frac)
  span_room on a b =
      precedes_after (on.from_in && on.to_in) (value a.frac) (unclock K o kp (value on.from)) (value b.frac) (le_of_same a.same)
      (precedes_before (on.from_in && on.to_in) (unclock K o kp (value on.from)) (unclock K o kp (value on.to)) (value b.frac)
      (precedes_unclock K o kp (on.from_in && on.to_in) (value on.from) (value on.to)
      (precedes_of_room (on.from_in && on.to_in) (value on.from) (value on.to) on.not_empty))
      (ge_of_same b.same))

  -- the verdict by the first clock
  abbrev pub verdict_back : (v : Verdict) → HasFrac (unclock K o kp (value v.on.from)) → HasFrac (unclock K o kp (value v.on.to)) → Verdict
  verdict_back v a b = record {
    on = record {
      from = a.frac;
      from_in = v.on.from_in;
      to = b.frac;
      to_in = v.on.to_in;
      not_empty = room_of_precedes (v.on.from_in && v.on.to_in) (value a.frac) (value b.frac) (span_room v.on a b);
    };
    holds = v.holds;
  }

  -- and the verdicts
  abbrev pub verdicts_back : (verdicts : List Verdict) → HasEnds K o kp verdicts → List Verdict
  verdicts_back [] e = []
  verdicts_back (v ∷ verdicts) e = verdict_back v e.0 e.1 ∷ verdicts_back verdicts e.2

module _ (K : ℕ) (o : Move) (M : ℕ) (kp : 0 < K) (mp : 0 < M) {tr ur : Trace} (c : IsRecount K o M tr ur) (p : Subformula) where
  abbrev q : Subformula
  q = finer_tree K M p

  -- the truth at what the clock shows is that of the time
  pub told_in : (b : Bool) (u : Rational) → MatchBool b (Truth q ur (clock K o u)) (¬ Truth q ur (clock K o u)) → MatchBool b (Truth p tr u) (¬ Truth p tr u)
  told_in true u h = (truth_by K o M kp mp c p u).1 h
  told_in false u h = λ k. h ((truth_by K o M kp mp c p u).0 k)

  -- a verdict by the clock tells the truth where the clock shows its times
  pub told_at : (v : Verdict) → IsTold q ur v → (u : Rational) → IsIn (shown K o kp (interval v.on)) u → MatchBool v.holds (Truth p tr u) (¬ Truth p tr u)
  told_at v h u i = told_in v.holds u (h.truth (clock K o u) (in_shown K o kp (interval v.on) u i))

  told_back : (v : Verdict) (a : HasFrac (unclock K o kp (value v.on.from))) (b : HasFrac (unclock K o kp (value v.on.to)))
      → IsTold q ur v → IsTold p tr (verdict_back K o kp v a b)
  told_back v a b h = record {
    not_empty = not_empty_of_precedes (interval (verdict_back K o kp v a b).on) (span_room K o kp v.on a b);
    truth = λ t i. told_at v h t (record {
      above = precedes_after v.on.from_in (unclock K o kp (value v.on.from)) (value a.frac) t (ge_of_same a.same) i.above;
      below = precedes_before v.on.to_in t (value b.frac) (unclock K o kp (value v.on.to)) i.below (le_of_same b.same);
    });
  }

  go_on_back : (on other : Interval) → other.to ≈ clock K o on.to → other.to_in ≡ on.to_in → (v : Verdict) (verdicts : List Verdict)
      (a : HasFrac (unclock K o kp (value v.on.from))) (b : HasFrac (unclock K o kp (value v.on.to))) (e : HasEnds K o kp verdicts)
      → GoesOn q ur other v verdicts → GoesOn p tr on (verdict_back K o kp v a b) (verdicts_back K o kp verdicts e)
  go_on_back on other s i v [] a b e h = record {
    time = same_trans b.same (same_of_clock K o kp (same_trans (clock-unclock K o kp (value v.on.to)) (same_trans h.time s)));
    inside = h.inside ∙ i;
  }
  go_on_back on other s i v (w ∷ verdicts) a b e h = (
    record { time = same_trans e.0.same (same_trans (unclock_same K o kp h.0.time) (same_sym b.same)); once = h.0.once },
    h.1,
    told_back w e.0 e.1 h.2,
    go_on_back on other s i w verdicts e.0 e.1 e.2 h.3,
  )

  -- verdicts of a stretch by the clock are, taken back, those of the stretch at which it shows it
  pub stretch_back : (on other : Interval) → other.from ≈ clock K o on.from → other.from_in ≡ on.from_in → other.to ≈ clock K o on.to
      → other.to_in ≡ on.to_in → (verdicts : List Verdict) (e : HasEnds K o kp verdicts) → Describes verdicts q ur other
      → Describes (verdicts_back K o kp verdicts e) p tr on
  stretch_back on other s i u j [] e h = h
  stretch_back on other s i u j (v ∷ verdicts) e h = (
    record {
      time = same_trans e.0.same (same_of_clock K o kp (same_trans (clock-unclock K o kp (value v.on.from)) (same_trans h.0.time s)));
      inside = h.0.inside ∙ i;
    },
    told_back v e.0 e.1 h.1,
    go_on_back on other u j v verdicts e.0 e.1 e.2 h.2,
  )

  -- and those of the domain those of the domain
  pub describe_back : (verdicts : List Verdict) (e : HasEnds K o kp verdicts) → Describes verdicts q ur (closed (start ur) (stop ur))
      → Describes (verdicts_back K o kp verdicts e) p tr (closed (start tr) (stop tr))
  describe_back = stretch_back (closed (start tr) (stop tr)) (closed (start ur) (stop ur)) c.starts refl c.stops refl

  -- the line of the start is the first trace's
  pub start_back : (text : List ℕ) → IsStartLine q ur text → IsStartLine p tr text
  start_back text (holds, h, e) = (holds, by_truth holds h, e)
    where
      by_truth : (b : Bool) → MatchBool b (Truth q ur (start ur)) (¬ Truth q ur (start ur))
          → MatchBool b (Truth p tr (start tr)) (¬ Truth p tr (start tr))
      by_truth true k = (truth_by K o M kp mp c p (start tr)).1 (Truth-same q ur c.starts k)
      by_truth false k = λ x. k (Truth-same q ur (same_sym c.starts) ((truth_by K o M kp mp c p (start tr)).0 x))
