-- Verdicts told one after another describe a function of time.
use Rattle.std.proofs.Common.{◌≡◌, ◌≢◌, ◌⊎◌, inl, inr, Bool, true, false, not, ◌&&◌, Option, Some, None, List, [], ◌∷◌, ◌++◌, append-nil, refl, sym, ◌∙◌, subst}
use Rattle.std.proofs.lemmas.Bool.{true≢false}
use Rattle.rational.specs.Time.{Rational, ◌≤ʳ◌, ◌<ʳ◌, ◌≈◌, Interval, IsIn, IsNotEmpty, Precedes, Touch, closed}
use Rattle.rational.specs.Windows.{Function}
use Rattle.rational.proofs.Order.{le_or_lt, lt_of_lt_of_le, lt_of_le_of_lt, lt_trans, same_of_le, le_of_lt, le_refl, same_refl}
use Rattle.rational.proofs.TimeLemmas.{not_empty_of_precedes, precedes_of_room, precedes_of_lt}
use Rattle.frac128.specs.Value.{value}
use Rattle.frac128.specs.Spans.{interval}
use Rattle.frac128.specs.declared.frac.Frac.{Frac}
use Rattle.stl_syntax.specs.declared.items.Verdict.{Verdict}
use Rattle.report.specs.SignalVerdicts.{sign_of, IsToldBy, GoesOnBy, DescribesFunction}
use Rattle.report.specs.Spelling.{Closes, GoesTo, listed}
use Rattle.report.specs.declared.spelling.OpenSpan.{OpenSpan}

-- from the start up to the end of a verdict
abbrev pub up_to : Rational → Verdict → Interval
up_to start w = record { from = start; from_in = true; to = value w.on.to; to_in = w.on.to_in }

-- from the beginning of an open span up to a time
abbrev pub open_up_to : OpenSpan → Rational → Bool → Interval
open_up_to o t inside = record { from = value o.from; from_in = o.from_in; to = t; to_in = inside }

-- a span has some time in it
span_not_empty : (w : Verdict) → IsNotEmpty (interval w.on)
span_not_empty w = not_empty_of_precedes (interval w.on) (precedes_of_room (w.on.from_in && w.on.to_in) (value w.on.from) (value w.on.to) w.on.not_empty)

-- a time before the end of a first stretch, or in the second that joins on
before_or_after : (mid : Rational) (mid_in : Bool) (t : Rational) → Precedes mid_in t mid ⊎ Precedes (not mid_in) mid t
before_or_after mid true t = le_or_lt t mid
before_or_after mid false t = by_order (le_or_lt mid t)
  where
    by_order : (mid ≤ʳ t) ⊎ (t <ʳ mid) → (t <ʳ mid) ⊎ (mid ≤ʳ t)
    by_order (inl h) = inr h
    by_order (inr h) = inl h

-- a stretch goes on with one that joins on
longer : (from mid to : Rational) (from_in mid_in to_in : Bool) → Precedes (from_in && mid_in) from mid
    → Precedes (not mid_in && to_in) mid to → Precedes (from_in && to_in) from to
longer from mid to true true to_in h k = precedes_of_lt to_in from to (lt_of_le_of_lt h k)
longer from mid to false true to_in h k = lt_trans h k
longer from mid to true false true h k = le_of_lt (lt_of_lt_of_le h k)
longer from mid to false false true h k = lt_of_lt_of_le h k
longer from mid to true false false h k = lt_trans h k
longer from mid to false false false h k = lt_trans h k

other_truth : (b : Bool) → not b ≢ b
other_truth true h = true≢false (sym h)
other_truth false h = true≢false h

module _ (F : Function) where
  -- the function tells this truth at each time of the interval
  abbrev pub Keeps : Interval → Bool → Type 0
  Keeps on holds = (t : Rational) → IsIn on t → F t (sign_of holds)

  -- the open span is told up to the time `now`, which is in or out, and with each true end of it the verdicts before it describe the function up to there
  pub record IsSpelled (start now : Rational) (now_in : Bool) (verdicts : List Verdict) (o : OpenSpan) : Type 0 where
    -- the open span has a time before now
    pub begun : Precedes (o.from_in && now_in) (value o.from) now
    -- and on it the function keeps its truth
    pub told : Keeps (open_up_to o now now_in) o.holds
    -- closed at a time, it ends verdicts that describe the function up to it
    pub before : (w : Verdict) (at : Frac) (at_in : Bool) → Closes o at at_in w → IsToldBy F w → DescribesFunction F (verdicts ++ w ∷ []) (up_to start w)

  -- one more verdict at the end
  goes_on_more : (start : Rational) (u : Verdict) (verdicts : List Verdict) (v w : Verdict)
      → GoesOnBy F (up_to start v) u (verdicts ++ v ∷ []) → Touch (interval v.on) (interval w.on) → v.holds ≢ w.holds → IsToldBy F w
      → GoesOnBy F (up_to start w) u ((verdicts ++ v ∷ []) ++ w ∷ [])
  goes_on_more start u [] v w g t h k = (g.0, g.1, g.2, (t, h, k, record { time = same_refl (value w.on.to); inside = refl }))
  goes_on_more start u (x ∷ verdicts) v w g t h k = (g.0, g.1, g.2, goes_on_more start x verdicts v w g.3 t h k)

  describes_more : (start : Rational) (verdicts : List Verdict) (v w : Verdict)
      → DescribesFunction F (verdicts ++ v ∷ []) (up_to start v) → Touch (interval v.on) (interval w.on) → v.holds ≢ w.holds → IsToldBy F w
      → DescribesFunction F ((verdicts ++ v ∷ []) ++ w ∷ []) (up_to start w)
  describes_more start [] v w d t h k =
      (record { time = d.0.time; inside = d.0.inside }, d.1, (t, h, k, record { time = same_refl (value w.on.to); inside = refl }))
  describes_more start (u ∷ verdicts) v w d t h k = (record { time = d.0.time; inside = d.0.inside }, d.1, goes_on_more start u verdicts v w d.2 t h k)

  -- an interval and what joins on
  keeps_more : (from mid to : Rational) (from_in mid_in to_in holds : Bool) → Keeps (record { from = from; from_in = from_in; to = mid; to_in = mid_in }) holds
      → Keeps (record { from = mid; from_in = not mid_in; to = to; to_in = to_in }) holds
      → Keeps (record { from = from; from_in = from_in; to = to; to_in = to_in }) holds
  keeps_more from mid to from_in mid_in to_in holds h k t inside = by_side (before_or_after mid mid_in t)
    where
      by_side : Precedes mid_in t mid ⊎ Precedes (not mid_in) mid t → F t (sign_of holds)
      by_side (inl b) = h t (record { above = inside.above; below = b })
      by_side (inr a) = k t (record { above = a; below = inside.below })

  -- the verdict that closes a span where it is told is told
  closed_told : (start : Rational) (at : Frac) (at_in : Bool) (verdicts : List Verdict) (o : OpenSpan) (w : Verdict)
      → IsSpelled start (value at) at_in verdicts o → Closes o at at_in w → IsToldBy F w
  closed_told start at at_in verdicts o w s c = record { not_empty = span_not_empty w; truth = rw (c.from, c.from_in, c.to, c.to_in, c.holds) s.told }

  -- the first time alone
  pub spelled_first : (now : Rational) (o : OpenSpan) → value o.from ≡ now → o.from_in ≡ true
      → ((t : Rational) → t ≈ now → F t (sign_of o.holds)) → IsSpelled now now true [] o
  spelled_first now o e f told = record {
    begun = rw (e, f) (le_refl now);
    told = rw (e, f) (λ t inside. told t (record { same = (same_of_both t inside).same }));
    before = λ w at at_in c k.
        (record { time = rw (c.from, e) (same_refl now); inside = c.from_in ∙ f }, k, record { time = same_refl (value w.on.to); inside = refl });
  }
    where
      same_of_both : (t : Rational) → IsIn (record { from = now; from_in = true; to = now; to_in = true }) t → t ≈ now
      same_of_both t h = same_of_le h.below h.above

  -- past a time with a truth
  pub spelled_on : {start : Rational} {verdicts : List Verdict} {o : OpenSpan} (new : OpenSpan) (at : Frac) (at_in truth : Bool)
      (ended : Option Verdict) (next : Rational) (next_in : Bool)
      → IsSpelled start (value at) at_in verdicts o → GoesTo o at at_in truth ended new → Precedes (not at_in && next_in) (value at) next
      → Keeps (record { from = value at; from_in = not at_in; to = next; to_in = next_in }) truth
      → IsSpelled start next next_in (verdicts ++ listed ended) new
  spelled_on {start} {verdicts} {o} new at at_in truth None next next_in s g h k =
      rw (append-nil verdicts, g.1) (record {
        begun = longer (value o.from) (value at) next o.from_in at_in next_in s.begun h;
        told = keeps_more (value o.from) (value at) next o.from_in at_in next_in o.holds s.told (rw g.0 k);
        before = s.before;
      })
  spelled_on {start} {verdicts} {o} new at at_in truth (Some w) next next_in s g h k = record {
    begun = rw (g.from, g.from_in) h;
    told = rw (g.from, g.from_in, g.holds) k;
    before = λ x end end_in c told. describes_more start verdicts w x (s.before w at at_in g.closes (closed_told start at at_in verdicts o w s g.closes))
        (record { time = rw (c.from, g.from, g.closes.to) (same_refl (value at)); once = rw (c.from_in, g.from_in, g.closes.to_in) (other_truth at_in) })
        (rw (g.closes.holds, c.holds, g.holds) g.other) told;
  }

  -- the last span ends where it is told
  pub spelled_end : (start : Rational) (at : Frac) (verdicts : List Verdict) (o : OpenSpan) (w : Verdict)
      → IsSpelled start (value at) true verdicts o → Closes o at true w
      → DescribesFunction F (verdicts ++ w ∷ []) (closed start (value at))
  spelled_end start at verdicts o w s c =
      subst (λ (on : Interval). DescribesFunction F (verdicts ++ w ∷ []) on) (rw (c.to, c.to_in) refl)
      (s.before w at true c (closed_told start at true verdicts o w s c))
