-- What the sets between told before an entry, in the words of lists.
use Rattle.std.proofs.Common.{◌≡◌, ◌⊎◌, inl, inr, sym, subst, ℕ, Bool, true, false, Option, Some, None, List}
use Rattle.std.specs.Prelude.{◌↔◌, IsTrue, MatchOption}
use Rattle.rational.specs.Time.{Rational, ◌≤ʳ◌}
use Rattle.stl_syntax.specs.Trace.{Trace, start}
use Rattle.stl_syntax.specs.Early.{OpenAhead}
use Rattle.rational.specs.Places.{Place, Same}
use Rattle.frac128.specs.Cuts.{place}
use Rattle.growing_sets.specs.Spans.{Lies, IsOn}
use Rattle.growing_sets.specs.Steps.{SeesOne}
use Rattle.growing_sets.specs.Reaching.{GoesOn, GoesTo, GoesBackBy}
use Rattle.early_verdict.specs.Readings.{SomeAhead, OnlyAhead, SomeBehind, OnlyBehind}
use Rattle.early_verdict.specs.Fitting.{Lists, Says, sure_place, UntilHolding, UntilFailing, SinceHolding, SinceFailing, IsHoldingEmpty, IsFailingEmpty}
use Rattle.early_verdict.specs.Happening.{Happens}
use Rattle.early_verdict.specs.Looking.{IsAhead, WasList}
use Rattle.early_verdict.specs.declared.entry.Entry.{Entry}
use Rattle.growing_sets.specs.declared.stretch.Stretch.{Stretch}
use Rattle.early_verdict.specs.declared.sets.Holding.{Holding}
use Rattle.early_verdict.specs.declared.sets.Failing.{Failing}
use Rattle.growing_sets.specs.declared.window.Window.{Window}
use Rattle.rational.proofs.PlaceLemmas.{upto_same, same_places}
use Rattle.early_verdict.proofs.SetsTell.{Told, tells_back, tells_none, none_of}

-- up to one place or the same
goes_on_same : (runs spans : List Stretch) (c d : Place) → Same c d → (t : Rational) → GoesOn runs spans c t → GoesOn runs spans d t
goes_on_same runs spans c d s t (inl (u, l, o, z)) = inl (u, l, (o.0, upto_same c d u s o.1), z)
goes_on_same runs spans c d s t (inr o) = inr o

-- what goes on from a place goes on from the same place
pub goes_on_is : (runs spans : List Stretch) (c d : Place) → Same c d → (t : Rational) → GoesOn runs spans c t ↔ GoesOn runs spans d t
goes_on_is runs spans c d s t = (goes_on_same runs spans c d s t, goes_on_same runs spans d c (same_places s) t)

-- the window up to the time a ahead sees a time of the list where one lies open ahead
pub broken_is : (w : Window) (a : ℕ) → IsAhead w 0 a true true → (tr : Trace) (xs : List Stretch) → ((u : Rational) → IsOn xs u → start tr ≤ʳ u)
    → (t : Rational) → SeesOne w xs t ↔ ((u : Rational) × OpenAhead (start tr) 0 a true true t u × IsOn xs u)
broken_is w a is tr xs from t = (
  λ s. let k = (is t s.0).0 s.2 in (s.0, record { after = from s.0 s.1; begins = k.0; ends = k.1 }, s.1),
  λ s. (s.0, s.2, (is t s.0).1 (s.1.begins, s.1.ends)),
)

-- before any row none was carried on
none_carried : (b : Bool) → b ≡ false → IsTrue b → ⊥
none_carried b e t = cc

-- what the sets of an until that holds told before an entry
pub record UntilHeld (e : Entry) (old : Option Trace) (a b : ℕ) (p q : Lists) (x : Holding) : Type 0 where
  -- the times of both sides
  pub both : Says x.both (λ t. IsOn p.yes t × IsOn q.yes t)
  -- the times from which a run comes to them
  pub run : Says x.run (GoesOn p.yes x.both.spans.items (place e.before))
  -- of which there are none before any row
  pub no_run : WasList old x.run.spans.items
  -- the times whose window sees the right side
  pub some : Told old x.some (λ o. SomeAhead o a b true true (IsOn q.yes))
  -- the times all of whose way is of the run
  pub each : Told old x.each (λ o. OnlyAhead false o 0 a true true (IsOn x.run.spans.items))

-- what those of one that fails told
pub record UntilFailed (old : Option Trace) (a b : ℕ) (up_to : Window) (p q : Lists) (x : Failing) : Type 0 where
  -- the times of a failure of either side
  pub fail : Says x.fail (λ t. IsOn p.no t ⊎ IsOn q.no t)
  -- the times from which a failure of the left side is reached
  pub stop : Says x.stop (GoesTo x.fail.spans.items p.no)
  -- the times all of whose window the right side fails
  pub never : Told old x.never (λ o. OnlyAhead false o a b true true (IsOn q.no))
  -- the times whose way is broken
  pub broken : Says x.broken (SeesOne up_to x.stop.spans.items)

-- what the sets of a since that holds told before an entry
pub record SinceHeld (old : Option Trace) (a : ℕ) (b : Option ℕ) (p q : Lists) (x : Holding) : Type 0 where
  -- the times of both sides
  pub both : Says x.both (λ t. IsOn p.yes t × IsOn q.yes t)
  -- the times back from which a run comes to them
  pub run : Says x.run (GoesBackBy x.carried (place x.run.bounds.from) p.yes x.both.spans.items)
  -- of which there are none before any row
  pub no_run : WasList old x.run.spans.items
  -- the times whose window sees the right side
  pub some : Told old x.some (λ o. SomeBehind o a b true true (IsOn q.yes))
  -- the times all of whose way is of the run
  pub each : Told old x.each (λ o. OnlyBehind o 0 (Some a) true true (IsOn x.run.spans.items))

-- what those of one that fails told
pub record SinceFailed (old : Option Trace) (a : ℕ) (b : Option ℕ) (p q : Lists) (x : Failing) : Type 0 where
  -- the times of a failure of either side
  pub fail : Says x.fail (λ t. IsOn p.no t ⊎ IsOn q.no t)
  -- the times back from which a failure of the left side is reached
  pub stop : Says x.stop (GoesBackBy x.carried (place x.stop.bounds.from) x.fail.spans.items p.no)
  -- of which there are none before any row
  pub no_stop : WasList old x.stop.spans.items
  -- the times all of whose window the right side fails
  pub never : Told old x.never (λ o. OnlyBehind o a b true true (IsOn q.no))
  -- the times whose way is broken
  pub broken : Told old x.broken (λ o. SomeBehind o 0 (Some a) true true (IsOn x.stop.spans.items))

module _ (e : Entry) (tr : Trace) (p q : Lists) (a : ℕ) where
  -- the sets of an until that held told so, or were empty
  pub until_held : (old : Option Trace) → Happens e old tr → (b : ℕ) (x : Holding) → WasList old p.yes
      → MatchOption old (IsHoldingEmpty x) (λ o. UntilHolding o a b p q x) → UntilHeld e old a b p q x
  until_held None h b x none v = record {
    both = tells_none v.both (λ t k. none_of p.yes t none k.0);
    run = tells_none v.run (λ t g. elim g [ inl y ↦ none_of x.both.spans.items y.0 v.both y.2.0 | inr y ↦ none_of x.both.spans.items t v.both y ]);
    no_run = v.run;
    some = v.some;
    each = v.each;
  }
  until_held (Some o) h b x none v = record {
    both = v.both;
    run = tells_back (goes_on_is p.yes x.both.spans.items (place e.before) (sure_place o) h.sure_before.1) v.run;
    no_run = tt;
    some = v.some;
    each = v.each;
  }

  -- those of one that failed too
  pub until_failed : (old : Option Trace) → Happens e old tr → (b : ℕ) (up_to : Window) → IsAhead up_to 0 a true true → (x : Failing)
      → WasList old p.no → WasList old q.no → ((u : Rational) → Lies x.stop.bounds u → start tr ≤ʳ u)
      → MatchOption old (IsFailingEmpty x) (λ o. UntilFailing false o a b p q x) → UntilFailed old a b up_to p q x
  until_failed None h b up_to is x none none_q from v = record {
    fail = tells_none v.fail (λ t k. elim k [ inl y ↦ none_of p.no t none y | inr y ↦ none_of q.no t none_q y ]);
    stop = tells_none v.stop (λ t g. none_of p.no g.0 none g.2);
    never = v.never;
    broken = tells_none v.broken (λ t s. none_of x.stop.spans.items s.0 v.stop s.1);
  }
  until_failed (Some o) h b up_to is x none none_q from v = record {
    fail = v.fail;
    stop = v.stop;
    never = v.never;
    broken = tells_back
        (broken_is up_to a is o x.stop.spans.items (λ u i. subst (λ r. r ≤ʳ u) (sym h.sure_before.0) (from u (v.stop.only u i).0))) v.broken;
  }

  -- those of a since that held
  pub since_held : (old : Option Trace) (b : Option ℕ) (x : Holding) → WasList old p.yes
      → MatchOption old (IsHoldingEmpty x) (λ o. SinceHolding o a b p q x) → SinceHeld old a b p q x
  since_held None b x none v = record {
    both = tells_none v.both (λ t k. none_of p.yes t none k.0);
    run = tells_none v.run (λ t g. elim g [ inl y ↦ none_of x.both.spans.items y.0 v.both y.2 | inr k ↦ none_carried x.carried v.carried k.on ]);
    no_run = v.run;
    some = v.some;
    each = v.each;
  }
  since_held (Some o) b x none v = record { both = v.both; run = v.run; no_run = tt; some = v.some; each = v.each }

  -- and those of one that failed
  pub since_failed : (old : Option Trace) (b : Option ℕ) (x : Failing) → WasList old p.no → WasList old q.no
      → MatchOption old (IsFailingEmpty x) (λ o. SinceFailing o a b p q x) → SinceFailed old a b p q x
  since_failed None b x none none_q v = record {
    fail = tells_none v.fail (λ t k. elim k [ inl y ↦ none_of p.no t none y | inr y ↦ none_of q.no t none_q y ]);
    stop = tells_none v.stop (λ t g. elim g [ inl y ↦ none_of p.no y.0 none y.2 | inr k ↦ none_carried x.carried v.carried k.on ]);
    no_stop = v.stop;
    never = v.never;
    broken = v.broken;
  }
  since_failed (Some o) b x none none_q v = record { fail = v.fail; stop = v.stop; no_stop = tt; never = v.never; broken = v.broken }
