-- Windows of lists, in the words of the early reading.
use Rattle.std.proofs.Common.{inl, inr, sym, subst, ℕ, Bool, true, false, Option, Some, None, List}
use Rattle.std.specs.Prelude.{◌↔◌, MatchBool}
use Rattle.rational.specs.Time.{Rational, later, ◌≤ʳ◌}
use Rattle.rational.proofs.Order.{le_refl, le_trans, same_of_le}
use Rattle.rational.proofs.TimeLemmas.{later_from, precedes_le, precedes_before, precedes_after}
use Rattle.stl_syntax.specs.Trace.{Trace, start}
use Rattle.stl_syntax.specs.Early.{OpenAhead, OpenBehind}
use Rattle.rational.specs.Places.{Place, Same}
use Rattle.frac128.specs.Cuts.{place}
use Rattle.growing_sets.specs.Spans.{IsOn}
use Rattle.growing_sets.specs.Steps.{SeesOne, SeesOnly}
use Rattle.growing_sets.specs.Sure.{SeesSure}
use Rattle.growing_sets.specs.Windows.{Sees}
use Rattle.early_verdict.specs.Readings.{SomeAhead, OnlyAhead, SomeBehind, OnlyBehind}
use Rattle.early_verdict.specs.Fitting.{Says, start_place, sure_place}
use Rattle.early_verdict.specs.Happening.{Happens, HadList}
use Rattle.early_verdict.specs.Looking.{IsAhead, IsBehind, WasTold, SeesOnlyTo}
use Rattle.early_verdict.specs.declared.entry.Entry.{Entry}
use Rattle.growing_sets.specs.declared.stretch.Stretch.{Stretch}
use Rattle.growing_sets.specs.declared.grown.Grown.{Grown}
use Rattle.growing_sets.specs.declared.window.Window.{Window}
use Rattle.rational.proofs.PlaceLemmas.{after_same, upto_same, same_places}
use Rattle.growing_sets.proofs.Gaps.{on_same}
use Rattle.early_verdict.proofs.SinceSets.{none_later}
use Rattle.early_verdict.proofs.SetsTell.{Told, tells_as, tells_back, tells_none, none_of}

module _ (w : Window) (a b : ℕ) (a_in b_in : Bool) (is : IsAhead w a b a_in b_in) (tr : Trace) where
  sees : (t u : Rational) → OpenAhead (start tr) a b a_in b_in t u → Sees w t u
  sees t u o = (is t u).1 (o.begins, o.ends)

  opens : (t u : Rational) → start tr ≤ʳ u → Sees w t u → OpenAhead (start tr) a b a_in b_in t u
  opens t u f s = let k = (is t u).0 s in record { after = f; begins = k.0; ends = k.1 }

  -- a window ahead begins no earlier than its time
  no_earlier : (t u : Rational) → OpenAhead (start tr) a b a_in b_in t u → t ≤ʳ u
  no_earlier t u o = le_trans (later_from t a) (precedes_le a_in (later t a) u o.begins)

  -- the window sees a sure time of the list where some time ahead is one of it
  sure_is : (sure : Place) → Same sure (sure_place tr) → (xs : List Stretch) → ((u : Rational) → IsOn xs u → start tr ≤ʳ u)
      → (t : Rational) → SeesSure w sure xs t ↔ SomeAhead tr a b a_in b_in (IsOn xs) t
  sure_is sure to xs from t = (out, into)
    where
      out : SeesSure w sure xs t → SomeAhead tr a b a_in b_in (IsOn xs) t
      out (inl (u, o, s)) = (u, opens t u (from u o.0) s, (from u o.0, inl (upto_same sure (sure_place tr) u to o.1)), o.0)
      out (inr (o, s)) = (t, opens t t (from t o) s, (from t o, inr (le_refl t)), o)

      into : SomeAhead tr a b a_in b_in (IsOn xs) t → SeesSure w sure xs t
      into (u, o, c, y) = elim c.1 [
        | inl l ↦ inl (u, (y, upto_same (sure_place tr) sure u (same_places to) l), sees t u o)
        | inr l ↦ inr (
          on_same xs u t (same_of_le l (no_earlier t u o)) y,
          (is t t).1 (precedes_before a_in (later t a) u t o.begins l, precedes_after b_in t u (later t b) (no_earlier t u o) o.ends),
        )
      ]

  -- it sees only times of the list where all times ahead are of it; once the input has ended, those up to the last row
  only_is : (ended : Bool) (st sure : Place) → Same st (start_place tr) → MatchBool ended (Same sure (sure_place tr)) (Unit {0}) → (xs : List Stretch)
      → (t : Rational) → SeesOnlyTo ended w st sure xs t ↔ OnlyAhead ended tr a b a_in b_in (IsOn xs) t
  only_is false st sure begins to xs t = (
    λ f u o c. f u (after_same (start_place tr) st u (same_places begins) o.after) (sees t u o),
    λ f u k s. f u (opens t u (after_same st (start_place tr) u begins k) s) tt,
  )
  only_is true st sure begins to xs t = (
    λ f u o c. f u (after_same (start_place tr) st u (same_places begins) o.after) (upto_same (sure_place tr) sure u (same_places to) c) (sees t u o),
    λ f u k e s. f u (opens t u (after_same st (start_place tr) u begins k) s) (upto_same sure (sure_place tr) u to e),
  )

module _ (w : Window) (a : ℕ) (b : Option ℕ) (a_in b_in : Bool) (is : IsBehind w a b a_in b_in) (tr : Trace) where
  opens_back : (t u : Rational) → start tr ≤ʳ u → Sees w t u → OpenBehind (start tr) a b a_in b_in t u
  opens_back t u f s = let k = (is t u).0 s in record { after = f; begins = k.0; ends = k.1 }

  -- the window sees a time of the list where some time behind is one of it
  one_is : (xs : List Stretch) → ((u : Rational) → IsOn xs u → start tr ≤ʳ u) → (t : Rational) → SeesOne w xs t ↔ SomeBehind tr a b a_in b_in (IsOn xs) t
  one_is xs from t = (
    λ s. let k = opens_back t s.0 (from s.0 s.1) s.2 in
        (s.0, k, (from s.0 s.1, inr (none_later s.0 t a (precedes_le a_in (later s.0 a) t k.ends))), s.1),
    λ s. (s.0, s.3, (is t s.0).1 (s.1.begins, s.1.ends)),
  )

  -- it sees only times of the list where all times behind are of it
  back_is : (st : Place) → Same st (start_place tr) → (xs : List Stretch) → (t : Rational) → SeesOnly w st xs t ↔ OnlyBehind tr a b a_in b_in (IsOn xs) t
  back_is st begins xs t = (
    λ f u o. f u (after_same (start_place tr) st u (same_places begins) o.after) ((is t u).1 (o.begins, o.ends)),
    λ f u k s. f u (opens_back t u (after_same st (start_place tr) u begins k) s),
  )

-- the start of the trace before is that of the trace
starts_so : (e : Entry) (tr o : Trace) → Happens e (Some o) tr → Same (place e.start) (start_place o)
starts_so e tr o h = subst (λ r. Same (place e.start) (record { at = r; after = false })) (sym h.sure_before.0) h.starts

-- and no time of the list from before lies before it
from_so : (e : Entry) (tr o : Trace) → Happens e (Some o) tr → (was : List Stretch) (x : Grown) → HadList (Some o) tr was x
    → (u : Rational) → IsOn was u → start o ≤ʳ u
from_so e tr o h was x had u i = subst (λ r. r ≤ʳ u) (sym h.sure_before.0) (had.from u (had.within u (had.gains.kept u i)))

-- one entry over a set of a window: told by the window's own step, it tells on in the words of the reading
module _ (e : Entry) (tr : Trace) where
  -- some time ahead
  pub sure_step : (old : Option Trace) → Happens e old tr → (w : Window) (a b : ℕ) (a_in b_in : Bool) → IsAhead w a b a_in b_in
      → (was : List Stretch) (x own new : Grown) → HadList old tr was x → Told old own (λ o. SomeAhead o a b a_in b_in (IsOn was))
      → (Says own (SeesSure w (place e.before) was) → Says new (SeesSure w (place e.sure) x.spans.items))
      → Says new (SomeAhead tr a b a_in b_in (IsOn x.spans.items))
  sure_step old h w a b a_in b_in is was x own new had told step =
      tells_as (sure_is w a b a_in b_in is tr (place e.sure) h.sure_to x.spans.items (λ u i. had.from u (had.within u i))) (step (so old h had told))
    where
      so : (old : Option Trace) → Happens e old tr → HadList old tr was x → Told old own (λ o. SomeAhead o a b a_in b_in (IsOn was))
          → Says own (SeesSure w (place e.before) was)
      so None h had told = tells_none told (λ t s. elim s [ inl y ↦ none_of was y.0 had.first y.1.0 | inr y ↦ none_of was t had.first y.0 ])
      so (Some o) h had told =
          tells_back (sure_is w a b a_in b_in is o (place e.before) h.sure_before.1 was (from_so e tr o h was x had)) told

  -- each time ahead
  pub only_step : (old : Option Trace) → Happens e old tr → (ended : Bool) (w : Window) (a b : ℕ) (a_in b_in : Bool) → IsAhead w a b a_in b_in
      → (was now : List Stretch) (own new : Grown) → Told old own (λ o. OnlyAhead false o a b a_in b_in (IsOn was))
      → (WasTold old own (SeesOnly w (place e.start) was) → Says new (SeesOnlyTo ended w (place e.start) (place e.sure) now))
      → Says new (OnlyAhead ended tr a b a_in b_in (IsOn now))
  only_step old h ended w a b a_in b_in is was now own new told step =
      tells_as (only_is w a b a_in b_in is tr ended (place e.start) (place e.sure) h.starts (to ended) now) (step (so old h told))
    where
      to : (ended : Bool) → MatchBool ended (Same (place e.sure) (sure_place tr)) (Unit {0})
      to true = h.sure_to
      to false = tt

      so : (old : Option Trace) → Happens e old tr → Told old own (λ o. OnlyAhead false o a b a_in b_in (IsOn was))
          → WasTold old own (SeesOnly w (place e.start) was)
      so None h told = told
      so (Some o) h told = tells_back (only_is w a b a_in b_in is o false (place e.start) (place e.sure) (starts_so e tr o h) tt was) told

  -- some time behind
  pub one_step : (old : Option Trace) → Happens e old tr → (w : Window) (a : ℕ) (b : Option ℕ) (a_in b_in : Bool) → IsBehind w a b a_in b_in
      → (was : List Stretch) (x own new : Grown) → HadList old tr was x → Told old own (λ o. SomeBehind o a b a_in b_in (IsOn was))
      → (Says own (SeesOne w was) → Says new (SeesOne w x.spans.items)) → Says new (SomeBehind tr a b a_in b_in (IsOn x.spans.items))
  one_step old h w a b a_in b_in is was x own new had told step =
      tells_as (one_is w a b a_in b_in is tr x.spans.items (λ u i. had.from u (had.within u i))) (step (so old h had told))
    where
      so : (old : Option Trace) → Happens e old tr → HadList old tr was x → Told old own (λ o. SomeBehind o a b a_in b_in (IsOn was))
          → Says own (SeesOne w was)
      so None h had told = tells_none told (λ t s. none_of was s.0 had.first s.1)
      so (Some o) h had told = tells_back (one_is w a b a_in b_in is o was (from_so e tr o h was x had)) told

  -- each time behind
  pub back_step : (old : Option Trace) → Happens e old tr → (w : Window) (a : ℕ) (b : Option ℕ) (a_in b_in : Bool) → IsBehind w a b a_in b_in
      → (was now : List Stretch) (own new : Grown) → Told old own (λ o. OnlyBehind o a b a_in b_in (IsOn was))
      → (WasTold old own (SeesOnly w (place e.start) was) → Says new (SeesOnly w (place e.start) now))
      → Says new (OnlyBehind tr a b a_in b_in (IsOn now))
  back_step old h w a b a_in b_in is was now own new told step =
      tells_as (back_is w a b a_in b_in is tr (place e.start) h.starts now) (step (so old h told))
    where
      so : (old : Option Trace) → Happens e old tr → Told old own (λ o. OnlyBehind o a b a_in b_in (IsOn was))
          → WasTold old own (SeesOnly w (place e.start) was)
      so None h told = told
      so (Some o) h told = tells_back (back_is w a b a_in b_in is o (place e.start) (starts_so e tr o h) was) told
