-- What comes to the sets of all nodes: a row, or the end of the input.
use Rattle.std.specs.Prelude.{◌≡◌, ◌^◌, true, false, Option, Some, None, List, MatchOption}
use Rattle.rational.specs.Rational.{IsWithin}
use Rattle.rational.specs.Time.{Rational, ◌≤ʳ◌}
use Rattle.frac128.specs.Value.{value}
use Rattle.stl_syntax.specs.Trace.{Trace, start}
use Rattle.rational.specs.Places.{AtMost, Same}
use Rattle.frac128.specs.Cuts.{place}
use Rattle.growing_sets.specs.Spans.{IsOn, Lies}
use Rattle.growing_sets.specs.Steps.{Gains}
use Rattle.early_verdict.specs.Fitting.{Lists, AreEmpty, AreSetsTidy, IsEmpty, IsFailingEmpty, IsFailingTidy, IsHoldingEmpty, IsHoldingTidy, IsTidy}
use Rattle.early_verdict.specs.Fitting.{start_place, sure_place}
use Rattle.early_verdict.specs.Looking.{WasList}
use Rattle.early_verdict.specs.declared.entry.Entry.{Entry}
use Rattle.growing_sets.specs.declared.stretch.Stretch.{Stretch}
use Rattle.growing_sets.specs.declared.grown.Grown.{Grown}
use Rattle.early_verdict.specs.declared.sets.Sets.{Sets}
use Rattle.early_verdict.specs.declared.sets.Holding.{Holding}
use Rattle.early_verdict.specs.declared.sets.Failing.{Failing}

-- no time ceases to be sure, and the times are small
pub record IsEntry (e : Entry) : Type 0 where
  pub order : AtMost (place e.before) (place e.sure)
  pub near_start : IsWithin (2 ^ 34) (value e.start.time)
  pub near_sure : IsWithin (2 ^ 34) (value e.sure.time)

-- sets can take an entry: their lists rise, and before the first one they have no time
pub record CanTake (e : Entry) (Tidy Empty : Type 0) : Type 0 where
  pub tidy : Tidy
  pub entry : IsEntry e
  pub none : e.first ≡ true → Empty

-- so a set, those between, and those of a node
abbrev pub SetCanTake : Entry → Grown → Type 0
SetCanTake e x = CanTake e (IsTidy x) (IsEmpty x)

abbrev pub HoldingCanTake : Entry → Holding → Type 0
HoldingCanTake e x = CanTake e (IsHoldingTidy x) (IsHoldingEmpty x)

abbrev pub FailingCanTake : Entry → Failing → Type 0
FailingCanTake e x = CanTake e (IsFailingTidy x) (IsFailingEmpty x)

abbrev pub SetsCanTake : Entry → Sets → Type 0
SetsCanTake e s = CanTake e (AreSetsTidy s) (AreEmpty s)

-- the trace goes on from the one before it, if there is one
pub record Happens (e : Entry) (old : Option Trace) (tr : Trace) : Type 0 where
  pub starts : Same (place e.start) (start_place tr)
  pub sure_to : Same (place e.sure) (sure_place tr)
  pub sure_before : MatchOption old (Same (place e.before) (start_place tr)) (λ o. (start o ≡ start tr) × Same (place e.before) (sure_place o))
  pub is_first : MatchOption old ((e.first ≡ true) × (e.ended ≡ false)) (λ o. e.first ≡ false)

-- the sets fitted the trace before; before any row they were empty
abbrev pub Was : Option Trace → (Trace → Sets → Type 0) → Sets → Type 0
Was None F s = AreEmpty s
Was (Some o) F s = F o s

-- the list of a set was this before what is fresh in it, and had no time before any row; and none of its times lies before the start
pub record HadList (old : Option Trace) (tr : Trace) (was : List Stretch) (x : Grown) : Type 0 where
  pub gains : Gains was x.spans.items x.fresh.items
  pub first : WasList old was
  pub within : (u : Rational) → IsOn x.spans.items u → Lies x.bounds u
  pub from : (u : Rational) → Lies x.bounds u → start tr ≤ʳ u

-- so were both lists of a node
pub record Had (old : Option Trace) (tr : Trace) (l : Lists) (s : Sets) : Type 0 where
  pub yes : HadList old tr l.yes s.yes
  pub no : HadList old tr l.no s.no
