-- What was written of a stretch, and what is told beyond it.
use Rattle.std.specs.Prelude.{
  ◌≡◌,
  ◌≢◌,
  ◌+◌,
  ◌≤◌,
  ℕ,
  Bool,
  not,
  Option,
  Some,
  None,
  MatchOption,
  List,
  [],
  ◌∷◌,
  ◌++◌,
  length,
}
use Rattle.rational.specs.Time.{Rational, Interval}
use Rattle.frac128.specs.Spans.{interval}
use Rattle.stl_syntax.specs.Trace.{Trace}
use Rattle.stl_syntax.specs.Formula.{Subformula}
use Rattle.stl_syntax.specs.Truth.{Truth}
use Rattle.stl_syntax.specs.Verdicts.{Describes}
use Rattle.stl_syntax.specs.declared.items.Verdict.{Verdict}
use Rattle.rational.specs.Places.{Place, begins, ends, After, Upto, AtMost, Before, Same}
use Rattle.frac128.specs.Cuts.{place}
use Rattle.online_nodes.specs.Truths.{AllAre, Is}
use Rattle.online_nodes.specs.Held.{Held, edge_at, with_edge, with_more}
use Rattle.frac128.specs.declared.cut.Cut.{Cut}
use Rattle.online_nodes.specs.declared.writer.Out.{Out}

-- the spans lead from c to d, each tells the truth, and neighbours differ; `before` is the verdict before the first, `last` the last one
abbrev pub Lead : Subformula → Trace → Place → Option Bool → List Verdict → Place → Option Bool → Type 0
Lead n tr c before [] d last = Same c d × (before ≡ last)
Lead n tr c before (v ∷ vs) d last =
    Same c (begins (interval v.on)) × Before (begins (interval v.on)) (ends (interval v.on)) × (before ≢ Some v.holds)
    × AllAre v.holds (Truth n tr) (begins (interval v.on)) (ends (interval v.on))
    × Lead n tr (ends (interval v.on)) (Some v.holds) vs d last

-- how many spans wait to be put
abbrev pub waiting : Option Bool → ℕ
waiting None = 0
waiting (Some h) = 1

-- the span that is not written yet
abbrev pub IsPending : Subformula → Trace → Out → Option Bool → Type 0
IsPending n tr out last =
    MatchOption out.holds (Same (place out.from) (place out.at) × (last ≡ None))
    (λ h. Before (place out.from) (place out.at) × (last ≢ Some h) × AllAre h (Truth n tr) (place out.from) (place out.at))

-- from `begin` up to where the writer stands, the verdicts written and the span not yet written tell the node's truth
pub record HasTold (n : Subformula) (tr : Trace) (begin : Place) (written : List Verdict) (out : Out) : Type 0 where
  pub last : Option Bool
  pub lead : Lead n tr begin None written (place out.from) last
  pub pending : IsPending n tr out last

-- where a verdict was said, some stretch waits to be written; else none
abbrev pub IsSound : Out → Type 0
IsSound out = MatchOption out.holds (Same (place out.from) (place out.at)) (λ h. Before (place out.from) (place out.at))

-- edge i got these verdicts at its back, each for one of the spare places, and nothing else changed
pub record HasGot (old new : Held) (i : ℕ) (more : List Verdict) : Type 0 where
  pub edges : new.edges ≡ with_edge old i (with_more (edge_at old i) more)
  pub start : new.start ≡ old.start
  pub spare : old.spare ≤ new.spare + length more

-- the span up to where the writer stands was put
pub record IsPutBack (old new : Held) (out : Out) (holds : Bool) : Type 0 where
  pub verdict : Verdict
  pub got : HasGot old new out.edge (verdict ∷ [])
  pub begin : Same (place out.from) (begins (interval verdict.on))
  pub end : Same (place out.at) (ends (interval verdict.on))
  pub is : verdict.holds ≡ holds

-- what was said of the node since, from where the writer stood to where it stands, was put or waits to be put: at most one verdict more
-- was put, and where all that was told and what was said is the truth, so is all that is told now
pub record HasAnswer (old new : Held) (before : Out) (holds : Bool) (after : Out) : Type 0 where
  pub more : List Verdict
  pub few : length more ≤ 1
  pub owed : length more + waiting after.holds ≤ 1 + waiting before.holds
  pub got : HasGot old new before.edge more
  pub edge : after.edge ≡ before.edge
  pub end : after.to ≡ before.to
  pub sound : IsSound after
  pub told : (n : Subformula) (tr : Trace) (begin : Place) (written : List Verdict) → HasTold n tr begin written before
      → AllAre holds (Truth n tr) (place before.at) (place after.at) → HasTold n tr begin (written ++ more) after

-- the same, up to this very place
pub record HasWritten (old new : Held) (before : Out) (holds : Bool) (cut : Cut) (after : Out) : Type 0 where
  pub at : after.at ≡ cut
  pub answer : HasAnswer old new before holds after

-- the writer went on as far as the place and the end of its stretch allow, and not back
pub record Reaches (before : Out) (cut : Cut) (after : Out) : Type 0 where
  pub forward : AtMost (place before.at) (place after.at)
  pub inside : AtMost (place after.at) (place before.to)
  pub reached : (t : Rational) → Upto (place cut) t → Upto (place before.to) t → Upto (place after.at) t
  pub no_more : (t : Rational) → After (place before.at) t → Upto (place after.at) t → Upto (place cut) t

-- one verdict was said up to the place `middle` and the other one from there up to the place `cut`, within the stretch: where that is the
-- truth, so is all that is told now
pub record HasSaidBoth (old new : Held) (before : Out) (holds : Bool) (middle cut : Cut) (after : Out) : Type 0 where
  pub more : List Verdict
  pub few : length more ≤ 2
  pub owed : length more + waiting after.holds ≤ 2 + waiting before.holds
  pub got : HasGot old new before.edge more
  pub edge : after.edge ≡ before.edge
  pub end : after.to ≡ before.to
  pub sound : IsSound after
  pub inside : AtMost (place after.at) (place before.to)
  pub forward : AtMost (place before.at) (place after.at)
  pub reached : (t : Rational) → Upto (place cut) t → Upto (place before.to) t → Upto (place after.at) t
  pub told : (n : Subformula) (tr : Trace) (begin : Place) (written : List Verdict) → HasTold n tr begin written before
      → ((t : Rational) → After (place before.at) t → Upto (place before.to) t → Upto (place middle) t → Is holds (Truth n tr) t)
      → ((t : Rational) → After (place before.at) t → Upto (place before.to) t → After (place middle) t → Upto (place cut) t
      → Is (not holds) (Truth n tr) t)
      → HasTold n tr begin (written ++ more) after

-- all was put that was told: where the writer came to the end of a stretch and what it told from the begin on is the truth, the list
-- describes the node there
pub record HasFinished (old new : Held) (out : Out) : Type 0 where
  pub more : List Verdict
  pub few : length more ≤ 1
  pub owed : length more ≤ waiting out.holds
  pub got : HasGot old new out.edge more
  pub told : (n : Subformula) (tr : Trace) (begin : Place) (written : List Verdict) → HasTold n tr begin written out
      → (last : Option Bool) × Lead n tr begin None (written ++ more) (place out.at) last
  pub describes : (n : Subformula) (tr : Trace) (stretch : Interval) (written : List Verdict) → Before (begins stretch) (ends stretch)
      → HasTold n tr (begins stretch) written out → Same (place out.at) (ends stretch) → Describes (written ++ more) n tr stretch
