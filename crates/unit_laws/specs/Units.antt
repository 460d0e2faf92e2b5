-- The laws of units: smaller ticks change nothing that is told.
use Rattle.std.specs.Prelude.{◌≡◌, ℕ, ◌+◌, ◌*◌, ◌^◌, ◌≤◌, ◌↔◌, pos, ◌*ℤ◌, List, map}
use Rattle.rational.specs.Time.{Rational, ◌<ʳ◌, ◌≈◌}
use Rattle.rational.specs.Extended.{Extended, minus_infinity, finite, infinity}
use Rattle.stl_syntax.specs.Trace.{Row, Trace, IsTrace, AreInRange}
use Rattle.stl_syntax.specs.Formula.{Formula, Subformula, root}
use Rattle.stl_syntax.specs.Truth.{Truth}
use Rattle.stl_syntax.specs.SupInf.{Robustness}
use Rattle.stl_syntax.specs.WellFormed.{IsWellFormed}
use Rattle.trace_reader.specs.TraceRefusals.{HasTrace}
use Rattle.trace_reader.specs.declared.refusal.Limits.{Limits}
use Rattle.stl_syntax.specs.Scaling.{nodes_for}
use Rattle.report.specs.Report.{Command, check, robust, explain, json, table, Out}

-- the row in ticks that are 10^k and 10^m times smaller
abbrev pub finer_row : ℕ → ℕ → Row → Row
finer_row k m r = record { time = 10 ^ k * r.time; values = map (λ v. pos (10 ^ m) *ℤ v) r.values }

-- the trace in smaller ticks
abbrev pub finer : ℕ → ℕ → Trace → Trace
finer k m tr = record {
  header = record { columns = tr.header.columns; scale = record { time = tr.header.scale.time + k; value = tr.header.scale.value + m } };
  rows = map (finer_row k m) tr.rows;
}

-- the time in smaller ticks
abbrev pub finer_time : ℕ → Rational → Rational
finer_time k t = record { up = 10 ^ k * t.up; down = 10 ^ k * t.down; den = t.den; positive = t.positive }

-- the value in smaller ticks
abbrev pub finer_value : ℕ → Extended → Extended
finer_value m minus_infinity = minus_infinity
finer_value m (finite x) = finite (record { up = 10 ^ m * x.up; down = 10 ^ m * x.down; den = x.den; positive = x.positive })
finer_value m infinity = infinity

-- the truth at a time does not depend on the ticks
abbrev pub TruthIsOfUnits : Type 0
TruthIsOfUnits =
    (f : Formula) (tr : Trace) (k m : ℕ) (t : Rational) → IsTrace tr
    → f.scale.time ≤ tr.header.scale.time → f.scale.value ≤ tr.header.scale.value
    → Truth (root (nodes_for f tr)) tr t ↔ Truth (root (nodes_for f (finer k m tr))) (finer k m tr) (finer_time k t)

-- nor does the robustness, which is a value in ticks
abbrev pub RobustnessIsOfUnits : Type 0
RobustnessIsOfUnits =
    (f : Formula) (tr : Trace) (k m : ℕ) (t : Rational) (v : Extended) → IsTrace tr
    → f.scale.time ≤ tr.header.scale.time → f.scale.value ≤ tr.header.scale.value
    → Robustness (root (nodes_for f tr)) tr t v ↔ Robustness (root (nodes_for f (finer k m tr))) (finer k m tr) (finer_time k t) (finer_value m v)

-- the command writes the same for both traces
abbrev pub WritesAlike : Command → Formula → Trace → Trace → Type 0
WritesAlike command f tr tr' = (text : List ℕ) → (Out command f tr text → Out command f tr' text) × (Out command f tr' text → Out command f tr text)

-- what `check` and `robust` write does not depend on the ticks
abbrev pub LawOfUnits : Type 0
LawOfUnits =
    (f : Formula) (tr : Trace) (k m : ℕ) → IsWellFormed f → IsTrace tr → AreInRange tr.rows → f.scale.time ≤ tr.header.scale.time
    → f.scale.value ≤ tr.header.scale.value → WritesAlike check f tr (finer k m tr) × WritesAlike robust f tr (finer k m tr)

-- so it is for `explain` and `json`
abbrev pub IsOfUnitsWithin : Command → Type 0
IsOfUnitsWithin command =
    (f : Formula) (tr : Trace) (k m : ℕ) → IsWellFormed f → IsTrace tr → AreInRange tr.rows → f.scale.time ≤ tr.header.scale.time
    → f.scale.value ≤ tr.header.scale.value → WritesAlike command f tr (finer k m tr)

-- what `explain` writes
abbrev pub ExplainIsOfUnits : Type 0
ExplainIsOfUnits = IsOfUnitsWithin explain

-- what `json` writes
abbrev pub JsonIsOfUnits : Type 0
JsonIsOfUnits = IsOfUnitsWithin json

-- and for every command and each trace that is read for the formula: its rows lie within the limits, and its ticks are no coarser
abbrev pub ReadTextsAreOfUnits : Formula → Type 0
ReadTextsAreOfUnits f =
    (command : Command) (bytes : List ℕ) (limits : Limits) (tr : Trace) (k m : ℕ) → HasTrace bytes limits f.scale tr
    → WritesAlike command f tr (finer k m tr)

-- where `check` writes something in both ticks it is one text, whatever the formula and the trace
abbrev pub CheckWritesOneText : Type 0
CheckWritesOneText =
    (f : Formula) (tr : Trace) (k m : ℕ) → IsTrace tr → f.scale.time ≤ tr.header.scale.time → f.scale.value ≤ tr.header.scale.value
    → (text other : List ℕ) → Out check f tr text → Out check f (finer k m tr) other → text ≡ other

-- what the command writes does not depend on the ticks, whatever the formula and the trace
abbrev pub IsOfUnits : Command → Type 0
IsOfUnits command =
    (f : Formula) (tr : Trace) (k m : ℕ) → IsTrace tr → f.scale.time ≤ tr.header.scale.time → f.scale.value ≤ tr.header.scale.value
    → WritesAlike command f tr (finer k m tr)

-- what `robust` writes: its knots are any rationals
abbrev pub RobustIsOfUnits : Type 0
RobustIsOfUnits = IsOfUnits robust

-- what `table` writes
abbrev pub TableIsOfUnits : Type 0
TableIsOfUnits = IsOfUnits table

-- what the command writes it writes in smaller ticks too
abbrev pub KeepsItsText : Command → Type 0
KeepsItsText command =
    (f : Formula) (tr : Trace) (k m : ℕ) → IsTrace tr → f.scale.time ≤ tr.header.scale.time → f.scale.value ≤ tr.header.scale.value
    → (text : List ℕ) → Out command f tr text → Out command f (finer k m tr) text

-- each command does
abbrev pub TextsAreKept : Type 0
TextsAreKept = (command : Command) → KeepsItsText command

-- about t the formula has one truth
abbrev pub IsOneTruthAbout : Subformula → Trace → Rational → Type 0
IsOneTruthAbout p tr t =
    (from to : Rational) × (from <ʳ t) × (t <ʳ to)
    × ((u v : Rational) → from <ʳ u → u <ʳ to → from <ʳ v → v <ʳ to → Truth p tr u → Truth p tr v)

-- the truth turns only at fractions with denominators up to 2^31
abbrev pub TruthTurnsAtFractions : Type 0
TruthTurnsAtFractions =
    (f : Formula) (tr : Trace) (t : Rational) → IsWellFormed f → IsTrace tr → AreInRange tr.rows
    → ((v : Rational) → v.den ≤ 2 ^ 31 → ¬ (t ≈ v)) → IsOneTruthAbout (root (nodes_for f tr)) tr t
