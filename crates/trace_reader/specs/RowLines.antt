-- The fields of a row as they are read, one after another.
use Rattle.std.specs.Prelude.{◌≡◌, ◌≢◌, ℕ, suc, ℤ, List, ◌++◌, length}
use Rattle.stl_syntax.specs.Choice.{◌or_else◌, Where}
use Rattle.stl_syntax.specs.Trace.{Row, IsInRange}
use Rattle.stl_syntax.specs.declared.scale.Scale.{Scale}
use Rattle.trace_reader.specs.TraceText.{AreInTicks, IsRow}
use Rattle.trace_reader.specs.TraceRefusals.{ValueFaults, NumberFaults}
use Rattle.trace_reader.specs.Headings.{Scaled}
use Rattle.trace_reader.specs.declared.refusal.TraceKind.{TraceKind}
use Rattle.trace_reader.specs.declared.refusal.TraceKind.TheVariants.{WrongCount}

-- the fields that are left from field i on, with the decimals of their columns, after these values
pub record AreValuesLeft (s : Scale) (digits : List ℕ) (fields : List (List ℕ)) (i : ℕ) (ds : List ℕ) (left : List (List ℕ)) (values : List ℤ) : Type 0 where
  pub faults : (k : TraceKind) → ValueFaults s i ds left k → ValueFaults s 2 digits fields k
  pub only : (k : TraceKind) → ValueFaults s 2 digits fields k → ValueFaults s i ds left k
  pub reads : (more : List ℤ) → AreInTicks s.value ds left more → AreInTicks s.value digits fields (values ++ more)

-- the fields are those of the row, and have no fault
pub record IsRowRead (h : Scaled) (fields : List (List ℕ)) (r : Row) : Type 0 where
  pub read : IsRow h.scale h.heading fields r
  pub width : length fields ≡ suc (length h.heading.columns)
  pub values : length r.values ≡ length h.heading.columns
  pub sound : (k : TraceKind) → ¬ NumberFaults h.scale h.heading fields k
  pub range : IsInRange r

-- the faults of the fields of a row: their number, or one of the fields
abbrev pub FieldFaults : Scaled → List (List ℕ) → TraceKind → Type 0
FieldFaults h fields = Where (length fields ≢ suc (length h.heading.columns)) (WrongCount (length fields)) or_else NumberFaults h.scale h.heading fields
