-- The first fault of a trace's bytes, with its line and field.
use Rattle.std.specs.Prelude.{◌≡◌, ◌≢◌, ◌⊎◌, ℕ, suc, ◌-◌, ◌<◌, ◌≤◌, ◌==◌, Bool, if◌then◌else◌, List, [], ◌∷◌}
use Rattle.std.specs.Prelude.{length, ℤ, pos, negsuc, ◌<ℤ◌, codes, Option, Some, None, IsTrue, MatchBool, true}
use Rattle.stl_syntax.specs.Choice.{◌or_else◌, Where, Nothing}
use Rattle.stl_syntax.specs.Characters.{is_among}
use Rattle.stl_syntax.specs.Trace.{Column, Row, Trace}
use Rattle.trace_reader.specs.TraceText.{Line, lines, is_blank_line, fields, IsNumber, IsName, IsTimeField}
use Rattle.trace_reader.specs.TraceText.{IsColumn, Heading, IsHeading, scale_of, IsInTicks, IsRow, IsTraceText}
use Rattle.stl_syntax.specs.declared.scale.Scale.{Scale}
use Rattle.trace_reader.specs.declared.refusal.Limits.{Limits}
use Rattle.trace_reader.specs.declared.refusal.TraceRefusal.{TraceRefusal}
use Rattle.trace_reader.specs.declared.refusal.TraceKind.{TraceKind}
use Rattle.trace_reader.specs.declared.refusal.TraceKind.TheVariants.{Empty, BadName, SameName, TooManyColumns, BadMode}
use Rattle.trace_reader.specs.declared.refusal.TraceKind.TheVariants.{LineTooLong, BadNumber, WrongCount, TimeNotRising}
use Rattle.trace_reader.specs.declared.refusal.TraceKind.TheVariants.{OutOfRange, NoRows, TooManyRows, TooManyLines}

-- a header field up to its first colon
abbrev pub name_part : List ℕ → List ℕ
name_part [] = []
name_part (c ∷ rest) = if c == 58 then [] else c ∷ name_part rest

-- the faults of the first field of a header
abbrev pub TimeFault : List ℕ → TraceKind → Type 0
TimeFault f =
    Where (name_part f ≢ codes "time") (BadName 1)
    or_else Where (¬ ((n : ℕ) × IsTimeField f n)) (BadMode 1)

-- the faults of field i, where `earlier` are the names before it
abbrev pub ColumnFault : ℕ → List (List ℕ) → List ℕ → TraceKind → Type 0
ColumnFault i earlier f =
    Where (¬ IsName (name_part f)) (BadName i)
    or_else Where (¬ ((k : Column) × (n : ℕ) × IsColumn f k n)) (BadMode i)
    or_else Where (IsTrue (is_among (name_part f) earlier)) (SameName i)

-- the faults of the fields from i on, in order
abbrev pub ColumnFaults : ℕ → List (List ℕ) → List (List ℕ) → TraceKind → Type 0
ColumnFaults i earlier [] = Nothing
ColumnFaults i earlier (f ∷ more) = ColumnFault i earlier f or_else ColumnFaults (suc i) (name_part f ∷ earlier) more

-- the faults of a header's fields, in order
abbrev pub NameFaults : List (List ℕ) → TraceKind → Type 0
NameFaults [] = Nothing
NameFaults (f ∷ more) = TimeFault f or_else ColumnFaults 2 (codes "time" ∷ []) more

-- the faults of a header
abbrev pub HeaderFault : List (List ℕ) → TraceKind → Type 0
HeaderFault header = Where (65 < length header) (TooManyColumns (length header - 1)) or_else NameFaults header

-- the faults of field i of a row: a number with at most n decimals, from `low` to `high` ticks
abbrev pub NumberFault : ℕ → ℕ → ℤ → ℤ → ℕ → List ℕ → TraceKind → Type 0
NumberFault digits n low high i f =
    Where (¬ ((v : ℤ) × (k : ℕ) × IsNumber f v k × (k ≤ n))) (BadNumber i)
    or_else Where ((v : ℤ) × IsInTicks digits n f v × ((v <ℤ low) ⊎ (high <ℤ v))) (OutOfRange i)

-- the faults of the values from field i on, in order
abbrev pub ValueFaults : Scale → ℕ → List ℕ → List (List ℕ) → TraceKind → Type 0
ValueFaults s i (n ∷ digits) (f ∷ more) = NumberFault s.value n (negsuc 16777215) (pos 16777216) i f or_else ValueFaults s (suc i) digits more
ValueFaults s i _ _ = Nothing

-- the faults of a row's fields, in order
abbrev pub NumberFaults : Scale → Heading → List (List ℕ) → TraceKind → Type 0
NumberFaults s h [] = Nothing
NumberFaults s h (f ∷ more) = NumberFault s.time h.time_digits (pos 0) (pos 4294967295) 1 f or_else ValueFaults s 2 h.digits more

-- the row's time is not greater than the one before it
abbrev pub IsNotRising : Scale → Heading → Option ℕ → List (List ℕ) → Type 0
IsNotRising s h None row = ⊥
IsNotRising s h (Some last) row = (r : Row) × IsRow s h row r × (r.time ≤ last)

-- the faults of a row after `count` rows, the last of them at the time `last`
abbrev pub RowFault : Limits → Scale → Heading → ℕ → Option ℕ → List (List ℕ) → TraceKind → Type 0
RowFault limits s h count last row =
    Where (limits.rows ≤ count) TooManyRows
    or_else Where (length row ≢ suc (length h.columns)) (WrongCount (length row))
    or_else NumberFaults s h row
    or_else Where (IsNotRising s h last row) TimeNotRising

-- a fault in line n
abbrev pub InLine : ℕ → (TraceKind → Type 0) → TraceRefusal → Type 0
InLine n F r = (r.line ≡ n) × F r.kind

-- the faults of line n that are known before the line is whole
abbrev pub LineFault : Limits → ℕ → Line → TraceKind → Type 0
LineFault limits n line = Where (limits.lines < n) TooManyLines or_else Where (4096 < length line.bytes) LineTooLong

-- a fault of a line that is whole, or of those after it: of the one kind where the line is blank, and else of the other
abbrev pub InWhole : Line → (TraceRefusal → Type 0) → (TraceRefusal → Type 0) → TraceRefusal → Type 0
InWhole line Blank Other r = IsTrue line.whole × MatchBool (is_blank_line line) (Blank r) (Other r)

-- the first fault from line n on, after a header and `count` rows, the last of them at the time `last`
abbrev pub FaultAfter : Limits → Scale → Heading → Bool → ℕ → ℕ → Option ℕ → List Line → TraceRefusal → Type 0
FaultAfter limits s h ended n count last [] = InLine (n - 1) (Where (IsTrue ended × (count ≡ 0)) NoRows)
FaultAfter limits s h ended n count last (line ∷ more) =
    InLine n (LineFault limits n line)
    or_else InWhole line (FaultAfter limits s h ended (suc n) count last more)
    (InLine n (RowFault limits s h count last (fields line))
    or_else (λ r. (x : Row) × IsRow s h (fields line) x × FaultAfter limits s h ended (suc n) (suc count) (Some x.time) more r))

-- the first fault from line n on, where no line before it was the header
abbrev pub FaultFrom : Limits → Scale → Bool → ℕ → List Line → TraceRefusal → Type 0
FaultFrom limits least ended n [] = InLine (n - 1) (Where (IsTrue ended) Empty)
FaultFrom limits least ended n (line ∷ more) =
    InLine n (LineFault limits n line)
    or_else InWhole line (FaultFrom limits least ended (suc n) more)
    (InLine n (HeaderFault (fields line))
    or_else (λ r. (h : Heading) × IsHeading (fields line) h × FaultAfter limits (scale_of least h) h ended (suc n) 0 None more r))

-- the first fault of the bytes, which the input may have ended, with the least scale that is asked for
abbrev pub IsFirstFault : List ℕ → Bool → Limits → Scale → TraceRefusal → Type 0
IsFirstFault bytes ended limits least = FaultFrom limits least ended 1 (lines ended bytes)

-- the bytes, all of them, are those of the trace, and have no fault
pub record HasTrace (bytes : List ℕ) (limits : Limits) (least : Scale) (tr : Trace) : Type 0 where
  pub text : IsTraceText bytes least tr
  pub sound : (r : TraceRefusal) → ¬ IsFirstFault bytes true limits least r
