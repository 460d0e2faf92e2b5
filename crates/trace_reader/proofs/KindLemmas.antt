-- A fault of a line is never the one of a trace without rows.
use Rattle.std.proofs.Common.{◌≡◌, ℕ, inl, inr, suc, List, [], ◌∷◌, sym, ◌∙◌, Option}
use Rattle.std.specs.Prelude.{Err, ◌≢◌, ℤ}
use Rattle.stl_syntax.specs.declared.scale.Scale.{Scale}
use Rattle.trace_reader.specs.TraceText.{Heading, fields, scale_of}
use Rattle.trace_reader.specs.LineParts.{whole_line}
use Rattle.trace_reader.specs.TraceRefusals.{HeaderFault, ColumnFault, ColumnFaults, RowFault, NumberFault, NumberFaults, ValueFaults}
use Rattle.trace_reader.specs.Progress.{Progress, last_of, ReadsLine, bad_heading, bad_row}
use Rattle.trace_reader.specs.declared.refusal.Limits.{Limits}
use Rattle.trace_reader.specs.declared.refusal.TraceKind.{TraceKind}
use Rattle.trace_reader.specs.declared.refusal.TraceKind.TheVariants.{BadName, SameName, TooManyColumns, BadMode, BadNumber}
use Rattle.trace_reader.specs.declared.refusal.TraceKind.TheVariants.{WrongCount, TimeNotRising, OutOfRange, NoRows}
use Rattle.trace_reader.specs.declared.refusal.TraceKind.TheVariants.{TooManyRows}

abbrev Other : TraceKind → Type 0
Other k = k ≡ NoRows → ⊥

column_kind : (i : ℕ) (earlier : List (List ℕ)) (f : List ℕ) (k : TraceKind) → ColumnFault i earlier f k → Other k
column_kind i earlier f k (inl (_, e)) n = let w : BadName i ≡ NoRows = sym e ∙ n in cc
column_kind i earlier f k (inr (_, inl (_, e))) n = let w : BadMode i ≡ NoRows = sym e ∙ n in cc
column_kind i earlier f k (inr (_, inr (_, (_, e)))) n = let w : SameName i ≡ NoRows = sym e ∙ n in cc

columns_kind : (i : ℕ) (earlier fs : List (List ℕ)) (k : TraceKind) → ColumnFaults i earlier fs k → Other k
columns_kind i earlier [] k h n = h
columns_kind i earlier (f ∷ fs) k (inl h) n = column_kind i earlier f k h n
columns_kind i earlier (f ∷ fs) k (inr (_, h)) n = columns_kind (suc i) _ fs k h n

header_kind : (fs : List (List ℕ)) (k : TraceKind) → HeaderFault fs k → Other k
header_kind fs k (inl (_, e)) n = let w : TooManyColumns _ ≡ NoRows = sym e ∙ n in cc
header_kind [] k (inr (_, h)) n = h
header_kind (f ∷ fs) k (inr (_, inl (inl (_, e)))) n = let w : BadName 1 ≡ NoRows = sym e ∙ n in cc
header_kind (f ∷ fs) k (inr (_, inl (inr (_, (_, e))))) n = let w : BadMode 1 ≡ NoRows = sym e ∙ n in cc
header_kind (f ∷ fs) k (inr (_, inr (_, h))) n = columns_kind 2 _ fs k h n

number_kind : (d m : ℕ) (low high : ℤ) (i : ℕ) (f : List ℕ) (k : TraceKind) → NumberFault d m low high i f k → Other k
number_kind d m low high i f k (inl (_, e)) n = let w : BadNumber i ≡ NoRows = sym e ∙ n in cc
number_kind d m low high i f k (inr (_, (_, e))) n = let w : OutOfRange i ≡ NoRows = sym e ∙ n in cc

values_kind : (s : Scale) (i : ℕ) (ms : List ℕ) (fs : List (List ℕ)) (k : TraceKind) → ValueFaults s i ms fs k → Other k
values_kind s i [] fs k h n = h
values_kind s i (m ∷ ms) [] k h n = h
values_kind s i (m ∷ ms) (f ∷ fs) k (inl h) n = number_kind s.value m _ _ i f k h n
values_kind s i (m ∷ ms) (f ∷ fs) k (inr (_, h)) n = values_kind s (suc i) ms fs k h n

numbers_kind : (s : Scale) (g : Heading) (fs : List (List ℕ)) (k : TraceKind) → NumberFaults s g fs k → Other k
numbers_kind s g [] k h n = h
numbers_kind s g (f ∷ fs) k (inl h) n = number_kind s.time g.time_digits _ _ 1 f k h n
numbers_kind s g (f ∷ fs) k (inr (_, h)) n = values_kind s 2 g.digits fs k h n

row_kind : (limits : Limits) (s : Scale) (g : Heading) (count : ℕ) (last : Option ℕ) (fs : List (List ℕ)) (k : TraceKind)
    → RowFault limits s g count last fs k → Other k
row_kind limits s g count last fs k (inl (_, e)) n = let w : TooManyRows ≡ NoRows = sym e ∙ n in cc
row_kind limits s g count last fs k (inr (_, inl (_, e))) n = let w : WrongCount _ ≡ NoRows = sym e ∙ n in cc
row_kind limits s g count last fs k (inr (_, inr (_, inl h))) n = numbers_kind s g fs k h n
row_kind limits s g count last fs k (inr (_, inr (_, inr (_, (_, e))))) n = let w : TimeNotRising ≡ NoRows = sym e ∙ n in cc

-- no line is refused for want of rows
pub refused_kind : {limits : Limits} {line : List ℕ} {old new : Progress} {k : TraceKind} → ReadsLine limits line old new (Err k) → k ≢ NoRows
refused_kind {line = line} (bad_heading k b n f same) = header_kind (fields (whole_line line)) k f
refused_kind {limits} {line} {old} (bad_row h k b n f same) =
    row_kind limits (scale_of old.least h) h old.count (last_of old.count old.row) (fields (whole_line line)) k f
