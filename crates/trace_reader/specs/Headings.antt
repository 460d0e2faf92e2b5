-- A heading as it is kept, and as it is being read.
use Rattle.std.specs.Prelude.{◌≡◌, ℕ, ◌+◌, ◌≤◌, List, [], ◌∷◌, ◌++◌, map, All, codes, length, vec_len, vec_capacity}
use Rattle.stl_syntax.specs.Characters.{is_among}
use Rattle.stl_syntax.specs.Trace.{Column, Header}
use Rattle.stl_syntax.specs.declared.scale.Scale.{Scale}
use Rattle.trace_reader.specs.Labels.{column_of}
use Rattle.trace_reader.specs.TraceText.{Heading, IsHeading, IsColumn, AreColumns, scale_of}
use Rattle.trace_reader.specs.TraceRefusals.{name_part, ColumnFault, ColumnFaults, HeaderFault}
use Rattle.trace_reader.specs.declared.refusal.TraceKind.{TraceKind}
use Rattle.trace_reader.specs.declared.room.HeadingRoom.TheInside.{Inside as Room}
use Rattle.trace_reader.specs.declared.room.Heading.TheInside.{Inside as Kept}

-- the header of a heading
abbrev pub header_with : Scale → Heading → Header
header_with least h = record { columns = h.columns; scale = scale_of least h }

-- the columns that were read of a heading, with the decimals of each
pub record Opened : Type 0 where
  pub columns : List Column
  pub digits : List ℕ

abbrev pub opened_of : Room → Opened
opened_of a = record { columns = map column_of a.labels.items; digits = a.digits.items }

-- there is a name for each column that is wanting, and room for all
pub record IsRoom (a : Room) : Type 0 where
  pub names : vec_len a.spare + vec_len a.labels ≡ 64
  pub places : vec_len a.digits ≡ vec_len a.labels
  pub label_room : 64 ≤ vec_capacity a.labels
  pub digit_room : 64 ≤ vec_capacity a.digits
  pub small : All (λ n. n ≤ 6) a.digits.items

-- a heading, and the ticks of its trace
pub record Scaled : Type 0 where
  pub heading : Heading
  pub scale : Scale

abbrev pub scaled_of : Kept → Scaled
scaled_of a = record { heading = record { time_digits = a.time; columns = a.header.columns; digits = a.digits.items }; scale = a.header.scale }

-- the decimals of each column are at most those of the ticks
pub record IsScaled (a : Kept) : Type 0 where
  pub time : a.time ≤ a.header.scale.time
  pub values : All (λ n. n ≤ a.header.scale.value) a.digits.items
  pub small : (a.header.scale.time ≤ 6) × (a.header.scale.value ≤ 6)
  pub width : length a.digits.items ≡ length a.header.columns
  pub most : length a.header.columns ≤ 64

-- the names that stand in earlier fields, in any order
abbrev pub AreNames : List (List ℕ) → List Column → Type 0
AreNames earlier columns = (n : List ℕ) → is_among n earlier ≡ is_among n (codes "time" ∷ map (λ (k : Column). k.name) columns)

-- one column more was read
pub record IsColumnMore (f : List ℕ) (old new : Opened) : Type 0 where
  pub column : Column
  pub digits : ℕ
  pub written : IsColumn f column digits
  pub added : new ≡ record { columns = old.columns ++ column ∷ []; digits = old.digits ++ digits ∷ [] }
  pub sound : (i : ℕ) (earlier : List (List ℕ)) → AreNames earlier old.columns → (k : TraceKind) → ¬ ColumnFault i earlier f k
  pub named : column.name ≡ name_part f

-- the fields that are left from field i on, after these columns
pub record AreColumnsLeft (fields : List (List ℕ)) (i : ℕ) (left : List (List ℕ)) (o : Opened) : Type 0 where
  pub earlier : List (List ℕ)
  pub names : AreNames earlier o.columns
  pub faults : (k : TraceKind) → ColumnFaults i earlier left k → ColumnFaults 2 (codes "time" ∷ []) fields k
  pub only : (k : TraceKind) → ColumnFaults 2 (codes "time" ∷ []) fields k → ColumnFaults i earlier left k
  pub columns : (cs : List Column) (ds : List ℕ) → AreColumns left cs ds → AreColumns fields (o.columns ++ cs) (o.digits ++ ds)

-- the fields are those of the heading, which has no fault
pub record IsHeadingRead (least : Scale) (fields : List (List ℕ)) (r : Scaled) : Type 0 where
  pub read : IsHeading fields r.heading
  pub scale : r.scale ≡ scale_of least r.heading
  pub sound : (k : TraceKind) → ¬ HeaderFault fields k
