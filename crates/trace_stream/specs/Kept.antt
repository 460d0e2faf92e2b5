-- What is kept of a trace's rows as they come, and the case that it stands for.
use Rattle.std.specs.Prelude.{ℕ, List, ◌++◌, Option, Some, None}
use Rattle.stl_syntax.specs.Formula.{Formula}
use Rattle.stl_syntax.specs.Trace.{Row}
use Rattle.trace_reader.specs.Reader.{Reader, StandsFor}
use Rattle.trace_reader.specs.declared.refusal.Limits.{Limits}
use Rattle.trace_stream.specs.CaseReader.{IsKept, IsEnded}
use Rattle.trace_stream.specs.declared.case.Case.{Case}

-- the case with rows more
abbrev pub with_rows : List Row → Case → Case
with_rows more c = record c { trace = record c.trace { rows = c.trace.rows ++ more } }

-- some bytes more were taken, which are rows, and what is kept stands for the case with them
pub record IsKeptOn (Stands : Case → Type 0) (old new : Reader) (c : Case) (taken : List ℕ) : Type 0 where
  pub more : List Row
  pub kept : Stands (with_rows more c)
  pub stands : (bytes : List ℕ) (rows : List Row) → StandsFor old bytes rows → StandsFor new (bytes ++ taken) (rows ++ more)

module _ {K : Type 0} (Stands : K → Case → Type 0) where
  -- once the header was read, what is kept stands for the case
  abbrev pub StandsForCase : Option K → Option Case → Type 0
  StandsForCase None None = Unit {0}
  StandsForCase None (Some c) = ⊥
  StandsForCase (Some x) None = ⊥
  StandsForCase (Some x) (Some c) = Stands x c

  -- the reader took these bytes, and this is what was kept of them
  pub record IsKeptAs (f : Formula) (reader : Reader) (kept : Option K) (bytes : List ℕ) : Type 0 where
    pub case : Option Case
    pub for_case : StandsForCase kept case
    pub is : IsKept f reader case bytes

  -- the reader took some bytes, and this is what was kept of them
  pub record HasKeptAs (f : Formula) (reader : Reader) (kept : Option K) : Type 0 where
    pub bytes : List ℕ
    pub is : IsKeptAs f reader kept bytes

  -- the bytes, all of them, are those of the trace of the case that it stands for
  pub record IsEndedAs (limits : Limits) (f : Formula) (bytes : List ℕ) (x : K) : Type 0 where
    pub case : Case
    pub for_case : Stands x case
    pub ended : IsEnded limits f bytes case
