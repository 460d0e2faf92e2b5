-- What stands for a case by sets of times, as its rows come.
use Rattle.std.specs.Prelude.{◌≡◌, ◌<◌, Bool, true, false, List, [], ◌∷◌, ◌++◌, length}
use Rattle.stl_syntax.specs.Formula.{Formula}
use Rattle.stl_syntax.specs.Trace.{Row}
use Rattle.atom_lines.specs.Rows.{row_of}
use Rattle.truth_sets.specs.Standing.{AreNone, StandFor}
use Rattle.trace_stream.specs.Cases.{IsCase}
use Rattle.trace_stream.specs.declared.case.Case.{Case}
use Rattle.verdict_sets.specs.declared.sets.VerdictSets.{VerdictSets}

-- it has the formula and the columns of the case, and the last of its rows
pub record HasTail (x : VerdictSets) (c : Case) : Type 0 where
  pub formula : x.case.formula ≡ c.formula
  pub bound : x.case.bound ≡ c.bound
  pub header : x.case.trace.header ≡ c.trace.header
  pub fits : (f : Formula) × IsCase f c
  pub earlier : List Row
  pub parts : c.trace.rows ≡ earlier ++ x.case.trace.rows

-- the sets stand for the rows of the case, up to this one
abbrev pub SetsUpto : VerdictSets → Case → Row → Type 0
SetsUpto x c r = StandFor x.sets c.bound c.formula.nodes c.trace.header c.trace.rows r

-- no row has come, and so there is no set; or the last row alone is held, and the sets stand for all rows
abbrev pub SetsOver : VerdictSets → Case → List Row → Type 0
SetsOver x c [] = AreNone x.sets c.formula.nodes × (c.trace.rows ≡ [])
SetsOver x c (r ∷ []) = SetsUpto x c r
SetsOver x c (r ∷ s ∷ rows) = ⊥

-- it stands for the case
pub record HasSets (x : VerdictSets) (c : Case) : Type 0 where
  pub tail : HasTail x c
  pub sets : SetsOver x c x.case.trace.rows

-- no row was taken in yet; or the sets stand for the rows up to the first that is held
abbrev pub SetsBefore : VerdictSets → Bool → Case → Type 0
SetsBefore x true c = AreNone x.sets c.formula.nodes × (c.trace.rows ≡ x.case.trace.rows)
SetsBefore x false c = (0 < length x.case.trace.rows) × SetsUpto x c (row_of x.case.trace 0)

-- the rows that are held can be taken in
pub record CanTakeIn (x : VerdictSets) (first : Bool) (c : Case) : Type 0 where
  pub tail : HasTail x c
  pub sets : SetsBefore x first c
