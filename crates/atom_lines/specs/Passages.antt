-- How an atom's truth goes over the rows of a trace: over one gap, and over several in which it stays what it is.
use Rattle.std.specs.Prelude.{◌≡◌, ◌<◌, ◌≤◌, ◌+◌, ◌-◌, ◌+ℤ◌, ◌*ℤ◌, ℕ, pos, Bool, not, Some, length, slice_get}
use Rattle.rational.specs.Time.{Rational, ◌<ʳ◌, ◌≤ʳ◌, ◌≈◌}
use Rattle.rational.specs.Rational.{fraction}
use Rattle.rational.specs.Places.{Place, After, Upto}
use Rattle.stl_syntax.specs.Trace.{Row, Trace, row_time}
use Rattle.stl_syntax.specs.Truth.{holds_at}
use Rattle.stl_syntax.specs.declared.atom.Atom.{Atom}
use Rattle.atom_lines.specs.declared.passage.Crossing.{Crossing}
use Rattle.atom_lines.specs.declared.passage.Passage.{Passage}
use Rattle.atom_lines.specs.declared.passage.Passage.TheVariants.{Steady, Turns}
use Rattle.atom_lines.specs.declared.passage.Way.{Way}
use Rattle.atom_lines.specs.Binding.{Binding, IsFor}
use Rattle.atom_lines.specs.Rows.{row_of}
use Rattle.atom_lines.specs.Growing.{IsReachAt}

-- the time of a crossing
abbrev pub crossing_time : Crossing → Rational
crossing_time x = fraction (pos x.floor *ℤ pos x.den +ℤ pos x.rest) (pos x.den)

-- on the open gap the test is `before` up to a place inside, and the other truth from there on
pub record IsTurning (from to : Rational) (test : Rational → Bool) (before : Bool) (c : Place) : Type 0 where
  pub after_first : from <ʳ c.at
  pub before_second : c.at <ʳ to
  pub until_then : (t : Rational) → from <ʳ t → Upto c t → test t ≡ before
  pub from_then : (t : Rational) → After c t → t <ʳ to → test t ≡ not before

-- the truth of a test on the open gap: one truth, or one up to a place and the other from there on
abbrev pub TellsPassage : Rational → Rational → (Rational → Bool) → Passage → Type 0
TellsPassage from to test (Steady holds) = (t : Rational) → from <ʳ t → t <ʳ to → test t ≡ holds
TellsPassage from to test (Turns before at after) = IsTurning from to test before (record { at = crossing_time at; after = after })

-- a passage that turns does so inside the open gap
abbrev pub TurnsInside : Rational → Rational → Passage → Type 0
TurnsInside from to (Steady holds) = Unit {0}
TurnsInside from to (Turns before at after) = (from <ʳ crossing_time at) × (crossing_time at <ʳ to)

-- the rows of the block stand in the trace, one right after another
pub record HasBlock (tr block : Trace) : Type 0 where
  pub place : ℕ
  pub rows : (k : ℕ) (r : Row) → slice_get block.rows k ≡ Some r → slice_get tr.rows (place + k) ≡ Some r

-- the test stays what it is at a time up to that of a row, passes the gap to the next row so, and has this truth there
pub record TellsWay (from before to : Rational) (test : Rational → Bool) (passage : Passage) (last : Bool) : Type 0 where
  pub stays : (t : Rational) → from ≤ʳ t → t ≤ʳ before → test t ≡ test from
  pub passes : TellsPassage before to test passage
  pub there : (t : Rational) → t ≈ to → test t ≡ last

-- the way goes from row r of the block to a later one, as the atom does in each trace in which the block stands
pub record IsWay (b : Binding) (i : ℕ) (block : Trace) (r : ℕ) (w : Way) : Type 0 where
  pub later : r < w.row
  pub within : w.row < length block.rows
  pub order : (row_of block r).time ≤ (row_of block (w.row - 1)).time
  pub rises : (row_of block (w.row - 1)).time < (row_of block w.row).time
  pub sum : IsReachAt b i block w.row w.sum
  pub inside : TurnsInside (row_time (row_of block (w.row - 1))) (row_time (row_of block w.row)) w.passage
  pub tells : (a : Atom) (tr : Trace) → IsFor b i a tr → HasBlock tr block
      → TellsWay (row_time (row_of block r)) (row_time (row_of block (w.row - 1))) (row_time (row_of block w.row)) (holds_at a tr) w.passage w.last
