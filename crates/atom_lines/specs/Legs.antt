-- How an atom's truth goes over the rows of a trace, by the places at which it turns.
use Rattle.std.specs.Prelude.{◌≡◌, ◌<◌, ◌≤◌, ◌-◌, ℕ, Bool, true, not, cond, Option, None, Some, MatchOption, length}
use Rattle.rational.specs.Time.{Rational, ◌<ʳ◌, ◌≤ʳ◌, ◌≈◌}
use Rattle.rational.specs.Places.{Place, After, Upto, AtMost}
use Rattle.stl_syntax.specs.Trace.{Trace, row_time}
use Rattle.stl_syntax.specs.Truth.{holds_at}
use Rattle.stl_syntax.specs.declared.atom.Atom.{Atom}
use Rattle.atom_lines.specs.declared.passage.Turning.{Turning}
use Rattle.atom_lines.specs.declared.passage.Leg.{Leg}
use Rattle.atom_lines.specs.Binding.{Binding, IsFor}
use Rattle.atom_lines.specs.Growing.{IsReachAt}
use Rattle.atom_lines.specs.Passages.{HasBlock, crossing_time}
use Rattle.atom_lines.specs.Rows.{row_of}

-- the place of a turning
abbrev pub turning_place : Turning → Place
turning_place x = record { at = crossing_time x.at; after = x.after }

-- the place lies on the gap, no earlier than right behind its begin and before its end
pub record LiesOver (from to : Rational) (c : Place) : Type 0 where
  pub begins : AtMost (record { at = from; after = true }) c
  pub ends : c.at <ʳ to

-- so does that of a turning, if there is one
abbrev pub TurnsOver : Rational → Rational → Option Turning → Type 0
TurnsOver from to turn = MatchOption turn (Unit {0}) (λ x. LiesOver from to (turning_place x))

-- on the open gap the test is `holds` up to the place, and the other truth from there on
pub record IsBend (from to : Rational) (test : Rational → Bool) (holds : Bool) (c : Place) : Type 0 where
  pub until_then : (t : Rational) → from <ʳ t → Upto c t → test t ≡ holds
  pub from_then : (t : Rational) → After c t → t <ʳ to → test t ≡ not holds

-- the test bends so where there is a turning; with none it is `holds` on the open gap
abbrev pub BendsSo : Rational → Rational → (Rational → Bool) → Bool → Option Turning → Type 0
BendsSo from to test holds turn =
    MatchOption turn ((t : Rational) → from <ʳ t → t <ʳ to → test t ≡ holds) (λ x. IsBend from to test holds (turning_place x))

-- the truth behind a turning, if there is one
abbrev pub bent : Option Turning → Bool → Bool
bent None holds = holds
bent (Some x) holds = not holds

-- the other truth, where it jumps
abbrev pub jumped : Bool → Bool → Bool
jumped jumps holds = cond jumps (not holds) holds

-- the test stays what it is at a time up to that of a row, bends on the gap to the next row or does not, and jumps there or does not
pub record TellsLeg (from before to : Rational) (test : Rational → Bool) (turn : Option Turning) (jumps : Bool) : Type 0 where
  pub stays : (t : Rational) → from ≤ʳ t → t ≤ʳ before → test t ≡ test from
  pub bends : BendsSo before to test (test from) turn
  pub there : (t : Rational) → t ≈ to → test t ≡ jumped jumps (bent turn (test from))

-- the leg goes from row r of the block to a later one, as the atom does in each trace in which the block stands
pub record IsLeg (b : Binding) (i : ℕ) (block : Trace) (r : ℕ) (w : Leg) : Type 0 where
  pub later : r < w.row
  pub within : w.row < length block.rows
  pub order : (row_of block r).time ≤ (row_of block (w.row - 1)).time
  pub rises : (row_of block (w.row - 1)).time < (row_of block w.row).time
  pub sum : IsReachAt b i block w.row w.sum
  pub inside : TurnsOver (row_time (row_of block (w.row - 1))) (row_time (row_of block w.row)) w.turn
  pub tells : (a : Atom) (tr : Trace) → IsFor b i a tr → HasBlock tr block
      → TellsLeg (row_time (row_of block r)) (row_time (row_of block (w.row - 1))) (row_time (row_of block w.row)) (holds_at a tr) w.turn w.jumps
