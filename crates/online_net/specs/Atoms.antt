-- What a row puts onto the edges of the atoms.
use Rattle.std.specs.Prelude.{◌≡◌, ◌≢◌, ℕ, ◌<◌, Bool, true, false, List, ◌++◌, length, Option, Some, None, pos, slice_get}
use Rattle.rational.specs.Time.{Rational, ◌≤ʳ◌, ◌<ʳ◌, Interval, closed, left_open}
use Rattle.stl_syntax.specs.Trace.{Row, Trace, row_time}
use Rattle.stl_syntax.specs.Formula.{Subformula, atom}
use Rattle.stl_syntax.specs.Truth.{Truth, holds_at}
use Rattle.stl_syntax.specs.Verdicts.{Describes}
use Rattle.stl_syntax.specs.declared.atom.Atom.{Atom}
use Rattle.stl_syntax.specs.declared.items.Verdict.{Verdict}
use Rattle.atom_lines.specs.Binding.{Binding, IsFor, HasRow, AreNeighbours}
use Rattle.rational.specs.Places.{Place, begins, AtMost, Same}
use Rattle.frac128.specs.Cuts.{place}
use Rattle.online_nodes.specs.Held.{Edge, Held, HasMore, JoinsAlike, edge_at, with_number}
use Rattle.online_nodes.specs.Truths.{AllAre}
use Rattle.online_nodes.specs.Written.{HasGot, HasTold, IsSound}
use Rattle.online_nodes.specs.declared.writer.Out.{Out}
use Rattle.online_nodes.specs.declared.operator.Operator.{Operator}

-- the stretch that a row answers at an atom: the row's time alone, or what follows the row before up to it
abbrev pub row_stretch : Option Row → Row → Interval
row_stretch None r = closed (row_time r) (row_time r)
row_stretch (Some first) r = left_open (row_time first) (row_time r)

-- the row stands in the trace, right after the row before, if there is one
abbrev pub StandsNext : Trace → Option Row → Row → Type 0
StandsNext tr None r = HasRow tr r
StandsNext tr (Some first) r = AreNeighbours tr first r

-- just before the row's time, and just after it
abbrev pub before_row : Row → Place
before_row r = record { at = row_time r; after = false }

abbrev pub after_row : Row → Place
after_row r = record { at = row_time r; after = true }

-- three verdicts were said, up to a place, from there up to another, and from there up to a third; where these follow one another within
-- the stretch, the writer stands at the third
pub record HasSaidThree (old new : Held) (before : Out) (first : Bool) (c : Place) (second : Bool) (d : Place) (third : Bool) (e : Place) (after : Out)
    : Type 0 where
  pub more : List Verdict
  pub got : HasGot old new before.edge more
  pub edge : after.edge ≡ before.edge
  pub to : after.to ≡ before.to
  pub sound : IsSound after
  pub inside : AtMost (place after.at) (place after.to)
  pub said : AtMost (place before.at) c → AtMost c d → AtMost d e → AtMost e (place before.to)
      → Same (place after.at) e
      × ((n : Subformula) (tr : Trace) (begin : Place) (written : List Verdict) → HasTold n tr begin written before
      → AllAre first (Truth n tr) (place before.at) c → AllAre second (Truth n tr) c d → AllAre third (Truth n tr) d e
      → HasTold n tr begin (written ++ more) after)

-- all is said of the atom at node i up to just before the row
pub record HasBegun (b : Binding) (i : ℕ) (before : Option Row) (r : Row) (old new : Held) (out : Out) : Type 0 where
  pub more : List Verdict
  pub got : HasGot old new i more
  pub edge : out.edge ≡ i
  pub to : Same (place out.to) (after_row r)
  pub sound : IsSound out
  pub inside : AtMost (place out.at) (place out.to)
  pub told : (a : Atom) (tr : Trace) → IsFor b i a tr → StandsNext tr before r
      → Same (place out.at) (before_row r) × HasTold (atom i a) tr (begins (row_stretch before r)) more out

-- the atom at node i is so at each time after the first row, up to the row right after it
abbrev pub IsThrough : Binding → ℕ → Row → Row → Bool → Type 0
IsThrough b i first r holds =
    (a : Atom) (tr : Trace) → IsFor b i a tr → AreNeighbours tr first r → (t : Rational) → row_time first <ʳ t → t ≤ʳ row_time r → holds_at a tr t ≡ holds

-- the edge of an atom got the verdicts that describe it on the stretch that the row answers, and the row's time as its number
pub record IsPut (b : Binding) (before : Option Row) (r : Row) (i : ℕ) (old new : Edge) : Type 0 where
  pub more : List Verdict
  pub put : Edge
  pub got : HasMore old put more
  pub is : new ≡ with_number put (pos r.time)
  pub describes : (a : Atom) (tr : Trace) → IsFor b i a tr → StandsNext tr before r → Describes more (atom i a) tr (row_stretch before r)

-- so did one edge, and nothing else changed
pub record HasPutAtom (b : Binding) (before : Option Row) (r : Row) (i : ℕ) (old new : Held) : Type 0 where
  pub here : IsPut b before r i (edge_at old i) (edge_at new i)
  pub others : (j : ℕ) → j ≢ i → edge_at new j ≡ edge_at old j
  pub count : length new.edges ≡ length old.edges
  pub start : new.start ≡ old.start

-- so did the edges of all atoms among the first n nodes; an atom is a node with no operator
pub record HasPutAtoms (b : Binding) (before : Option Row) (r : Row) (operators : List (Option Operator)) (n : ℕ) (old new : Held) : Type 0 where
  pub atoms : (j : ℕ) → j < n → slice_get operators j ≡ Some None → IsPut b before r j (edge_at old j) (edge_at new j)
  pub others : (j : ℕ) → (j < n → slice_get operators j ≡ Some None → ⊥) → edge_at new j ≡ edge_at old j
  pub joins : JoinsAlike old new
  pub count : length new.edges ≡ length old.edges
  pub start : new.start ≡ old.start

-- the edges once the first row's time is noted
abbrev pub begun : Held → Option Row → Row → Held
begun e None r = record e { start = Some r.time }
begun e (Some first) r = e
