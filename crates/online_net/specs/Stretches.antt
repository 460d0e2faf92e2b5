-- What the rows of a block put onto the edges of the atoms: on an edge that joins a verdict for each stretch of one truth, and on one that does
-- not the verdicts of each row by itself.
use Rattle.std.specs.Prelude.{◌≡◌, ◌≢◌, ℕ, suc, ◌-◌, ◌<◌, ◌≤◌, Bool, true, false, not, List, [], ◌∷◌, ◌++◌, length, take, drop, Option, Some, None, pos}
use Rattle.std.specs.Prelude.{slice_get}
use Rattle.rational.specs.Time.{Rational, Within, ◌≈◌, ◌<ʳ◌, ◌≤ʳ◌, whole, left_open}
use Rattle.rational.specs.Places.{Place, begins, ends, Before, Same}
use Rattle.frac128.specs.Cuts.{place}
use Rattle.frac128.specs.Spans.{interval}
use Rattle.stl_syntax.specs.Trace.{Row, Trace, row_time}
use Rattle.stl_syntax.specs.Formula.{Subformula, atom}
use Rattle.stl_syntax.specs.Truth.{Truth, holds_at}
use Rattle.stl_syntax.specs.Verdicts.{Describes}
use Rattle.stl_syntax.specs.declared.atom.Atom.{Atom}
use Rattle.stl_syntax.specs.declared.items.Verdict.{Verdict}
use Rattle.atom_lines.specs.Binding.{Binding, IsAtomNode, IsFor}
use Rattle.atom_lines.specs.Growing.{IsReachAt}
use Rattle.atom_lines.specs.Legs.{turning_place}
use Rattle.atom_lines.specs.Passages.{HasBlock, IsWay, TellsPassage, crossing_time}
use Rattle.atom_lines.specs.Rows.{row_of}
use Rattle.atom_lines.specs.declared.passage.Passage.{Passage}
use Rattle.atom_lines.specs.declared.passage.Turning.{Turning}
use Rattle.atom_lines.specs.declared.passage.Way.{Way}
use Rattle.atom_lines.specs.declared.passage.Passage.TheVariants.{Steady, Turns}
use Rattle.online_nodes.specs.Held.{Edge, Held, HasMore, Stand, edge_at, with_edge}
use Rattle.online_nodes.specs.Truths.{AllAre}
use Rattle.online_nodes.specs.Written.{Lead}
use Rattle.online_nodes.specs.declared.operator.Operator.{Operator}
use Rattle.online_net.specs.declared.stretch.Run.{Run}
use Rattle.online_net.specs.declared.stretch.Along.{Along}
use Rattle.online_net.specs.declared.stretch.Spot.{Spot}

-- just before a time in ticks, and just after it
abbrev pub before_time : ℕ → Place
before_time n = record { at = whole (pos n); after = false }

abbrev pub after_time : ℕ → Place
after_time n = record { at = whole (pos n); after = true }

-- the truth with which a passage begins
abbrev pub first_truth : Passage → Bool
first_truth (Steady holds) = holds
first_truth (Turns before at after) = before

-- edge i has these verdicts more at its back, where it joins maybe joined with each other and with what was not read; nothing else changed
pub record HasMoreAt (old new : Held) (i : ℕ) (more : List Verdict) : Type 0 where
  pub here : HasMore (edge_at old i) (edge_at new i) more
  pub others : new.edges ≡ with_edge old i (edge_at new i)
  pub start : new.start ≡ old.start

-- a run up to a place was put
pub record HasPutRun (old new : Held) (i : ℕ) (run : Run) (to : Place) : Type 0 where
  pub verdict : Verdict
  pub got : HasMoreAt old new i (verdict ∷ [])
  pub begin : Same (place run.from) (begins (interval verdict.on))
  pub end : Same (ends (interval verdict.on)) to
  pub is : verdict.holds ≡ run.holds

-- what was put, and the run behind it, tell the node's truth from the place `begin` up to the place `to`
pub record HasRun (n : Subformula) (tr : Trace) (begin : Place) (written : List Verdict) (run : Run) (to : Place) : Type 0 where
  pub last : Option Bool
  pub lead : Lead n tr begin None written (place run.from) last
  pub other : last ≢ Some run.holds
  pub all : AllAre run.holds (Truth n tr) (place run.from) to

-- from the place on an atom has this truth: where it had the other one, the run before was put
pub record HasTurned (old new : Held) (i : ℕ) (before : Run) (c : Place) (holds : Bool) (after : Run) : Type 0 where
  pub more : List Verdict
  pub got : HasMoreAt old new i more
  pub truth : after.holds ≡ holds
  pub order : (d : Place) → Before c d → Before (place after.from) d
  pub told : (n : Subformula) (tr : Trace) (begin : Place) (written : List Verdict) → HasRun n tr begin written before c
      → (d : Place) → AllAre holds (Truth n tr) c d → HasRun n tr begin (written ++ more) after d

-- the atom goes over a gap behind a row
abbrev pub HasPassed : Held → Held → ℕ → Run → ℕ → Passage → Run → Type 0
HasPassed old new i before first (Steady holds) after = HasTurned old new i before (after_time first) holds after
HasPassed old new i before first (Turns holds x side) after =
    (mid : Held) × (run : Run) × HasTurned old mid i before (after_time first) holds run
    × HasTurned mid new i run (record { at = crossing_time x; after = side }) (not holds) after

-- the atom goes over the gap of a leg: where there is a turning, it turns over there
abbrev pub HasBent : Held → Held → ℕ → Run → Option Turning → Run → Type 0
HasBent old new i before None after = (new ≡ old) × (after ≡ before)
HasBent old new i before (Some x) after = HasTurned old new i before (turning_place x) (not before.holds) after

-- and to the row at the end of the gap
pub record HasGone (old new : Held) (i : ℕ) (before : Run) (first second : ℕ) (passage : Passage) (last : Bool) (after : Run) : Type 0 where
  pub more : List Verdict
  pub got : HasMoreAt old new i more
  pub truth : after.holds ≡ last
  pub some : Before (place after.from) (after_time second)
  pub told : (a : Atom) (tr : Trace) (begin : Place) (written : List Verdict) → HasRun (atom i a) tr begin written before (after_time first)
      → TellsPassage (whole (pos first)) (whole (pos second)) (holds_at a tr) passage
      → ((t : Rational) → t ≈ whole (pos second) → holds_at a tr t ≡ last)
      → HasRun (atom i a) tr begin (written ++ more) after (after_time second)

-- the atom at node i has come along the block from row `from` to a later one, and no further than row `to`
pub record HasCome (b : Binding) (block : Trace) (from to : ℕ) (i : ℕ) (old new : Held) (along : Along) : Type 0 where
  pub more : List Verdict
  pub got : HasMoreAt old new i more
  pub later : from < along.at
  pub within : along.at ≤ to
  pub sum : IsReachAt b i block along.at along.sum
  pub some : Before (place along.run.from) (after_time (row_of block along.at).time)
  pub told : (a : Atom) (tr : Trace) → IsFor b i a tr → HasBlock tr block
      → HasRun (atom i a) tr (after_time (row_of block from).time) more along.run (after_time (row_of block along.at).time)
      × (holds_at a tr (row_time (row_of block along.at)) ≡ along.run.holds)

-- the edge of an atom has verdicts that tell it in as few spans as may be behind row `from` of the block, up to row `to`
pub record HasPutStretch (b : Binding) (block : Trace) (from to : ℕ) (i : ℕ) (old new : Held) : Type 0 where
  pub more : List Verdict
  pub got : HasMoreAt old new i more
  pub led : (a : Atom) (tr : Trace) → IsFor b i a tr → HasBlock tr block
      → (last : Option Bool) × Lead (atom i a) tr (after_time (row_of block from).time) None more (after_time (row_of block to).time) last

-- the rows of a block after row `from`, up to row `to`
abbrev pub rows_between : Trace → ℕ → ℕ → List Row
rows_between block from to = take (to - from) (drop (suc from) block.rows)

-- the verdicts of rows that follow the first one: those of each row describe the node behind the row before, up to it
abbrev pub AreOfRows : Subformula → Trace → Row → List Row → List Verdict → Type 0
AreOfRows n tr first [] verdicts = verdicts ≡ []
AreOfRows n tr first (r ∷ rows) verdicts =
    (here later : List Verdict) × Describes here n tr (left_open (row_time first) (row_time r)) × AreOfRows n tr r rows later × (verdicts ≡ here ++ later)

-- on the edge of an atom stand the verdicts of these rows behind what stood there before, as verdicts stand on such an edge
pub record IsPutRows (b : Binding) (block : Trace) (from to : ℕ) (i : ℕ) (old new : Edge) : Type 0 where
  pub seen : new.seen ≡ old.seen
  pub joins : new.joins ≡ old.joins
  pub fresh : (a : Atom) (tr : Trace) → IsFor b i a tr → HasBlock tr block
      → (verdicts : List Verdict) × AreOfRows (atom i a) tr (row_of block from) (rows_between block from to) verdicts
      × Stand old.joins (old.fresh ++ verdicts) new.fresh

-- so do they on the one edge; nothing else changed, but maybe its number
pub record HasPutRows (b : Binding) (block : Trace) (from to : ℕ) (i : ℕ) (old new : Held) : Type 0 where
  pub here : IsPutRows b block from to i (edge_at old i) (edge_at new i)
  pub others : new.edges ≡ with_edge old i (edge_at new i)
  pub start : new.start ≡ old.start

-- one verdict between two times in ticks was put, and the other one at the second of them
pub record HasPutTwo (old new : Held) (i first second : ℕ) (holds : Bool) : Type 0 where
  pub gap : Verdict
  pub row : Verdict
  pub got : HasMoreAt old new i (gap ∷ row ∷ [])
  pub begin : Same (after_time first) (begins (interval gap.on))
  pub middle : Same (ends (interval gap.on)) (before_time second)
  pub again : Same (before_time second) (begins (interval row.on))
  pub end : Same (ends (interval row.on)) (after_time second)
  pub holds_in : gap.holds ≡ holds
  pub holds_at : row.holds ≡ not holds

-- the atom at node i has this truth at each time after row `from` of the block, up to row `to`
abbrev pub StaysOver : Binding → ℕ → Trace → ℕ → ℕ → Bool → Type 0
StaysOver b i block from to holds =
    (a : Atom) (tr : Trace) → IsFor b i a tr → HasBlock tr block → (t : Rational) → row_time (row_of block from) <ʳ t → t ≤ʳ row_time (row_of block to)
    → holds_at a tr t ≡ holds

-- the atom at node i has one truth from the time of row `at` of the block to that of row `to`
abbrev pub StaysFrom : Binding → ℕ → Trace → ℕ → ℕ → Type 0
StaysFrom b i block at to =
    (a : Atom) (tr : Trace) → IsFor b i a tr → HasBlock tr block → (t u : Rational)
    → Within (row_time (row_of block at)) (row_time (row_of block to)) t → Within (row_time (row_of block at)) (row_time (row_of block to)) u
    → holds_at a tr t ≡ holds_at a tr u

-- a way leads from row `from`, where the atom at node i has this truth, to row `to` or one before it
pub record CanGoAlong (b : Binding) (block : Trace) (from to i : ℕ) (truth : Bool) (w : Way) : Type 0 where
  pub leaf : IsAtomNode b i
  pub way : IsWay b i block from w
  pub last : w.row ≤ to
  pub holds : (a : Atom) (tr : Trace) → IsFor b i a tr → HasBlock tr block → holds_at a tr (row_time (row_of block from)) ≡ truth

-- the verdicts of the rows behind row `first` up to row `from` were put, and the atom has one truth from there up to row `to`
pub record CanPutInside (b : Binding) (block : Trace) (first from to i : ℕ) (holds : Bool) (old mid : Held) : Type 0 where
  pub order : first ≤ from
  pub put : HasPutRows b block first from i old mid
  pub stays : StaysOver b i block from to holds

-- the verdicts of the rows behind row `first` up to a spot were put, and the atom has the sum and the truth that are noted there
pub record HasComeTo (b : Binding) (block : Trace) (first i : ℕ) (old new : Held) (here : Spot) : Type 0 where
  pub order : first ≤ here.at
  pub put : HasPutRows b block first here.at i old new
  pub sum : IsReachAt b i block here.at here.sum
  pub holds : (a : Atom) (tr : Trace) → IsFor b i a tr → HasBlock tr block → holds_at a tr (row_time (row_of block here.at)) ≡ here.holds

-- so do they on the edges of all atoms among the first n nodes, whose numbers are the time of row `to`; an atom is a node with no operator
pub record HaveRows (b : Binding) (block : Trace) (from to : ℕ) (operators : List (Option Operator)) (n : ℕ) (old new : Held) : Type 0 where
  pub atoms : (j : ℕ) → j < n → slice_get operators j ≡ Some None → IsPutRows b block from to j (edge_at old j) (edge_at new j)
  pub numbers : (j : ℕ) → j < n → slice_get operators j ≡ Some None → (edge_at new j).number ≡ Some (pos (row_of block to).time)
  pub others : (j : ℕ) → (j < n → slice_get operators j ≡ Some None → ⊥) → edge_at new j ≡ edge_at old j
  pub count : length new.edges ≡ length old.edges
  pub start : new.start ≡ old.start
