-- The run that a stream of rows drives: rows that come together, 64 at most, and the end, are followed by a step of every node that is no
-- atom, in rising order, and by takes until nothing is left.
use Rattle.std.specs.Prelude.{◌≡◌, ◌≢◌, ◌<◌, ℕ, zero, suc, ◌-◌, Bool, true, false, if◌then◌else◌, List, [], ◌∷◌, ◌++◌, length}
use Rattle.stl_syntax.specs.Trace.{Header, Row}
use Rattle.online_nodes.specs.Network.{Event, row, step, close, take, is_atom, Emitted}
use Rattle.online_nodes.specs.Needed.{IsTaken}
use Rattle.stl_syntax.specs.declared.items.Verdict.{Verdict}
use Rattle.stl_syntax.specs.declared.node.Node.{Node}

-- a step of each of the nodes that is no atom; they stand from place i on
abbrev pub steps_of : ℕ → List Node → List Event
steps_of i [] = []
steps_of i (n ∷ nodes) = if is_atom n then steps_of (suc i) nodes else step i ∷ steps_of (suc i) nodes

-- the rows as they come
abbrev pub rows_of : List Row → List Event
rows_of [] = []
rows_of (r ∷ rows) = row r ∷ rows_of rows

-- that many takes
abbrev pub takes : ℕ → List Event
takes zero = []
takes (suc n) = take ∷ takes n

-- an event, a step of every node that is no atom, and that many takes
abbrev pub pass_of : Event → List Node → ℕ → List Event
pass_of e nodes n = e ∷ (steps_of 0 nodes ++ takes n)

-- every verdict that the root gave out was taken
pub record IsEmptied (nodes : List Node) (header : Header) (events : List Event) : Type 0 where
  pub taken : ℕ
  pub is_taken : IsTaken nodes header events taken
  pub emitted : List Verdict
  pub is_emitted : Emitted nodes header events (length nodes - 1) emitted
  pub all : taken ≡ length emitted

-- so many rows come at most before every node steps
abbrev pub most_rows : ℕ
most_rows = 64

-- the run after these rows, and after the end where the input has ended
pub data IsDriven (nodes : List Node) (header : Header) : List Row → Bool → List Event → Type 0 where
  nothing : IsDriven nodes header [] false []
  by_rows : {rows : List Row} {events : List Event} (more : List Row) (r : Row) (n : ℕ) → length more < most_rows
      → IsDriven nodes header rows false events
      → IsEmptied nodes header ((events ++ rows_of more) ++ pass_of (row r) nodes n)
      → IsDriven nodes header ((rows ++ more) ++ r ∷ []) false ((events ++ rows_of more) ++ pass_of (row r) nodes n)
  by_end : {rows : List Row} {events : List Event} (n : ℕ) → IsDriven nodes header rows false events → rows ≢ []
      → IsEmptied nodes header (events ++ pass_of close nodes n)
      → IsDriven nodes header rows true (events ++ pass_of close nodes n)
