-- What a network holds, when it stands for a run of events, and what its calls answer.
use Rattle.std.specs.Prelude.{◌≡◌, ℕ, ◌-◌, Bool, true, false, List, [], ◌∷◌, length, Option, Some, None, option_map, slice_get}
use Rattle.stl_syntax.specs.Trace.{Header, Row}
use Rattle.stl_syntax.specs.WellFormed.{AreWellFormed, HasOneRoot}
use Rattle.stl_syntax.specs.declared.items.Verdict.{Verdict}
use Rattle.stl_syntax.specs.declared.node.Node.{Node}
use Rattle.stl_syntax.specs.declared.scale.Scale.{Scale}
use Rattle.atom_lines.specs.Binding.{Binding, IsBound}
use Rattle.online_nodes.specs.Network.{Event, is_atom, state, Emitted}
use Rattle.online_nodes.specs.Needed.{Shown, StandsFor, IsTaken}
use Rattle.online_nodes.specs.Held.{Held, edge_at, held_at, number_at}
use Rattle.online_nodes.specs.Belonging.{StandsForSteps}
use Rattle.online_nodes.specs.declared.operator.Operator.{Operator}
use Rattle.online_net.specs.declared.net.NetFault.{NetFault}
use Rattle.online_net.specs.declared.net.NetFault.TheVariants.{Memory, Stopped, Closed}

-- what a network keeps: the edges, an operator for each node that is no atom, the columns of the atoms, the last row, whether the end
-- came, and whether a call answered want of memory
pub record Parts : Type 0 where
  pub edges : Held
  pub operators : List (Option Operator)
  pub bound : Binding
  pub last : Option Row
  pub closed : Bool
  pub stopped : Bool

-- what it shows: the number of each node, whether its edge joins, and what stands there
abbrev pub shown_of : Parts → Shown
shown_of net = record { fronts = number_at net.edges; joins = λ i. (edge_at net.edges i).joins; edges = held_at net.edges }

-- the first of the rows, and the last
abbrev pub first_row : List Row → Option Row
first_row [] = None
first_row (r ∷ rows) = Some r

abbrev pub last_row_after : Row → List Row → Row
last_row_after r [] = r
last_row_after r (s ∷ rows) = last_row_after s rows

abbrev pub last_row_of : List Row → Option Row
last_row_of [] = None
last_row_of (r ∷ rows) = Some (last_row_after r rows)

-- what is kept for node i: nothing at an atom, and else an operator that stands for the node's steps
pub record HasOperator (nodes : List Node) (header : Header) (events : List Event) (edges : Held) (i : ℕ) (kept : Option (Option Operator)) : Type 0 where
  pub operator : Operator
  pub is : kept ≡ Some (Some operator)
  pub node : operator.node ≡ i
  pub stands : StandsForSteps nodes header events operator edges

-- what the network keeps beside numbers and edges is the run's
pub record Keeps (nodes : List Node) (header : Header) (net : Parts) (events : List Event) : Type 0 where
  pub formed : AreWellFormed nodes
  pub one_root : HasOneRoot nodes
  pub scale : Scale
  pub bound : IsBound net.bound (record { nodes = nodes; scale = scale }) header
  pub edges : length net.edges.edges ≡ length nodes
  -- the root's edge does not join
  pub plain : (edge_at net.edges (length nodes - 1)).joins ≡ false
  pub operators : length net.operators ≡ length nodes
  pub start : net.edges.start ≡ option_map (λ (r : Row). r.time) (first_row (state nodes events).rows)
  pub last : net.last ≡ last_row_of (state nodes events).rows
  pub closed : net.closed ≡ (state nodes events).closed
  pub running : net.stopped ≡ false
  pub at_atom : (i : ℕ) (n : Node) → slice_get nodes i ≡ Some n → is_atom n ≡ true → slice_get net.operators i ≡ Some None
  pub at_other : (i : ℕ) (n : Node) → slice_get nodes i ≡ Some n → is_atom n ≡ false
      → HasOperator nodes header events net.edges i (slice_get net.operators i)

-- the network stands for a run of events: it has the numbers of the run; each edge holds what the node's reader may still need, some
-- neighbours of one truth joined where it joins, and the root's what was not taken; and what it keeps beside them is the run's
abbrev pub Stands : List Node → Header → Parts → List Event → Type 0
Stands nodes header net events = StandsFor (Keeps nodes header net) nodes header (shown_of net) events

-- a list has the nodes without an operator, and no others
pub record AreAtoms (atoms : List ℕ) (operators : List (Option Operator)) : Type 0 where
  pub each : (i j : ℕ) → slice_get atoms i ≡ Some j → slice_get operators j ≡ Some None
  pub all : (j : ℕ) → slice_get operators j ≡ Some None → (i : ℕ) × (slice_get atoms i ≡ Some j)

-- a network that is not stopped stands for some run
abbrev pub HasPast : Parts → Type 0
HasPast net = net.stopped ≡ false → (nodes : List Node) × (header : Header) × (events : List Event) × Stands nodes header net events

-- why a row, a step or the end was refused: an earlier call answered want of memory, or the end came before; nothing changes then. Want
-- of memory stops the network
abbrev pub IsFault : Parts → Parts → NetFault → Type 0
IsFault old new Memory = (old.stopped ≡ false) × (new.stopped ≡ true)
IsFault old new Stopped = (old.stopped ≡ true) × (new ≡ old)
IsFault old new Closed = (old.stopped ≡ false) × (old.closed ≡ true) × (new ≡ old)

-- why a row was refused: want of memory comes where the row may come
abbrev pub IsFeedFault : Parts → Parts → NetFault → Type 0
IsFeedFault old new Memory = IsFault old new Memory × (old.closed ≡ false)
IsFeedFault old new fault = IsFault old new fault

-- why a step was refused: not for the end
abbrev pub IsStepFault : Parts → Parts → NetFault → Type 0
IsStepFault old new Closed = ⊥
IsStepFault old new fault = IsFault old new fault

-- why the end was refused: it takes no memory
abbrev pub IsCloseFault : Parts → Parts → NetFault → Type 0
IsCloseFault old new Memory = ⊥
IsCloseFault old new fault = IsFault old new fault

-- the network took a row
pub record IsFed (old new : Parts) (row : Row) : Type 0 where
  pub running : old.stopped ≡ false
  pub not_ended : old.closed ≡ false
  pub last : new.last ≡ Some row
  pub still_not_ended : new.closed ≡ false
  pub still_running : new.stopped ≡ false

-- a node moved, or was not ready, and then nothing changed
pub record IsStepped (old new : Parts) (moved : Bool) : Type 0 where
  pub running : old.stopped ≡ false
  pub still_running : new.stopped ≡ false
  pub last : new.last ≡ old.last
  pub closed : new.closed ≡ old.closed
  pub unmoved : moved ≡ false → new ≡ old

-- the end came
pub record IsClosed (old new : Parts) : Type 0 where
  pub running : old.stopped ≡ false
  pub not_ended : old.closed ≡ false
  pub is : new ≡ record old { closed = true }

-- the verdict is the first of those that the root gave out in the run and that were not taken; None where all were taken
pub record IsNext (nodes : List Node) (header : Header) (events : List Event) (verdict : Option Verdict) : Type 0 where
  pub taken : ℕ
  pub is_taken : IsTaken nodes header events taken
  pub emitted : List Verdict
  pub is_emitted : Emitted nodes header events (length nodes - 1) emitted
  pub is : verdict ≡ slice_get emitted taken
