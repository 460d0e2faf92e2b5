-- What the network's own calls leave: the operators and the edges of a new network, and a step of one.
use Rattle.std.specs.Prelude.{◌≡◌, ℕ, suc, ◌-◌, ◌<◌, Bool, true, false, List, [], ◌∷◌, ◌++◌, length, Option, Some, None, slice_index_or}
use Rattle.stl_syntax.specs.Trace.{Header}
use Rattle.stl_syntax.specs.declared.node.Node.{Node}
use Rattle.online_nodes.specs.Network.{Event, step, state, node_is_atom, IsReady}
use Rattle.online_nodes.specs.Held.{Edge, Held, edge_at}
use Rattle.online_nodes.specs.Belonging.{Belongs, HasStepped, StandsForSteps}
use Rattle.online_nodes.specs.declared.operator.Operator.{Operator}

-- an operator of the node at place i that stands for no step, or none at an atom
abbrev pub IsFirstOperator : List Node → ℕ → Option Operator → Type 0
IsFirstOperator nodes i None = node_is_atom nodes i ≡ true
IsFirstOperator nodes i (Some op) =
    (node_is_atom nodes i ≡ false) × (op.node ≡ i)
    × ((header : Header) (edges : Held) → ((j : ℕ) → (edge_at edges j).seen ≡ []) → StandsForSteps nodes header [] op edges)

-- one for each of the first n nodes
pub record AreFirstOperators (nodes : List Node) (operators : List (Option Operator)) (n : ℕ) : Type 0 where
  pub count : length operators ≡ n
  pub first : (i : ℕ) → i < n → IsFirstOperator nodes i (slice_index_or operators i None)

-- the edge of a node that gave out nothing
pub record IsNewEdge (x : Edge) : Type 0 where
  pub seen : x.seen ≡ []
  pub fresh : x.fresh ≡ []
  pub number : x.number ≡ None

-- the edges of n nodes that gave out nothing; that of the last one, the root, does not join
pub record AreNewEdges (n : ℕ) (e : Held) : Type 0 where
  pub count : length e.edges ≡ n
  pub new : (i : ℕ) → IsNewEdge (edge_at e i)
  pub plain : (edge_at e (n - 1)).joins ≡ false
  pub start : e.start ≡ None

-- no edge joins
abbrev pub JoinsNone : Held → Type 0
JoinsNone e = (i : ℕ) → (edge_at e i).joins ≡ false

-- of the edges of n nodes each joins but the last one, the root's
pub record JoinsAllButRoot (n : ℕ) (e : Held) : Type 0 where
  pub others : (i : ℕ) → suc i < n → (edge_at e i).joins ≡ true
  pub root : (edge_at e (n - 1)).joins ≡ false

-- one step of an operator that was ready
pub record IsStep (nodes : List Node) (header : Header) (events : List Event) (operator : Operator) (old new : Held) (now : ℕ) (ended : Bool)
    (after : Operator) : Type 0 where
  pub stepped : HasStepped nodes header events operator.node old new
  pub belongs : Belongs nodes header (events ++ step operator.node ∷ []) after new now ended
  pub node : after.node ≡ operator.node
  pub ready : IsReady nodes (state nodes events) operator.node
