-- What an operator needs to be so before a step, and what the step leaves.
use Rattle.std.specs.Prelude.{◌≡◌, ◌≢◌, ℕ, ◌+◌, ◌*◌, ◌-◌, ◌^◌, min, ◌≤◌, Bool, true, false, not, ◌&&◌, if◌then◌else◌, List}
use Rattle.std.specs.Prelude.{[], ◌∷◌, ◌++◌, length, pos, Some, None, IfSome, option_map, slice_get, slice_index_or}
use Rattle.rational.specs.Rational.{whole}
use Rattle.stl_syntax.specs.Trace.{Header, Trace, first_time}
use Rattle.stl_syntax.specs.WellFormed.{AreWellFormed, HasOneRoot}
use Rattle.stl_syntax.specs.PostOrder.{children}
use Rattle.online_nodes.specs.Network.{
  Event,
  State,
  step,
  last_row,
  state,
  shown,
  is_atom,
  node_is_atom,
  same_front,
  allowed_at,
  IsRun,
  EmittedAt,
}
use Rattle.online_nodes.specs.Needed.{IsJoinedEdge, IsReader}
use Rattle.stl_syntax.specs.declared.items.Verdict.{Verdict}
use Rattle.stl_syntax.specs.declared.node.Node.{Node}
use Rattle.stl_syntax.specs.declared.node.Node.TheVariants.{Const}
use Rattle.frac128.specs.Cuts.{place}
use Rattle.online_nodes.specs.Held.{Held, JoinsAlike, edge_at, fresh_at, held_at, number_at}
use Rattle.online_nodes.specs.Kinds.{held_in}
use Rattle.online_nodes.specs.Operators.{kind_of, KnowsBy}
use Rattle.online_nodes.specs.declared.operator.Operator.{Operator}

-- the trace of the rows so far
abbrev pub trace_of : Header → State → Trace
trace_of header s = record { header = header; rows = s.rows }

-- the operator stands for the steps of its node in the run: it shows the node's front, and what it keeps in mind of its inputs is so in
-- the trace of the rows so far; before its first answer nothing was read
pub record StandsForSteps (nodes : List Node) (header : Header) (events : List Event) (op : Operator) (e : Held) : Type 0 where
  pub node : Node
  pub at : slice_get nodes op.node ≡ Some node
  pub no_atom : is_atom node ≡ false
  pub kind : op.kind ≡ kind_of node
  pub front : shown (state nodes events) op.node ≡ option_map pos op.front
  pub unread : op.front ≡ None → (j : ℕ) (left : Bool) → IsReader node left j → (edge_at e j).seen ≡ []
  pub knows : IfSome op.front (λ f. KnowsBy op.kind nodes (trace_of header (state nodes events)) e (record { at = whole (pos f); after = true })
      (place op.reach) (place op.run))

-- the operator belongs to the edges, by a run of its formula: the first and the last row's time, the end, the numbers of its node and
-- of its inputs and what its inputs' edges hold are the run's, and it stands for the steps of its node
pub record Belongs (nodes : List Node) (header : Header) (events : List Event) (op : Operator) (e : Held) (now : ℕ) (ended : Bool) : Type 0 where
  pub formed : AreWellFormed nodes
  pub one_root : HasOneRoot nodes
  pub run : IsRun nodes header events
  pub edges : length e.edges ≡ length nodes
  pub start : e.start ≡ Some (first_time (state nodes events).rows)
  pub last : last_row (state nodes events) ≡ Some (pos now)
  pub closed : (state nodes events).closed ≡ ended
  pub number : number_at e op.node ≡ (state nodes events).fronts op.node
  pub inputs : (j : ℕ) (n : Node) (left : Bool) → slice_get nodes op.node ≡ Some n → IsReader n left j
      → (number_at e j ≡ (state nodes events).fronts j) × IsJoinedEdge nodes header events (edge_at e j).joins j (held_at e j)
  pub stands : StandsForSteps nodes header events op e

-- a step would change the node's number
abbrev pub is_ready : List Node → State → ℕ → Bool
is_ready nodes s i = not (node_is_atom nodes i) && not (same_front (allowed_at nodes s i) (s.fronts i))

-- how many verdicts the inputs of node i hold
abbrev pub held_by_inputs : List Node → ℕ → Held → ℕ
held_by_inputs nodes i e = held_in e (children (slice_index_or nodes i (Const false)))

-- room for the verdicts of a step of node i, as far as it can be counted: none where it is not ready
abbrev pub room_of_step : List Node → List Event → ℕ → Held → ℕ
room_of_step nodes events i e = if is_ready nodes (state nodes events) i then min (2 * held_by_inputs nodes i e + 2) (2 ^ 64 - 1) else 0

-- what a step of node i leaves: its edge got the verdicts of the newly answered stretch, its number is its allowed one, each of its
-- inputs' edges holds what may still be needed, and nothing else changed
pub record HasStepped (nodes : List Node) (header : Header) (events : List Event) (i : ℕ) (old new : Held) : Type 0 where
  pub verdicts : List Verdict
  pub emitted : EmittedAt nodes header i (state nodes events) (state nodes (events ++ step i ∷ [])) verdicts
  pub few : length verdicts ≤ room_of_step nodes events i old
  pub seen : (edge_at new i).seen ≡ (edge_at old i).seen
  pub got : fresh_at new i ≡ fresh_at old i ++ verdicts
  pub number : number_at new i ≡ allowed_at nodes (state nodes events) i
  pub inputs : (j : ℕ) (n : Node) (left : Bool) → slice_get nodes i ≡ Some n → IsReader n left j
      → (number_at new j ≡ number_at old j) × IsJoinedEdge nodes header (events ++ step i ∷ []) (edge_at new j).joins j (held_at new j)
  pub others : (j : ℕ) → j ≢ i → ((n : Node) (left : Bool) → slice_get nodes i ≡ Some n → IsReader n left j → ⊥)
      → edge_at new j ≡ edge_at old j
  pub joins : JoinsAlike old new
  pub edges : length new.edges ≡ length old.edges
  pub start : new.start ≡ old.start
  pub spare : old.spare ≤ new.spare + length verdicts

-- a call with these arguments is one of an operator that belongs to its edges
abbrev pub BelongsSomewhere : Operator → Held → ℕ → Bool → Type 0
BelongsSomewhere op e now ended = (nodes : List Node) × (header : Header) × (events : List Event) × Belongs nodes header events op e now ended
