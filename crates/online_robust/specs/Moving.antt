-- How a node of the network goes on from one past to the next.
use Rattle.std.specs.Prelude.{◌≡◌, ◌≢◌, ◌⊎◌, ℕ, suc, ◌<◌, ◌≤◌, Bool, false, ℤ, pos, int_lt, List, []}
use Rattle.std.specs.Prelude.{◌∷◌, length, take, map, Option, Some, None, MatchBool, slice_get}
use Rattle.rational.specs.Time.{whole}
use Rattle.rational.specs.Windows.{Function}
use Rattle.pl_signal.specs.declared.faults.OpFault.{OpFault}
use Rattle.value_laws.specs.declared.margin.Margin.{Margin}
use Rattle.stl_syntax.specs.Trace.{Header, Row, Trace, IsTrace, Continues, first_time, last_time}
use Rattle.stl_syntax.specs.Formula.{subformula, horizon}
use Rattle.stl_syntax.specs.SupInf.{Robustness}
use Rattle.stl_syntax.specs.Limits.{reach}
use Rattle.stl_syntax.specs.WellFormed.{AreWellFormed, HasOneRoot}
use Rattle.stl_syntax.specs.declared.node.Node.{Node}
use Rattle.stl_syntax.specs.declared.scale.Scale.{Scale}
use Rattle.atom_lines.specs.Binding.{Binding, IsBound}
use Rattle.online_nodes.specs.MarginEdges.{AreNewParts}
use Rattle.online_nodes.specs.Network.{reach_back}
use Rattle.online_nodes.specs.Needed.{IsReader}
use Rattle.online_nodes.specs.StreamedWide.{IsUnstreamed}
use Rattle.online_robust.specs.Held.{Held, edge_at, held_at, number_at, with_more, with_number}
use Rattle.online_robust.specs.Told.{AreTold, AreFit, AreJoined}
use Rattle.online_robust.specs.Steps.{Step, AreInputs, IsStreamedFault, seen_by}
use Rattle.online_robust.specs.Pasts.{Past, with_row, with_end, trace_of, part_of, number_of, shown_of, IsHeld, IsWork}
use Rattle.online_robust.specs.declared.line.MarginLine.{MarginLine}
use Rattle.online_robust.specs.declared.operator.Operator.{Operator}
use Rattle.online_robust.specs.declared.station.Station.{Station}
use Rattle.online_robust.specs.declared.station.Work.{Work}
use Rattle.online_robust.specs.declared.station.Work.TheVariants as W

-- the last of the rows
abbrev pub last_row_after : Row → List Row → Row
last_row_after r [] = r
last_row_after r (s ∷ rows) = last_row_after s rows

abbrev pub last_row_of : List Row → Option Row
last_row_of [] = None
last_row_of (r ∷ rows) = Some (last_row_after r rows)

-- a node of a formula goes on from one past to the next
pub record Move : Type 0 where
  pub nodes : List Node
  pub header : Header
  pub old : Past
  pub new : Past
  pub place : ℕ

-- what the nodes of a network keep
pub record AreStreamed (nodes : List Node) : Type 0 where
  pub some : 0 < length nodes
  pub formed : AreWellFormed nodes
  pub one_root : HasOneRoot nodes
  pub streamed : (i : ℕ) (n : Node) → slice_get nodes i ≡ Some n → ¬ IsUnstreamed n

-- the second past is the first with a row more, or with the end
abbrev pub IsNext : Past → Past → Type 0
IsNext old new = (old.ended ≡ false) × (((r : Row) × (new ≡ with_row old r)) ⊎ (new ≡ with_end old))

-- the node may go on: its inputs have gone on already, and all that it needs of them is on their edges
pub record CanMove (m : Move) (w : Work) (e : Held) : Type 0 where
  pub nodes : AreStreamed m.nodes
  pub edges : length e.edges ≡ length m.nodes
  pub node : Node
  pub at : slice_get m.nodes m.place ≡ Some node
  pub next : IsNext m.old m.new
  pub start : e.start ≡ Some (first_time m.new.rows)
  pub trace : IsTrace (trace_of m.header m.new)
  pub small : last_time 0 m.new.rows ≤ 4294967295
  pub work : IsWork m.nodes m.header m.old m.place node (seen_by node e) w
  pub number : number_at e m.place ≡ number_of m.nodes m.old m.place
  pub inputs : (j : ℕ) (left : Bool) → IsReader node left j
      → IsHeld m.nodes m.header m.new j m.old m.place (reach_back node left) (held_at e j)

-- the row comes, after the one before
pub record IsRowNext (m : Move) (b : Binding) (before : Option Row) (r : Row) : Type 0 where
  pub scale : Scale
  pub bound : IsBound b (record { nodes = m.nodes; scale = scale }) m.header
  pub last : before ≡ last_row_of m.old.rows
  pub new : m.new ≡ with_row m.old r

-- the end comes, where the last row's time is `now`
pub record IsEndNext (m : Move) (now : ℕ) : Type 0 where
  pub last : now ≡ last_time 0 m.old.rows
  pub new : m.new ≡ with_end m.old

-- the lines of what a number `new` answers beyond `old` tell the function
abbrev pub AreMore : Function → ℕ → ℕ → Option ℤ → Option ℤ → List MarginLine → Type 0
AreMore P most start old None more = more ≡ []
AreMore P most start None (Some new) more = AreInputs P most start None new more
AreMore P most start (Some old) (Some new) more =
    MatchBool (int_lt old new) (AreTold P more × AreFit most more × AreJoined (whole old) (whole new) more) (more ≡ [])

-- what it leaves: its edge got the lines that its new number answers, each of its inputs' edges holds what it still needs, and nothing
-- else changed
pub record HasMoved (m : Move) (w : Work) (old new : Held) : Type 0 where
  pub more : List MarginLine
  pub number : ℤ
  pub number_is : number_of m.nodes m.new m.place ≡ Some number
  pub got : edge_at new m.place ≡ with_number (with_more (edge_at old m.place) more) number
  pub parts : AreNewParts (subformula m.nodes m.place) (trace_of m.header m.new) (shown_of m.nodes m.old m.place)
      (shown_of m.nodes m.new m.place) (map part_of more)
  pub told : (tr : Trace) → IsTrace tr → Continues tr m.header m.new.rows m.new.ended
      → AreMore (Robustness (subformula m.nodes m.place) tr) (reach (take (suc m.place) m.nodes)) (first_time m.new.rows)
      (shown_of m.nodes m.old m.place) (shown_of m.nodes m.new m.place) more
  pub work : (n : Node) → slice_get m.nodes m.place ≡ Some n → IsWork m.nodes m.header m.new m.place n (seen_by n new) w
  pub inputs : (n : Node) (j : ℕ) (left : Bool) → slice_get m.nodes m.place ≡ Some n → IsReader n left j
      → IsHeld m.nodes m.header m.new j m.new m.place (reach_back n left) (held_at new j) × (number_at new j ≡ number_at old j)
  pub others : (j : ℕ) → j ≢ m.place → ((n : Node) (left : Bool) → slice_get m.nodes m.place ≡ Some n → IsReader n left j → ⊥)
      → edge_at new j ≡ edge_at old j
  pub edges : length new.edges ≡ length old.edges
  pub start : new.start ≡ old.start

-- an operator that may go on to a number above the one at which it stood; with the point at the start, where it gave out nothing yet
pub record CanGiveOut (m : Move) (node : ℕ) (op : Operator) (e : Held) (to : ℕ) (with_first : Bool) : Type 0 where
  pub place : m.place ≡ node
  pub can : CanMove m (W.Operator op) e
  pub number : number_of m.nodes m.new m.place ≡ Some (pos to)
  pub from_start : first_time m.new.rows ≤ to
  pub moved : number_of m.nodes m.old m.place ≢ Some (pos to)
  pub first : MatchBool with_first (shown_of m.nodes m.old m.place ≡ None) ((g : ℤ) × (shown_of m.nodes m.old m.place ≡ Some g))

-- a call with these arguments is one of a node that may go on, to a number, by a row or by the end
abbrev pub CanGoTo : Move → ℕ → Operator → Held → ℤ → Type 0
CanGoTo m node op e number = (m.place ≡ node) × CanMove m (W.Operator op) e × (number_of m.nodes m.new m.place ≡ Some number)

abbrev pub CanMoveByRow : Move → ℕ → Station → Held → Binding → Option Row → Row → Type 0
CanMoveByRow m node st e b before r =
    (m.place ≡ node) × CanMove m st.work e × (st.ahead ≡ horizon (subformula m.nodes m.place)) × IsRowNext m b before r

abbrev pub CanMoveByEnd : Move → ℕ → Station → Held → ℕ → Type 0
CanMoveByEnd m node st e now = (m.place ≡ node) × CanMove m st.work e × IsEndNext m now

-- the turn of the node's operator in a trace
abbrev pub turn_of : Move → Trace → Step
turn_of m tr = record {
  nodes = m.nodes;
  place = m.place;
  trace = tr;
  now = last_time 0 m.new.rows;
  ended = m.new.ended;
  before = shown_of m.nodes m.old m.place;
}

-- a fault of the node: want of memory, or functions in play by what the rows have settled, in the trace of the rows so far
abbrev pub IsFaultOf : Move → OpFault Margin → Type 0
IsFaultOf m e = IsStreamedFault (turn_of m (trace_of m.header m.new)) e
