-- What a network of margins holds, when it stands for a past, and what its calls answer.
use Rattle.std.specs.Prelude.{◌≡◌, ◌≢◌, ℕ, ◌-◌, ◌^◌, ◌<◌, ◌≤◌, nat_lt, if◌then◌else◌, Bool, true, false}
use Rattle.std.specs.Prelude.{List, [], ◌∷◌, ◌++◌, length, map, Option, Some, None, option_map, slice_get}
use Rattle.rational.specs.Rational.{IsWithin}
use Rattle.frac128.specs.Value.{value}
use Rattle.stl_syntax.specs.Trace.{Continues, Header, Row, Trace, IsTrace, first_time, last_time}
use Rattle.stl_syntax.specs.Formula.{subformula, horizon}
use Rattle.stl_syntax.specs.SupInf.{Robustness}
use Rattle.stl_syntax.specs.declared.node.Node.{Node}
use Rattle.stl_syntax.specs.declared.scale.Scale.{Scale}
use Rattle.pl_signal.specs.declared.faults.OpFault.{OpFault}
use Rattle.pl_signal.specs.declared.faults.OpFault.TheVariants as F
use Rattle.value_laws.specs.declared.margin.Margin.{Margin}
use Rattle.atom_lines.specs.Binding.{Binding, IsBound}
use Rattle.online_nodes.specs.MarginEdges.{Part, AreEmittedParts, IsMarginEdge, IsMarginRootEdge}
use Rattle.online_nodes.specs.Network.{reach_back}
use Rattle.online_nodes.specs.Needed.{IsReader}
use Rattle.online_robust.specs.Held.{Held, held_at, number_at}
use Rattle.online_robust.specs.Told.{IsTick, IsToldLine}
use Rattle.online_robust.specs.Steps.{seen_by}
use Rattle.online_robust.specs.Pasts.{Past, trace_of, part_of, number_of, Gave, IsHeld, IsWork}
use Rattle.online_robust.specs.Moving.{Move, AreStreamed, IsNext, IsRowNext, IsEndNext, IsFaultOf, last_row_of}
use Rattle.online_robust.specs.declared.line.MarginLine.{MarginLine}
use Rattle.online_robust.specs.declared.line.MarginLine.TheVariants.{Point, Gap}
use Rattle.online_robust.specs.declared.station.Station.{Station}
use Rattle.online_robust.specs.declared.net.RobustFault.{RobustFault}
use Rattle.online_robust.specs.declared.net.RobustFault.TheVariants.{Wide, Stopped, Closed, Memory}

-- what a network keeps: the edges, the nodes, the columns of the atoms, the last row, whether the end came, and whether a call answered
-- want of memory or a denominator
pub record Parts : Type 0 where
  pub edges : Held
  pub stations : List Station
  pub bound : Binding
  pub last : Option Row
  pub closed : Bool
  pub stopped : Bool

-- what the edges and the nodes show, where each node stands for a past of its own: each edge holds what the node's reader still needs, and the
-- root's what was not given
pub record Shows (nodes : List Node) (header : Header) (at : ℕ → Past) (given : List MarginLine) (e : Held) (sts : List Station) : Type 0 where
  pub edges : length e.edges ≡ length nodes
  pub stations : length sts ≡ length nodes
  pub held : (j r : ℕ) (n : Node) (left : Bool) → slice_get nodes r ≡ Some n → IsReader n left j
      → IsHeld nodes header (at j) j (at r) r (reach_back n left) (held_at e j)
  pub root : Gave nodes header (at (length nodes - 1)) (length nodes - 1) (given ++ held_at e (length nodes - 1))
  pub numbers : (j : ℕ) → j < length nodes → number_at e j ≡ number_of nodes (at j) j
  pub works : (j : ℕ) (n : Node) (st : Station) → slice_get nodes j ≡ Some n → slice_get sts j ≡ Some st
      → (st.ahead ≡ horizon (subformula nodes j)) × IsWork nodes header (at j) j n (seen_by n e) st.work

-- all nodes go on from one past to the next
pub record Passing : Type 0 where
  pub nodes : List Node
  pub header : Header
  pub old : Past
  pub new : Past
  pub given : List MarginLine

-- the past of a node once those before place i have gone on
abbrev pub past_at : Passing → ℕ → ℕ → Past
past_at p i j = if nat_lt j i then p.new else p.old

abbrev pub move_of : Passing → ℕ → Move
move_of p i = record { nodes = p.nodes; header = p.header; old = p.old; new = p.new; place = i }

-- the network may go on
pub record CanGo (p : Passing) (e : Held) (stations : List Station) : Type 0 where
  pub nodes : AreStreamed p.nodes
  pub next : IsNext p.old p.new
  pub start : e.start ≡ Some (first_time p.new.rows)
  pub trace : IsTrace (trace_of p.header p.new)
  pub small : last_time 0 p.new.rows ≤ 4294967295
  pub shows : Shows p.nodes p.header (λ j. p.old) p.given e stations

abbrev pub CanGoByRow : Passing → Held → List Station → Binding → Option Row → Row → Type 0
CanGoByRow p e stations b before r = CanGo p e stations × IsRowNext (move_of p 0) b before r

abbrev pub CanGoByEnd : Passing → Held → List Station → ℕ → Type 0
CanGoByEnd p e stations now = CanGo p e stations × IsEndNext (move_of p 0) now

-- the nodes before place i have gone on
pub record Going (p : Passing) (i : ℕ) (e : Held) (stations : List Station) : Type 0 where
  pub start : e.start ≡ Some (first_time p.new.rows)
  pub shows : Shows p.nodes p.header (past_at p i) p.given e stations

-- the network has gone on
pub record HasGone (p : Passing) (e : Held) (stations : List Station) : Type 0 where
  pub start : e.start ≡ Some (first_time p.new.rows)
  pub shows : Shows p.nodes p.header (λ j. p.new) p.given e stations

-- why it may not have: want of memory, or functions in play at a node by what the rows have settled, in the trace of the rows so far
abbrev pub IsGoFault : Passing → RobustFault → Type 0
IsGoFault p (Wide cause) = (cause.node < length p.nodes) × IsFaultOf (move_of p cause.node) (F.Wide cause.pair)
IsGoFault p Memory = Unit {0}
IsGoFault p Stopped = ⊥
IsGoFault p Closed = ⊥

-- the first of the rows
abbrev pub first_row_of : List Row → Option Row
first_row_of [] = None
first_row_of (r ∷ rows) = Some r

-- no row came, or they are those of a trace
abbrev pub AreRowsSoFar : Header → List Row → Type 0
AreRowsSoFar header [] = Unit {0}
AreRowsSoFar header (r ∷ rows) = IsTrace (record { header = header; rows = r ∷ rows })

-- no row, and not the end
abbrev pub no_past : Past
no_past = record { rows = []; ended = false }

-- what the network keeps beside numbers and edges is the past's
pub record Keeps (nodes : List Node) (header : Header) (net : Parts) (past : Past) : Type 0 where
  pub streamed : AreStreamed nodes
  pub scale : Scale
  pub bound : IsBound net.bound (record { nodes = nodes; scale = scale }) header
  pub rows : AreRowsSoFar header past.rows
  pub small : last_time 0 past.rows ≤ 4294967295
  pub start : net.edges.start ≡ option_map (λ (r : Row). r.time) (first_row_of past.rows)
  pub last : net.last ≡ last_row_of past.rows
  pub closed : net.closed ≡ past.ended
  pub some : past.ended ≡ true → past.rows ≢ []
  pub running : net.stopped ≡ false

-- the network stands for a past, of which these lines of the root were given: each node has its number; each edge holds what the node's
-- reader still needs, and the root's what was not given; and what it keeps beside them is the past's
pub record StandsFor (nodes : List Node) (header : Header) (net : Parts) (past : Past) (given : List MarginLine) : Type 0 where
  pub keeps : Keeps nodes header net past
  pub shows : Shows nodes header (λ j. past) given net.edges net.stations

-- a network that is not stopped stands for some past
abbrev pub HasPast : Parts → Type 0
HasPast net = net.stopped ≡ false → (nodes : List Node) × (header : Header) × (past : Past) × (given : List MarginLine) × StandsFor nodes header net past given

-- why a row or the end was refused: an earlier call stopped the network, or the end came before; nothing changes then. Want of memory
-- and a denominator stop it
abbrev pub IsFault : Parts → Parts → RobustFault → Type 0
IsFault old new (Wide cause) = (old.stopped ≡ false) × (old.closed ≡ false) × (new.stopped ≡ true)
IsFault old new Memory = (old.stopped ≡ false) × (old.closed ≡ false) × (new.stopped ≡ true)
IsFault old new Stopped = (old.stopped ≡ true) × (new ≡ old)
IsFault old new Closed = (old.stopped ≡ false) × (old.closed ≡ true) × (new ≡ old)

-- a refusal for a denominator has a cause in the trace of the rows so far, by what they have settled
abbrev pub IsWideIn : List Node → Header → Past → Past → RobustFault → Type 0
IsWideIn nodes header old new (Wide cause) =
    (cause.node < length nodes)
    × IsFaultOf (record { nodes = nodes; header = header; old = old; new = new; place = cause.node }) (F.Wide cause.pair)
IsWideIn nodes header old new fault = Unit {0}

-- the network took a row
pub record IsFed (old new : Parts) (row : Row) : Type 0 where
  pub running : old.stopped ≡ false
  pub not_ended : old.closed ≡ false
  pub last : new.last ≡ Some row
  pub still_not_ended : new.closed ≡ false
  pub still_running : new.stopped ≡ false

-- the end came
pub record IsClosed (old new : Parts) : Type 0 where
  pub running : old.stopped ≡ false
  pub not_ended : old.closed ≡ false
  pub ended : new.closed ≡ true
  pub still_running : new.stopped ≡ false
  pub last : new.last ≡ old.last

-- the times of the line have 32 bits
abbrev pub IsTimely : MarginLine → Type 0
IsTimely (Point at v) = IsTick (value at)
IsTimely (Gap from to p) = IsTick (value from) × IsTick (value to)

-- so they are within 2^34
abbrev pub IsNear : MarginLine → Type 0
IsNear (Point at v) = IsWithin (2 ^ 34) (value at)
IsNear (Gap from to p) = IsWithin (2 ^ 34) (value from) × IsWithin (2 ^ 34) (value to)

-- a line of the root that is given: its times have 32 bits, and it is the margin of the formula in each trace that goes on from the rows
pub record IsGiven (nodes : List Node) (header : Header) (past : Past) (given : List MarginLine) (new : Parts) (line : MarginLine) : Type 0 where
  pub stands : StandsFor nodes header new past (given ++ line ∷ [])
  pub timely : IsTimely line
  pub told : (tr : Trace) → IsTrace tr → Continues tr header past.rows past.ended → IsToldLine (Robustness (subformula nodes (length nodes - 1)) tr) line

-- all lines were given that the root gives out
pub record AreAllGiven (nodes : List Node) (header : Header) (past : Past) (given : List MarginLine) (new : Parts) : Type 0 where
  pub stands : StandsFor nodes header new past given
  pub parts : AreEmittedParts (subformula nodes (length nodes - 1)) header past.rows past.ended (map part_of given)

-- where the network stands for a past, the next line is given, or all were
abbrev pub IsTaken : List Node → Header → Past → List MarginLine → Parts → Option MarginLine → Type 0
IsTaken nodes header past given new None = AreAllGiven nodes header past given new
IsTaken nodes header past given new (Some line) = IsGiven nodes header past given new line

-- the next line of the root that is to be given, where the network is not stopped
abbrev pub next_of : Parts → Option MarginLine
next_of net = if net.stopped then None else slice_get (held_at net.edges (length net.stations - 1)) 0

-- how many lines of the root were not given
abbrev pub left_of : Parts → ℕ
left_of net = length (held_at net.edges (length net.stations - 1))

-- the fault of a node, as the network's
abbrev pub IsFaultAt : ℕ → OpFault Margin → RobustFault → Type 0
IsFaultAt node F.Memory fault = fault ≡ Memory
IsFaultAt node (F.Wide pair) fault = fault ≡ Wide (record { node = node; pair = pair })

-- the edges once the first row's time is noted
abbrev pub begun : Held → Option Row → ℕ → Held
begun e None now = record e { start = Some now }
begun e (Some first) now = e

-- the edge of a node holds so many parts: none before the first row; then those of what it gave out that its reader still needs, and the
-- root's those that were not taken
abbrev pub IsHeldBy : List Node → Header → Past → ℕ → ℕ → ℕ → Type 0
IsHeldBy nodes header past taken node count =
    (held : List Part) × (count ≡ length held)
    × (past.rows ≡ [] → held ≡ [])
    × (node ≢ length nodes - 1 → past.rows ≢ [] → IsMarginEdge nodes header past.rows past.ended node held)
    × (node ≡ length nodes - 1 → IsMarginRootEdge nodes header past.rows past.ended taken held)
