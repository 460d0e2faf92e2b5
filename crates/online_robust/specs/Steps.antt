-- How an operator is driven: what it needs to be so before it goes on to a number, and what it leaves.
use Rattle.std.specs.Prelude.{◌≡◌, ℕ, ◌+◌, ◌<◌, ◌≤◌, ◌<ℤ◌, ◌≤ℤ◌, ◌+ℤ◌, ℤ, pos, int_lt, if◌then◌else◌, Bool, true}
use Rattle.std.specs.Prelude.{List, [], ◌∷◌, length, take, drop, Option, Some, None, IfSome, MatchBool, slice_get}
use Rattle.rational.specs.Time.{Rational, whole, ◌≈◌, ◌≤ʳ◌, ◌<ʳ◌}
use Rattle.rational.specs.Windows.{Function}
use Rattle.frac128.specs.Value.{value}
use Rattle.frac128.specs.declared.frac.Frac.{Frac}
use Rattle.value_laws.specs.Kinds.{margin_shape}
use Rattle.value_laws.specs.Margins.{margin_function}
use Rattle.value_laws.specs.declared.margin.Margin.{Margin}
use Rattle.pl_signal.specs.declared.knot.Knot.{Knot}
use Rattle.pl_signal.specs.Knots.{HasShape}
use Rattle.pl_signal.specs.Limits.{IsLimited}
use Rattle.pl_signal.specs.Moves.{Tells}
use Rattle.pl_signal.specs.declared.faults.WidePair.{WidePair}
use Rattle.pl_signal.specs.declared.faults.WidePair.TheVariants.{Cross, Value}
use Rattle.pl_signal.specs.declared.faults.OpFault.{OpFault}
use Rattle.pl_signal.specs.declared.faults.OpFault.TheVariants as F
use Rattle.stl_syntax.specs.Trace.{Trace, IsTrace, first_time, last_time}
use Rattle.stl_syntax.specs.Formula.{subformula}
use Rattle.stl_syntax.specs.SupInf.{Robustness, margin_setting}
use Rattle.stl_syntax.specs.WellFormed.{AreWellFormed, HasOneRoot}
use Rattle.stl_syntax.specs.Limits.{reach, own_reach}
use Rattle.stl_syntax.specs.declared.node.Node.{Node}
use Rattle.stl_syntax.specs.declared.node.Node.TheVariants.{Const, Atom as Leaf, Eventually, Always, Once, Historically}
use Rattle.online_nodes.specs.Network.{reach_back}
use Rattle.online_nodes.specs.Needed.{IsReader}
use Rattle.online_nodes.specs.StreamedWide.{IsUnstreamed, front_at, IsStreamedCrossing, IsStreamedValue}
use Rattle.online_robust.specs.Lines.{end_of}
use Rattle.online_robust.specs.Held.{Edge, Held, edge_at, held_at, held_of}
use Rattle.online_robust.specs.Told.{AreTold, AreFit, AreJoined, IsMovedBy}
use Rattle.online_robust.specs.Putting.{HasPut, lines_of}
use Rattle.online_robust.specs.Standing.{Stands}
use Rattle.online_robust.specs.declared.line.MarginLine.{MarginLine}
use Rattle.online_robust.specs.declared.line.MarginLine.TheVariants.{Point}
use Rattle.online_robust.specs.declared.operator.Operator.{Operator}

-- the node is a constant or an atom
abbrev pub IsLeaf : Node → Type 0
IsLeaf (Const b) = Unit {0}
IsLeaf (Leaf a) = Unit {0}
IsLeaf n = ⊥

-- an operator goes on: the node in its formula, a trace, the time of the last row so far, whether the input has ended, and the number
-- at which the operator stood, if it gave out anything
pub record Step : Type 0 where
  pub nodes : List Node
  pub place : ℕ
  pub trace : Trace
  pub now : ℕ
  pub ended : Bool
  pub before : Option ℤ

-- the time of the first row
abbrev pub begin_of : Step → ℕ
begin_of t = first_time t.trace.rows

-- by when a reader at its number has no need of its input, whose lines look `k` ahead of it; nothing while it needs all of it
abbrev pub back_of : ℕ → Option ℤ → ℤ → Option ℤ
back_of start None k = None
back_of start (Some g) k = if int_lt (g +ℤ k) (pos start) then None else Some (g +ℤ k)

-- the lines from the start on up to f, where nothing was dropped; and where all was dropped that ends by a time
abbrev pub AreLeft : ℕ → Option ℤ → ℤ → List MarginLine → Type 0
AreLeft start None f lines =
    (at : Frac) × (v : Margin) × (rest : List MarginLine) × (lines ≡ Point at v ∷ rest) × (value at ≈ whole (pos start))
    × AreJoined (value at) (whole f) rest
AreLeft start (Some back) f lines =
    (from : Rational) × (from ≤ʳ whole back) × AreJoined from (whole f) lines
    × IfSome (slice_get lines 0) (λ x. whole back <ʳ value (end_of x))

-- lines on the edge of an input that stands at f: they tell the function, from the start or from what was dropped on
pub record AreInputs (P : Function) (reach start : ℕ) (back : Option ℤ) (f : ℤ) (lines : List MarginLine) : Type 0 where
  pub told : AreTold P lines
  pub fit : AreFit reach lines
  pub left : AreLeft start back f lines

-- so are they, or the input has given out nothing yet
abbrev pub IsInput : Function → ℕ → ℕ → Option ℤ → ℤ → List MarginLine → Type 0
IsInput P reach start back f lines = MatchBool (int_lt f (pos start)) (lines ≡ []) (AreInputs P reach start back f lines)

-- what a window's operator has read of its input and may still need
abbrev pub seen_by : Node → Held → List MarginLine
seen_by (Eventually p a b a_in b_in) e = (edge_at e p).seen
seen_by (Always p a b a_in b_in) e = (edge_at e p).seen
seen_by (Once p a b a_in b_in) e = (edge_at e p).seen
seen_by (Historically p a b a_in b_in) e = (edge_at e p).seen
seen_by n e = []

-- the operator of a node before it gave out anything
abbrev pub IsFirstOperator : Node → Option Operator → Type 0
IsFirstOperator n None = IsLeaf n
IsFirstOperator n (Some op) = (¬ IsLeaf n) × ((nodes : List Node) (place : ℕ) (tr : Trace) → Stands n nodes place tr None op [])

-- the reach of the nodes before the place
abbrev pub reach_before : Step → ℕ
reach_before t = reach (take t.place t.nodes)

-- an operator may go on to the number `to`: it stands for its node at the number before, in the trace, and its inputs stand at theirs
pub record Belongs (t : Step) (op : Operator) (e : Held) (to : ℕ) : Type 0 where
  pub formed : AreWellFormed t.nodes
  pub one_root : HasOneRoot t.nodes
  pub node : Node
  pub at : slice_get t.nodes t.place ≡ Some node
  pub no_leaf : ¬ IsLeaf node
  pub streamed : ¬ IsUnstreamed node
  pub edges : length e.edges ≡ length t.nodes
  pub is_trace : IsTrace t.trace
  pub start : e.start ≡ Some (begin_of t)
  pub small_now : t.now ≤ 4294967295
  pub by_now : t.now ≤ last_time 0 t.trace.rows
  pub at_end : t.ended ≡ true → t.now ≡ last_time 0 t.trace.rows
  pub number : pos to ≡ front_at t.ended (pos t.now) (subformula t.nodes t.place)
  pub from_start : begin_of t ≤ to
  pub forth : IfSome t.before (λ g. (pos (begin_of t) ≤ℤ g) × (g <ℤ pos to))
  pub small : reach_before t + own_reach node ≤ 4294967295
  pub inputs : (j : ℕ) (left : Bool) → IsReader node left j
      → IsInput (Robustness (subformula t.nodes j) t.trace) (reach_before t) (begin_of t) (back_of (begin_of t) t.before (reach_back node left))
      (front_at t.ended (pos t.now) (subformula t.nodes j)) (held_at e j)
  pub stands : Stands node t.nodes t.place t.trace t.before op (seen_by node e)

-- a call with these arguments is one of an operator that may go on, at this node
abbrev pub BelongsAt : ℕ → Operator → Held → ℕ → Type 0
BelongsAt node op e to = (t : Step) × (t.place ≡ node) × Belongs t op e to

-- from where on the operator goes
abbrev pub from_of : Step → Rational
from_of t = from_front t.before
  where
    from_front : Option ℤ → Rational
    from_front None = whole (pos (begin_of t))
    from_front (Some g) = whole g

-- the signal tells the margin of the node from where it stood up to `to`, within the limits
pub record IsSwept (t : Step) (to : ℕ) (s : List (Knot Margin)) : Type 0 where
  pub tells : Tells margin_shape (Robustness (subformula t.nodes t.place) t.trace) (from_of t) (whole (pos to)) s
  pub limited : IsLimited margin_shape s
  pub moved : (node : Node) → slice_get t.nodes t.place ≡ Some node → (p : Margin) → HasShape s p → IsMovedBy (reach_before t + own_reach node) p

-- what ends by the limit is gone from the front of the edge, and the first line that is left ends later
pub record IsCutBy (limit : ℤ) (old new : Edge) : Type 0 where
  pub count : ℕ
  pub is : held_of new ≡ drop count (held_of old)
  pub ended : (k : ℕ) → k < count → IfSome (slice_get (held_of old) k) (λ x. value (end_of x) ≤ʳ whole limit)
  pub rest : IfSome (slice_get (held_of new) 0) (λ x. whole limit <ʳ value (end_of x))

-- what is not needed is gone from the front of the edge
abbrev pub IsCut : Option ℤ → Edge → Edge → Type 0
IsCut None old new = held_of new ≡ held_of old
IsCut (Some limit) old new = IsCutBy limit old new

-- of the inputs' edges what is not needed has gone, and nothing else changed
pub record HasSwept (t : Step) (old new : Held) (to : ℕ) : Type 0 where
  pub inputs : (node : Node) (j : ℕ) (left : Bool) → slice_get t.nodes t.place ≡ Some node → IsReader node left j
      → IsCut (back_of (begin_of t) (Some (pos to)) (reach_back node left)) (edge_at old j) (edge_at new j) × ((edge_at new j).number ≡ (edge_at old j).number)
  pub others : (j : ℕ) → ((node : Node) (left : Bool) → slice_get t.nodes t.place ≡ Some node → IsReader node left j → ⊥)
      → edge_at new j ≡ edge_at old j
  pub edges : length new.edges ≡ length old.edges
  pub start : new.start ≡ old.start

-- the operator stands for its node at the number `to`
abbrev pub StandsNow : Step → Operator → Held → ℕ → Type 0
StandsNow t op e to = (node : Node) → slice_get t.nodes t.place ≡ Some node → Stands node t.nodes t.place t.trace (Some (pos to)) op (seen_by node e)

-- an operator has gone on to a number and given out the lines of what it tells: its inputs' edges lost what it needs no more, and then its
-- node's edge got the lines, with the point at which they begin or without. Its turn may be in any trace that goes on from the rows
pub record GivesOut (node : ℕ) (with_first : Bool) (op : Operator) (to : ℕ) (old : Held) (op' : Operator) (new : Held) : Type 0 where
  pub swept : List (Knot Margin)
  pub between : Held
  pub told : (t : Step) → Belongs t op old to → IsSwept t to swept
  pub edges : (t : Step) → Belongs t op old to → HasSwept t old between to
  pub stands : (t : Step) → Belongs t op old to → StandsNow t op' between to
  pub put : HasPut node (lines_of with_first swept) between new

-- the pair is in play at the node by what the rows have settled
abbrev pub IsStreamedCause : Step → WidePair Margin → Type 0
IsStreamedCause t (Cross p q a b den) =
    IsStreamedCrossing t.nodes (margin_setting t.trace) t.ended (pos t.now) t.place (margin_function p) (margin_function q) (value a) (value b) den
IsStreamedCause t (Value p at den) =
    IsStreamedValue t.nodes (margin_setting t.trace) t.ended (pos t.now) t.place (margin_function p) (value at) den

-- a fault is want of memory, or such a pair
abbrev pub IsStreamedFault : Step → OpFault Margin → Type 0
IsStreamedFault t F.Memory = Unit {0}
IsStreamedFault t (F.Wide pair) = IsStreamedCause t pair
