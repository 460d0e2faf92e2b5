-- A step of an operator, part by part: the step that is due, the work that begins, what a body leaves, and what is dropped after it.
use Rattle.std.specs.Prelude.{◌≡◌, ℕ, ◌+◌, ◌*◌, ◌≤◌, Bool, true, false, List, length, ℤ, pos, ◌≤ℤ◌, Some, None, option_map, slice_get}
use Rattle.rational.specs.Rational.{whole}
use Rattle.rational.specs.Time.{Interval}
use Rattle.frac128.specs.Spans.{interval}
use Rattle.stl_syntax.specs.Trace.{Header, Trace, first_time}
use Rattle.stl_syntax.specs.Formula.{Subformula, subformula}
use Rattle.online_nodes.specs.Network.{Event, State, allowed_at, answered, state}
use Rattle.stl_syntax.specs.declared.items.Verdict.{Verdict}
use Rattle.stl_syntax.specs.declared.node.Node.{Node}
use Rattle.online_nodes.specs.Answering.{HasWorkedOn, is_empty}
use Rattle.online_nodes.specs.Belonging.{Belongs, is_ready, trace_of}
use Rattle.rational.specs.Places.{Before, Place, Same, begins, ends}
use Rattle.frac128.specs.Cuts.{place}
use Rattle.online_nodes.specs.Held.{Held, fresh_at}
use Rattle.online_nodes.specs.Kinds.{held_in, inputs_of}
use Rattle.online_nodes.specs.Operators.{KnowsBy}
use Rattle.online_nodes.specs.Sinces.{IsSpent}
use Rattle.online_nodes.specs.Sweeps.{CountsBeyond}
use Rattle.online_nodes.specs.Written.{HasTold, IsSound, waiting}
use Rattle.online_nodes.specs.declared.kind.Kind.{Kind}
use Rattle.online_nodes.specs.declared.kind.Kind.TheVariants.{Over, Since}
use Rattle.online_nodes.specs.declared.operator.Operator.{Operator}
use Rattle.online_nodes.specs.declared.answering.Outcome.{Outcome}

-- the run in which a step is due, the last row's time, whether the input has ended, and the number that the node comes to
pub record Situation : Type 0 where
  pub nodes : List Node
  pub header : Header
  pub events : List Event
  pub now : ℕ
  pub ended : Bool
  pub front : ℤ

abbrev pub state_in : Situation → State
state_in x = state x.nodes x.events

abbrev pub trace_in : Situation → Trace
trace_in x = trace_of x.header (state x.nodes x.events)

abbrev pub first_in : Situation → ℕ
first_in x = first_time (state x.nodes x.events).rows

-- the operator belongs to the edges, it is ready, and its number comes to one that is not below the start
pub record IsDue (x : Situation) (op : Operator) (e : Held) : Type 0 where
  pub belongs : Belongs x.nodes x.header x.events op e x.now x.ended
  pub allowed : allowed_at x.nodes (state x.nodes x.events) op.node ≡ Some x.front
  pub ready : is_ready x.nodes (state x.nodes x.events) op.node ≡ true
  pub low : pos (first_time (state x.nodes x.events).rows) ≤ℤ x.front
  pub small : x.now ≤ 4294967295

-- the stretch that the step answers, and where it ends
abbrev pub stretch_of : Situation → Operator → Interval
stretch_of x op = answered (first_in x) (option_map pos op.front) x.front

abbrev pub end_of : Situation → Place
end_of x = record { at = whole x.front; after = true }

-- the formula of the node
abbrev pub formula_of : Situation → Operator → Subformula
formula_of x op = subformula x.nodes op.node

-- the work begins: nothing is written of the stretch yet. What is kept is the operator's, or at the first answer the stretch's begin
pub record IsBegun (x : Situation) (op : Operator) (work : Outcome) : Type 0 where
  pub edge : work.out.edge ≡ op.node
  pub holds : work.out.holds ≡ None
  pub at : work.out.at ≡ work.out.from
  pub begin : Same (begins (stretch_of x op)) (place work.out.from)
  pub end : Same (place work.out.to) (end_of x)
  pub first : op.front ≡ None → (work.marks.reach ≡ work.out.from) × (work.marks.run ≡ work.out.from)
  pub later : (f : ℕ) → op.front ≡ Some f → (work.marks.reach ≡ op.reach) × (work.marks.run ≡ op.run)

-- what a window with a time in it has not read counts only after the stretch that ends there; of the inputs of since the left one's next
-- verdict ends after it, and so does the right one's, moved by the window, or the run begins no earlier than there
abbrev pub LeavesLater : Kind → Held → Place → Place → Type 0
LeavesLater (Over w) e to run = is_empty w ≡ false → CountsBeyond e w to
LeavesLater (Since s) e to run =
    ((v : Verdict) → slice_get (fresh_at e s.window.of) 0 ≡ Some v → Before to (ends (interval v.on))) × IsSpent s (fresh_at e s.right) to run
LeavesLater k e to run = Unit {0}

-- a body has worked: what it told leads to the end of the stretch, and what it keeps in mind of the inputs is so
pub record HasWorkedOut (x : Situation) (op : Operator) (old new : Held) (work : Outcome) : Type 0 where
  pub more : List Verdict
  pub owed : length more + waiting work.out.holds ≤ 2 * held_in old (inputs_of op.kind) + 2
  pub worked : HasWorkedOn op.kind old new op.node more
  pub edge : work.out.edge ≡ op.node
  pub sound : IsSound work.out
  pub end : Same (place work.out.at) (end_of x)
  pub told : HasTold (formula_of x op) (trace_in x) (begins (stretch_of x op)) more work.out
  pub knows : KnowsBy op.kind x.nodes (trace_in x) new (end_of x) (place work.marks.reach) (place work.marks.run)
  pub unread : LeavesLater op.kind new (end_of x) (place work.marks.run)

-- the step is to this front, over rows from this start on; and a step to it is due in some run
abbrev pub IsFor : Situation → ℕ → ℕ → Type 0
IsFor x start front = (first_in x ≡ start) × (x.front ≡ pos front)

abbrev pub IsDueSomewhere : Operator → Held → ℕ → ℕ → Type 0
IsDueSomewhere op e start front = (x : Situation) × IsFor x start front × IsDue x op e
