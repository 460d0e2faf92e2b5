-- A node that is made of one input or two: what it needs to be so before it goes on, and what it tells.
use Rattle.std.specs.Prelude.{◌≡◌, ◌≢◌, ℕ, ◌+◌, ◌<◌, Bool, true, if◌then◌else◌, length, List, Some, slice_get}
use Rattle.rational.specs.Time.{Rational, less, ◌≈◌, ◌≤ʳ◌, ◌<ʳ◌}
use Rattle.rational.specs.InPlay.{of_two, IsInPlay, IsWideCrossing}
use Rattle.rational.specs.Windows.{Function}
use Rattle.frac128.specs.Value.{value}
use Rattle.value_laws.specs.Kinds.{margin_shape}
use Rattle.value_laws.specs.Margins.{margin_function}
use Rattle.value_laws.specs.declared.margin.Margin.{Margin}
use Rattle.pl_signal.specs.Joining.{ChosenOf}
use Rattle.pl_signal.specs.Knots.{IsSignal}
use Rattle.pl_signal.specs.declared.knot.Knot.{Knot}
use Rattle.pl_signal.specs.declared.faults.WidePair.TheVariants.{Cross, Value}
use Rattle.pl_signal.specs.declared.faults.OpFault.{OpFault}
use Rattle.pl_signal.specs.declared.faults.OpFault.TheVariants as F
use Rattle.stl_syntax.specs.Trace.{Trace, start, stop}
use Rattle.stl_syntax.specs.Formula.{Subformula}
use Rattle.stl_syntax.specs.SupInf.{Robustness}
use Rattle.online_robust.specs.Held.{Held, held_at}
use Rattle.online_robust.specs.Lines.{end_of}
use Rattle.online_robust.specs.ReadLines.{HasReached, IsAhead, IsBuilt, IsReady, IsStretch, turned_by}
use Rattle.online_robust.specs.Told.{IsTick}
use Rattle.online_robust.specs.declared.line.MarginLine.{MarginLine}
use Rattle.online_robust.specs.declared.pointwise.Not.{Not}
use Rattle.online_robust.specs.declared.pointwise.Two.{Two}

-- an input that is read: its formula in a trace, by how much its bases were moved, up to where it is told, and from where on it is read
pub record Source : Type 0 where
  pub formula : Subformula
  pub trace : Trace
  pub reach : ℕ
  pub at : Rational
  pub to : Rational

-- its first gap is read, up to a time in it or at its end
pub record IsReadTo (x : Source) (gap : MarginLine) (t : Rational) (lines : List MarginLine) : Type 0 where
  pub ahead : IsAhead (Robustness x.formula x.trace) x.reach x.at x.to lines
  pub first : slice_get lines 0 ≡ Some gap
  pub after : x.at <ʳ t
  pub before : t ≤ʳ value (end_of gap)

-- the inputs of a node in a trace, by how much their bases were moved, up to where each is told, and from where to where the node goes on
pub record Couple : Type 0 where
  pub left : Subformula
  pub right : Subformula
  pub trace : Trace
  pub reach : ℕ
  pub left_to : Rational
  pub right_to : Rational
  pub from : Rational
  pub to : Rational

-- the left input as it counts
abbrev pub left_of : Couple → Bool → Function
left_of x turned = turned_by turned (Robustness x.left x.trace)

-- the right input
abbrev pub right_of : Couple → Function
right_of x = Robustness x.right x.trace

-- what the connective is of them
abbrev pub both_of : Couple → Two → Function
both_of x op = ChosenOf op.side (left_of x op.turned) (right_of x)

-- the stretch lies in the trace, and the inputs are told as far
pub record IsSpan (x : Couple) : Type 0 where
  pub order : x.from ≤ʳ x.to
  pub first : start x.trace ≤ʳ x.from
  pub last : x.to ≤ʳ stop x.trace
  pub begin : IsTick (start x.trace)
  pub end : IsTick x.to
  pub left : x.to ≤ʳ x.left_to
  pub right : x.to ≤ʳ x.right_to

-- the connective may go on
pub record CanJoin (x : Couple) (op : Two) (e : Held) : Type 0 where
  pub span : IsSpan x
  pub left_in : op.left < length e.edges
  pub right_in : op.right < length e.edges
  pub apart : op.left ≢ op.right
  pub last : HasReached (both_of x op) x.reach x.from op.last
  pub left : IsReady (Robustness x.left x.trace) x.reach x.from x.left_to (held_at e op.left) op.last
  pub right : IsReady (Robustness x.right x.trace) x.reach x.from x.right_to (held_at e op.right) op.last

-- it was joined up to the time
pub record IsJoinedTo (x : Couple) (op : Two) (e : Held) (at : Rational) : Type 0 where
  pub span : IsSpan x
  pub left_in : op.left < length e.edges
  pub right_in : op.right < length e.edges
  pub apart : op.left ≢ op.right
  pub from : x.from ≤ʳ at
  pub to : at ≤ʳ x.to
  pub left : IsAhead (Robustness x.left x.trace) x.reach at x.left_to (held_at e op.left)
  pub right : IsAhead (Robustness x.right x.trace) x.reach at x.right_to (held_at e op.right)

-- a crossing of two parts of the inputs before the end of the stretch
abbrev pub IsCoupleFault : Couple → Two → OpFault Margin → Type 0
IsCoupleFault x op F.Memory = Unit {0}
IsCoupleFault x op (F.Wide (Cross p q a b den)) =
    IsWideCrossing (λ tau line. IsInPlay (of_two (left_of x op.turned) (right_of x)) (start x.trace) (stop x.trace) tau line × (tau <ʳ x.to))
    (start x.trace) (stop x.trace) (margin_function p) (margin_function q) (value a) (value b) den
IsCoupleFault x op (F.Wide (Value p at den)) = ⊥

-- a negation may go on; its input is the left one
pub record CanNegate (x : Couple) (op : Not) (e : Held) : Type 0 where
  pub span : IsSpan x
  pub of_in : op.of < length e.edges
  pub all : x.left_to ≈ x.to
  pub last : HasReached (left_of x true) x.reach x.from op.last
  pub of : IsReady (Robustness x.left x.trace) x.reach x.from x.left_to (held_at e op.of) op.last

-- it was negated up to the time
pub record IsNegatedTo (x : Couple) (op : Not) (e : Held) (at : Rational) : Type 0 where
  pub span : IsSpan x
  pub of_in : op.of < length e.edges
  pub all : x.left_to ≈ x.to
  pub from : x.from ≤ʳ at
  pub to : at ≤ʳ x.to
  pub of : IsAhead (Robustness x.left x.trace) x.reach at x.left_to (held_at e op.of)

-- how many turns are left at most: one for each line on the edges, and one for the end of the stretch
abbrev pub turns_left : Two → Held → Rational → Rational → ℕ
turns_left op e at to = length (held_at e op.left) + length (held_at e op.right) + (if less at to then 1 else 0)

-- the same of one edge
abbrev pub turns_left_of : Not → Held → ℕ
turns_left_of op e = length (held_at e op.of)

-- as a negation goes on to a time so does the signal that is made
abbrev pub GoesOnNegated : Not → Held → Rational → Rational → List (Knot Margin) → List (Knot Margin) → Type 0
GoesOnNegated op e at t ks ks' = IsSignal margin_shape ks' × ((x : Couple) → IsNegatedTo x op e at → at <ʳ x.to
    → IsBuilt (left_of x true) x.reach x.from at ks → IsBuilt (left_of x true) x.reach x.from t ks')

-- as a connective goes on to a time, on its way to another, so does the signal that is made
abbrev pub GoesOnJoined : Two → Held → Rational → Rational → Rational → List (Knot Margin) → List (Knot Margin) → Type 0
GoesOnJoined op e at t to ks ks' = IsSignal margin_shape ks' × ((x : Couple) → IsJoinedTo x op e at → to ≈ x.to
    → IsBuilt (both_of x op) x.reach x.from at ks → IsBuilt (both_of x op) x.reach x.from t ks')

-- the signal tells what the negation is up to the time, and its input's edge is read as far
abbrev pub TellsNegated : Not → Held → Rational → List (Knot Margin) → Held → Type 0
TellsNegated op e to ks between = (x : Couple) → CanNegate x op e → to ≈ x.to
    → IsStretch (left_of x true) x.reach x.from x.to ks × IsNegatedTo x op between to

-- so of a connective
abbrev pub TellsJoined : Two → Held → Rational → List (Knot Margin) → Held → Type 0
TellsJoined op e to ks between = (x : Couple) → CanJoin x op e → to ≈ x.to → IsStretch (both_of x op) x.reach x.from x.to ks × IsJoinedTo x op between to
