-- When an operator stands for its node.
use Rattle.std.specs.Prelude.{◌≡◌, ◌⊎◌, ℕ, ℤ, pos, neg_ℤ, [], IsSomeAnd}
use Rattle.std.specs.Prelude.{MatchOption, Bool, true, false, List, Option, Some, None, take}
use Rattle.rational.specs.Time.{whole}
use Rattle.rational.specs.Windows.{Function}
use Rattle.pl_signal.specs.Joining.{ChosenOf}
use Rattle.pl_signal.specs.declared.joining.Side.{Side}
use Rattle.pl_signal.specs.declared.joining.Side.TheVariants.{Least, Greatest}
use Rattle.stl_syntax.specs.Trace.{Trace}
use Rattle.stl_syntax.specs.Formula.{subformula}
use Rattle.stl_syntax.specs.Limits.{reach}
use Rattle.stl_syntax.specs.SupInf.{Robustness}
use Rattle.stl_syntax.specs.declared.node.Node.{Node}
use Rattle.stl_syntax.specs.declared.node.Node.TheVariants.{Not, And, Or, Implies, Eventually, Always, Once, Historically}
use Rattle.online_robust.specs.ReadLines.{HasReached, turned_by}
use Rattle.online_robust.specs.Slides.{HasSlid}
use Rattle.online_robust.specs.declared.line.MarginLine.{MarginLine}
use Rattle.online_robust.specs.declared.line.Reached.{Reached}
use Rattle.online_robust.specs.declared.operator.Operator.{Operator}
use Rattle.online_robust.specs.declared.operator.Operator.TheVariants as Op
use Rattle.online_robust.specs.declared.pointwise.Two.{Two}
use Rattle.online_robust.specs.declared.slide.Window.{Window}

-- a node gave out nothing yet, and nothing is kept; or it stands at a number, and its value there is kept
abbrev pub HasStood : Function → ℕ → Option ℤ → Option Reached → Type 0
HasStood F reach None last = last ≡ None
HasStood F reach (Some g) last = (r : Reached) × (last ≡ Some r) × HasReached F reach (whole g) (Some r)

-- the connective is that of the node
abbrev pub IsTwoOf : Node → Two → Type 0
IsTwoOf (And p q) op = (op.left ≡ p) × (op.right ≡ q) × (op.side ≡ Least) × (op.turned ≡ false)
IsTwoOf (Or p q) op = (op.left ≡ p) × (op.right ≡ q) × (op.side ≡ Greatest) × (op.turned ≡ false)
IsTwoOf (Implies p q) op = (op.left ≡ p) × (op.right ≡ q) × (op.side ≡ Greatest) × (op.turned ≡ true)
IsTwoOf n op = ⊥

-- the window of `eventually` and `always`, and that of `once` and `historically` with a far bound
abbrev pub ahead_window : ℕ → Side → ℕ → ℕ → Bool → Bool → Window
ahead_window p side a b a_in b_in = record { of = p; side = side; low = pos a; high = pos b; low_in = a_in; high_in = b_in }

abbrev pub behind_window : ℕ → Side → ℕ → ℕ → Bool → Bool → Window
behind_window p side a b a_in b_in = record { of = p; side = side; low = neg_ℤ (pos b); high = neg_ℤ (pos a); low_in = b_in; high_in = a_in }

-- the window is that of the node
abbrev pub IsWindowOf : Node → Window → Type 0
IsWindowOf (Eventually p a b a_in b_in) w = w ≡ ahead_window p Greatest a b a_in b_in
IsWindowOf (Always p a b a_in b_in) w = w ≡ ahead_window p Least a b a_in b_in
IsWindowOf (Once p a (Some b) a_in b_in) w = w ≡ behind_window p Greatest a b a_in b_in
IsWindowOf (Historically p a (Some b) a_in b_in) w = w ≡ behind_window p Least a b a_in b_in
IsWindowOf n w = ⊥

-- the window of `once` and `historically` without a far bound: its low end lies before any time
abbrev pub past_window : ℕ → Side → ℕ → Bool → Window
past_window p side a a_in = record { of = p; side = side; low = neg_ℤ (pos 4294967296); high = neg_ℤ (pos a); low_in = true; high_in = a_in }

-- that window is the node's
abbrev pub IsPastOf : Node → Window → Type 0
IsPastOf (Once p a None a_in b_in) w = w ≡ past_window p Greatest a a_in
IsPastOf (Historically p a None a_in b_in) w = w ≡ past_window p Least a a_in
IsPastOf n w = ⊥

-- the node's window, with a low end or without
abbrev pub IsSlideOf : Node → Window → Type 0
IsSlideOf n w = IsWindowOf n w ⊎ IsPastOf n w

-- the margin that a connective makes of its inputs
abbrev pub two_of : List Node → Trace → Two → Function
two_of nodes tr op = ChosenOf op.side (turned_by op.turned (Robustness (subformula nodes op.left) tr)) (Robustness (subformula nodes op.right) tr)

-- the operator is that of the node n at a place, and stands at a number, with what it has read of its input
abbrev pub Stands : Node → List Node → ℕ → Trace → Option ℤ → Operator → List MarginLine → Type 0
Stands n nodes place tr before (Op.Not op) seen =
    (n ≡ Not op.of) × HasStood (turned_by true (Robustness (subformula nodes op.of) tr)) (reach (take place nodes)) before op.last
Stands n nodes place tr before (Op.Slide z) seen =
    IsSlideOf n z.window
    × MatchOption z.stream ((before ≡ None) × (z.kept ≡ None) × (seen ≡ []))
    (λ w. IsSomeAnd before (λ g. HasSlid (subformula nodes z.window.of) tr (reach (take place nodes)) g z w seen))
Stands n nodes place tr before (Op.Two op) seen = IsTwoOf n op × HasStood (two_of nodes tr op) (reach (take place nodes)) before op.last
