-- The operator of a node by its view, before it gave out anything.
use Rattle.std.specs.Prelude.{ℕ, ℤ, pos, neg_ℤ, Bool, true, false, Option, Some, None}
use Rattle.pl_signal.specs.declared.joining.Side.{Side}
use Rattle.pl_signal.specs.declared.joining.Side.TheVariants.{Least, Greatest}
use Rattle.stl_syntax.specs.declared.operator.Asks.{Asks}
use Rattle.stl_syntax.specs.declared.operator.Asks.TheVariants.{Any, Each}
use Rattle.stl_syntax.specs.declared.operator.Join.{Join}
use Rattle.stl_syntax.specs.declared.operator.Join.TheVariants as J
use Rattle.stl_syntax.specs.declared.operator.Offsets.{Offsets}
use Rattle.stl_syntax.specs.declared.operator.View.{View}
use Rattle.stl_syntax.specs.declared.operator.View.TheVariants as V
use Rattle.online_robust.specs.Slides.{slide_of}
use Rattle.online_robust.specs.declared.operator.Operator.{Operator}
use Rattle.online_robust.specs.declared.operator.Operator.TheVariants as Op
use Rattle.online_robust.specs.declared.pointwise.Two.{Two}
use Rattle.online_robust.specs.declared.slide.Window.{Window}

-- the margin of a connective is the least of its inputs, or the greatest
abbrev pub side_by : Join → Side
side_by J.And = Least
side_by J.Or = Greatest
side_by J.Implies = Greatest

-- where it is that of an implication, the one on the left with its sign turned
abbrev pub turns_left : Join → Bool
turns_left J.And = false
turns_left J.Or = false
turns_left J.Implies = true

abbrev pub two_by : Join → ℕ → ℕ → Two
two_by join p q = record { left = p; right = q; side = side_by join; turned = turns_left join; last = None }

-- the margin over a window is the greatest in it, or the least
abbrev pub best_by : Asks → Side
best_by Any = Greatest
best_by Each = Least

-- a window without a low end has one that lies before any time
abbrev pub low_by : Option ℤ → ℤ
low_by None = neg_ℤ (pos 4294967296)
low_by (Some k) = k

abbrev pub low_in_by : Option ℤ → Bool → Bool
low_in_by None b = true
low_in_by (Some k) b = b

abbrev pub window_by : Asks → Offsets → ℕ → Window
window_by asks w p = record {
  of = p;
  side = best_by asks;
  low = low_by w.low;
  high = w.high;
  low_in = low_in_by w.low w.low_in;
  high_in = w.high_in;
}

-- a constant and an atom have no operator, and neither have until and since
abbrev pub operator_by : View → Option Operator
operator_by (V.Const b) = None
operator_by V.Atom = None
operator_by (V.Not p) = Some (Op.Not (record { of = p; last = None }))
operator_by (V.Two join p q) = Some (Op.Two (two_by join p q))
operator_by (V.Over asks w p) = Some (Op.Slide (slide_of (window_by asks w p)))
operator_by (V.Reach way w p q) = None
