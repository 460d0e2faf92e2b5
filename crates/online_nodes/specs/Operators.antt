-- What an operator does, by its node, and what it keeps in mind of its inputs between steps.
use Rattle.std.specs.Prelude.{
  ◌≡◌,
  ℕ,
  Bool,
  true,
  false,
  List,
  [],
  ◌∷◌,
  ℤ,
  pos,
  neg_ℤ,
  Option,
  Some,
  None,
  slice_get,
}
use Rattle.rational.specs.Rational.{Rational, whole}
use Rattle.frac128.specs.Spans.{interval}
use Rattle.stl_syntax.specs.Trace.{Trace, start}
use Rattle.stl_syntax.specs.Formula.{Subformula, subformula}
use Rattle.stl_syntax.specs.Truth.{Truth}
use Rattle.online_nodes.specs.Network.{least}
use Rattle.stl_syntax.specs.declared.items.Verdict.{Verdict}
use Rattle.stl_syntax.specs.declared.node.Node.{Node}
use Rattle.stl_syntax.specs.declared.node.Node.TheVariants.{
  Const,
  Atom as Leaf,
  Not,
  And,
  Or,
  Implies,
  Until,
  Eventually,
  Always,
  Since,
  Once,
  Historically,
}
use Rattle.rational.specs.Places.{Place, begins, ends, After, Upto, AtMost, Before}
use Rattle.online_nodes.specs.Held.{Held, fresh_at, number_at}
use Rattle.online_nodes.specs.Truths.{Knows, KnowsUntil, KnowsSince}
use Rattle.online_nodes.specs.Sweeps.{Counted, for_ever, low_place, high_place}
use Rattle.stl_syntax.specs.declared.operator.Join.TheVariants.{And as Conjunction, Or as Disjunction, Implies as Implication}
use Rattle.stl_syntax.specs.declared.operator.Asks.{Asks}
use Rattle.stl_syntax.specs.declared.operator.Asks.TheVariants.{Any, Each}
use Rattle.stl_syntax.specs.declared.operator.Offsets.{Offsets}
use Rattle.stl_syntax.specs.declared.operator.View.{View}
use Rattle.stl_syntax.specs.declared.operator.View.TheVariants as V
use Rattle.stl_syntax.specs.declared.operator.Way.{Way}
use Rattle.stl_syntax.specs.declared.operator.Way.TheVariants as W
use Rattle.online_nodes.specs.declared.kind.Kind.{Kind}
use Rattle.online_nodes.specs.declared.kind.Kind.TheVariants.{
  Const as Constant,
  Not as Negation,
  Join as Connective,
  Over,
  Until as UntilOf,
  Since as SinceOf,
}
use Rattle.online_nodes.specs.declared.since.Since.{Since as SinceWindow}
use Rattle.online_nodes.specs.declared.until.Until.{Until as UntilWindow}
use Rattle.online_nodes.specs.declared.window.Window.{Window}

-- the window of a node that looks ahead: a time that is found counts for the node from b earlier to a earlier
abbrev pub ahead : ℕ → ℕ → ℕ → Bool → Bool → Bool → Window
ahead p a b a_in b_in seeks =
    record { of = p; begin_by = neg_ℤ (pos b); begin_in = b_in; end_by = neg_ℤ (pos a); end_in = a_in; seeks = seeks }

-- until when counts what was found
abbrev pub upper : Option ℕ → ℤ
upper None = pos for_ever
upper (Some b) = pos b

-- the window of a node that looks behind: a time that is found counts for the node from a later to b later
abbrev pub behind : ℕ → ℕ → Option ℕ → Bool → Bool → Bool → Window
behind p a b a_in b_in seeks = record { of = p; begin_by = pos a; begin_in = a_in; end_by = upper b; end_in = b_in; seeks = seeks }

-- the window of an operator that looks at its operand over these offsets
abbrev pub end_by : Option ℤ → ℤ
end_by None = pos for_ever
end_by (Some k) = neg_ℤ k

abbrev pub window_by : ℕ → Offsets → Bool → Window
window_by p w seeks = record { of = p; begin_by = neg_ℤ w.high; begin_in = w.high_in; end_by = end_by w.low; end_in = w.low_in; seeks = seeks }

-- which truth of its operand it seeks
abbrev pub seeks_of : Asks → Bool
seeks_of Any = true
seeks_of Each = false

-- what an until or a since does
abbrev pub reach_by : Way → Window → ℕ → Kind
reach_by W.Until w q = UntilOf (record { window = w; right = q })
reach_by W.Since w q = SinceOf (record { window = w; right = q })

-- what the operator of a view does
abbrev pub kind_by : View → Kind
kind_by (V.Const b) = Constant b
kind_by V.Atom = Constant false
kind_by (V.Not p) = Negation p
kind_by (V.Two join p q) = Connective join (record { left = p; right = q })
kind_by (V.Over asks w p) = Over (window_by p w (seeks_of asks))
kind_by (V.Reach way w p q) = reach_by way (window_by p w true) q

-- what the operator of a node does
abbrev pub kind_of : Node → Kind
kind_of (Const b) = Constant b
kind_of (Leaf a) = Constant false
kind_of (Not p) = Negation p
kind_of (And p q) = Connective Conjunction (record { left = p; right = q })
kind_of (Or p q) = Connective Disjunction (record { left = p; right = q })
kind_of (Implies p q) = Connective Implication (record { left = p; right = q })
kind_of (Until p q a b) = UntilOf (record { window = ahead p a b true true true; right = q })
kind_of (Eventually p a b a_in b_in) = Over (ahead p a b a_in b_in true)
kind_of (Always p a b a_in b_in) = Over (ahead p a b a_in b_in false)
kind_of (Since p q a b) = SinceOf (record { window = behind p a b true true true; right = q })
kind_of (Once p a b a_in b_in) = Over (behind p a b a_in b_in true)
kind_of (Historically p a b a_in b_in) = Over (behind p a b a_in b_in false)

-- just after a number; before every row, where there is none
abbrev pub place_of : Option ℤ → Place
place_of None = record { at = whole (pos 0); after = false }
place_of (Some f) = record { at = whole f; after = true }

-- up to where node j is answered
abbrev pub front_place : Held → ℕ → Place
front_place e j = place_of (number_at e j)

-- where the verdicts begin, or the place `stop` where there are none
abbrev pub first_place : List Verdict → Place → Place
first_place [] stop = stop
first_place (v ∷ vs) stop = begins (interval v.on)

-- up to where node j was read by its reader
abbrev pub read_upto : Held → ℕ → Place
read_upto e j = first_place (fresh_at e j) (front_place e j)

-- what until keeps in mind of its inputs p and q, of which the first verdicts that were not read begin at `left` and `right`: both are
-- known up to one place `read`. Of the right input more may be gone, which no window to come meets
pub record IsUntilKnown (p q : Subformula) (tr : Trace) (u : UntilWindow) (at reach left right stop : Place) (fresh : List Verdict) : Type 0 where
  pub read : Place
  pub knows : KnowsUntil (Truth p tr) (Counted true q tr) (low_place u.window) (high_place u.window) at reach read read stop
  pub left_behind : AtMost left read
  pub right_behind : (t v : Rational) → After at t → After (low_place u.window t) v → Upto right v → Upto read v
  pub tight : (t : Rational) → After left t → After right t → After read t
  -- the left input's next verdict goes on from there
  pub ahead : (v : Verdict) → slice_get fresh 0 ≡ Some v → Before read (ends (interval v.on))

-- what since keeps in mind of its inputs: the left one is known up to a place `read`, where what was not read begins, or else its run
pub record IsSinceKnown (p q : Subformula) (tr : Trace) (s : SinceWindow) (at run reach left right stop_left stop_right : Place)
    (fresh : List Verdict) : Type 0 where
  pub read : Place
  pub knows : KnowsSince (Truth p tr) (Counted true q tr) (low_place s.window) (high_place s.window)
      (record { at = start tr; after = false }) at run reach read right stop_left stop_right
  pub behind : AtMost read at
  pub left_behind : AtMost left read
  pub tight : (t : Rational) → After left t → After run t → After read t
  -- the left input's next verdict goes on from there
  pub ahead : (v : Verdict) → slice_get fresh 0 ≡ Some v → Before read (ends (interval v.on))
  -- its run begins within the trace
  pub from_start : AtMost (record { at = start tr; after = false }) run

-- what an operator of this kind keeps in mind of its inputs, in the trace of the rows so far, once its node is answered up to `at`. A
-- constant needs none, and a connective reads no further than its node is answered
abbrev pub KnowsBy : Kind → List Node → Trace → Held → Place → Place → Place → Type 0
KnowsBy (Constant b) nodes tr e at reach run = Unit {0}
KnowsBy (Negation p) nodes tr e at reach run = AtMost (read_upto e p) at
KnowsBy (Connective join inputs) nodes tr e at reach run = AtMost (read_upto e inputs.left) at × AtMost (read_upto e inputs.right) at
KnowsBy (Over w) nodes tr e at reach run =
    Knows w.seeks (Counted w.seeks (subformula nodes w.of) tr) (low_place w) (high_place w) at reach (read_upto e w.of) (front_place e w.of)
KnowsBy (UntilOf u) nodes tr e at reach run =
    IsUntilKnown (subformula nodes u.window.of) (subformula nodes u.right) tr u at reach (read_upto e u.window.of) (read_upto e u.right)
    (place_of (least (number_at e u.window.of) (number_at e u.right))) (fresh_at e u.window.of)
KnowsBy (SinceOf s) nodes tr e at reach run =
    IsSinceKnown (subformula nodes s.window.of) (subformula nodes s.right) tr s at run reach (read_upto e s.window.of) (read_upto e s.right)
    (front_place e s.window.of) (front_place e s.right) (fresh_at e s.window.of)
