-- A node by what it does with its operands, and what that means.
use Rattle.std.specs.Prelude.{◌⊎◌, ℕ, ◌≤◌, ◌^◌, Bool, true, pos, neg_ℤ, unsigned_abs, ℤ, Option, Some, None, IfSome, IsTrue}
use Rattle.rational.specs.Time.{Rational, Within, Precedes, add, whole}
use Rattle.stl_syntax.specs.Trace.{Trace, start, stop}
use Rattle.stl_syntax.specs.declared.node.Node.{Node}
use Rattle.stl_syntax.specs.declared.node.Node.TheVariants.{Const, Atom as Leaf, Not, And, Or, Implies, Until, Eventually, Always, Since, Once, Historically}
use Rattle.stl_syntax.specs.declared.operator.Asks.TheVariants.{Any, Each}
use Rattle.stl_syntax.specs.declared.operator.Join.{Join}
use Rattle.stl_syntax.specs.declared.operator.Join.TheVariants as J
use Rattle.stl_syntax.specs.declared.operator.Way.TheVariants as W
use Rattle.stl_syntax.specs.declared.operator.Offsets.{Offsets}
use Rattle.stl_syntax.specs.declared.operator.View.{View}
use Rattle.stl_syntax.specs.declared.operator.View.TheVariants as V

-- the window from a to b after a time
abbrev pub ahead : ℕ → ℕ → Bool → Bool → Offsets
ahead a b a_in b_in = record { low = Some (pos a); high = pos b; low_in = a_in; high_in = b_in }

-- the far end of a window behind, where it has one
abbrev pub far_end : Option ℕ → Option ℤ
far_end None = None
far_end (Some b) = Some (neg_ℤ (pos b))

-- the window from b to a before a time
abbrev pub behind : ℕ → Option ℕ → Bool → Bool → Offsets
behind a b a_in b_in = record { low = far_end b; high = neg_ℤ (pos a); low_in = b_in; high_in = a_in }

-- what a node does
abbrev pub view_of : Node → View
view_of (Const b) = V.Const b
view_of (Leaf a) = V.Atom
view_of (Not p) = V.Not p
view_of (And p q) = V.Two J.And p q
view_of (Or p q) = V.Two J.Or p q
view_of (Implies p q) = V.Two J.Implies p q
view_of (Until p q a b) = V.Reach W.Until (ahead a b true true) p q
view_of (Eventually p a b a_in b_in) = V.Over Any (ahead a b a_in b_in) p
view_of (Always p a b a_in b_in) = V.Over Each (ahead a b a_in b_in) p
view_of (Since p q a b) = V.Reach W.Since (behind a b true true) p q
view_of (Once p a b a_in b_in) = V.Over Any (behind a b a_in b_in) p
view_of (Historically p a b a_in b_in) = V.Over Each (behind a b a_in b_in) p

-- the place of the first operand
abbrev pub first_of : View → Option ℕ
first_of (V.Const b) = None
first_of V.Atom = None
first_of (V.Not p) = Some p
first_of (V.Two join p q) = Some p
first_of (V.Over asks w p) = Some p
first_of (V.Reach way w p q) = Some p

-- and of the second
abbrev pub second_of : View → Option ℕ
second_of (V.Two join p q) = Some q
second_of (V.Reach way w p q) = Some q
second_of v = None

-- the view is that of an atom
abbrev pub IsOfAtom : View → Type 0
IsOfAtom V.Atom = Unit {0}
IsOfAtom v = ⊥

-- the bounds are numbers of 32 bits
abbrev pub IsNear : Offsets → Type 0
IsNear w = IfSome w.low (λ k. unsigned_abs k ≤ 2 ^ 32) × (unsigned_abs w.high ≤ 2 ^ 32)

-- so are those of the window, where there is one
abbrev pub IsNearView : View → Type 0
IsNearView (V.Over asks w p) = IsNear w
IsNearView (V.Reach way w p q) = IsNear w
IsNearView v = Unit {0}

-- u lies in the window from t
pub record Sees (w : Offsets) (t u : Rational) : Type 0 where
  pub begins : IfSome w.low (λ k. Precedes w.low_in (add t (whole k)) u)
  pub ends : Precedes w.high_in u (add t (whole w.high))

-- and is a time of the trace
abbrev pub Counts : Trace → Offsets → Rational → Rational → Type 0
Counts tr w t u = Within (start tr) (stop tr) u × Sees w t u

-- what a connective says of two propositions
abbrev pub Joined : Join → Type 0 → Type 0 → Type 0
Joined J.And A B = A × B
Joined J.Or A B = A ⊎ B
Joined J.Implies A B = A → B

-- what a view says at t, by the times at which the operands hold; that of an atom says nothing
abbrev pub TruthBy : (ℕ → Rational → Type 0) → Trace → View → Rational → Type 0
TruthBy At tr (V.Const b) t = IsTrue b
TruthBy At tr V.Atom t = ⊥
TruthBy At tr (V.Not p) t = ¬ At p t
TruthBy At tr (V.Two join p q) t = Joined join (At p t) (At q t)
TruthBy At tr (V.Over Any w p) t = (u : Rational) × Counts tr w t u × At p u
TruthBy At tr (V.Over Each w p) t = (u : Rational) → Counts tr w t u → At p u
TruthBy At tr (V.Reach way w p q) t = (u : Rational) × Counts tr w t u × At q u × ((v : Rational) → Within t u v ⊎ Within u t v → At p v)
