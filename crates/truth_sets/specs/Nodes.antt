-- What the sets of a node's children tell, and what the set made of them tells: words of private contracts.
use Rattle.std.specs.Prelude.{◌≡◌, ◌⊎◌, ◌↔◌, ◌<◌, ◌&&◌, ◌||◌, not, ℕ, Bool, false, List, length, take, Some, IfSome, IsTrue, slice_get}
use Rattle.rational.specs.Time.{Rational}
use Rattle.stl_syntax.specs.Trace.{Trace}
use Rattle.stl_syntax.specs.Formula.{Subformula, subformula}
use Rattle.stl_syntax.specs.PostOrder.{is_used}
use Rattle.stl_syntax.specs.Truth.{Truth}
use Rattle.stl_syntax.specs.Views.{IsOfAtom, TruthBy, first_of, second_of, view_of}
use Rattle.stl_syntax.specs.declared.node.Node.{Node}
use Rattle.stl_syntax.specs.declared.operator.Asks.{Asks}
use Rattle.stl_syntax.specs.declared.operator.Asks.TheVariants.{Any, Each}
use Rattle.stl_syntax.specs.declared.operator.Join.{Join}
use Rattle.stl_syntax.specs.declared.operator.Join.TheVariants.{And, Or, Implies}
use Rattle.stl_syntax.specs.declared.operator.View.{View}
use Rattle.time_sets.specs.Sets.{has}
use Rattle.time_sets.specs.Windows.{IsOf, Lies, SeesOne, SeesOnly}
use Rattle.time_sets.specs.declared.domain.Domain.{Domain}
use Rattle.time_sets.specs.declared.times.Times.{Times}
use Rattle.time_sets.specs.declared.window.Window.{Window}
use Rattle.truth_sets.specs.Telling.{IsOver, TellsTruth}
use Rattle.truth_sets.specs.declared.atom.NodeSet.{NodeSet}

-- what a connective makes of two truths
abbrev pub joins : Join → Bool → Bool → Bool
joins And a b = a && b
joins Or a b = a || b
joins Implies a b = not a || b

-- what an operator asks of the times in its window
abbrev pub SeesAsked : Asks → Domain → Window → Times → Rational → Type 0
SeesAsked Any = SeesOne
SeesAsked Each = SeesOnly

-- the operands tell the formulas at their places; an atom's set is not made here
pub record OperandsTell (on : Domain) (tr : Trace) (at : ℕ → Subformula) (v : View) (p q : Times) : Type 0 where
  pub inner : IsOfAtom v → ⊥
  pub first : IfSome (first_of v) (λ i. TellsTruth on tr (at i) p)
  pub second : IfSome (second_of v) (λ i. TellsTruth on tr (at i) q)

-- where the operands' sets tell their formulas, the new one has the times at which what the view says of these is true
abbrev pub TellsBy : Domain → View → Times → Times → Times → Type 0
TellsBy on v p q r = (tr : Trace) (at : ℕ → Subformula) → IsOver on tr → OperandsTell on tr at v p q
    → IsOf on r × ((t : Rational) → Lies on t → IsTrue (has r t) ↔ TruthBy (λ k u. Truth (at k) tr u) tr v t)

-- the node is an atom
abbrev pub IsLeaf : Node → Type 0
IsLeaf n = IsOfAtom (view_of n)

-- once the first i nodes have their sets, each of these and of the atoms behind them tells its node, unless one of the first i has read it
pub record AreReady (on : Domain) (tr : Trace) (nodes : List Node) (i : ℕ) (sets : List NodeSet) : Type 0 where
  pub count : length sets ≡ length nodes
  pub tell : (k : ℕ) (n : Node) (s : NodeSet) → slice_get nodes k ≡ Some n → (k < i) ⊎ IsLeaf n → is_used (take i nodes) k ≡ false
      → slice_get sets k ≡ Some s → TellsTruth on tr (subformula nodes k) s.times
