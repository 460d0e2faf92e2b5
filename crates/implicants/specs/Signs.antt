-- Which certainty of each node helps the formula to be certainly false.
use Rattle.std.specs.Prelude.{◌≡◌, ◌≢◌, ℕ, ◌-◌, Bool, false, not, List, Option, Some, IfSome, length, slice_get, slice_index_or}
use Rattle.stl_syntax.specs.Views.{first_of, second_of, view_of}
use Rattle.stl_syntax.specs.declared.node.Node.{Node}
use Rattle.stl_syntax.specs.declared.operator.Join.TheVariants as J
use Rattle.stl_syntax.specs.declared.operator.View.{View}
use Rattle.stl_syntax.specs.declared.operator.View.TheVariants as V

-- the sign of the node at place k: whether it helps that it is certainly true, or that it is certainly false
abbrev pub sign_at : List Bool → ℕ → Bool
sign_at signs k = slice_index_or signs k false

-- the sign of the first operand of a node that has the sign h
abbrev pub first_sign : View → Bool → Bool
first_sign (V.Not p) h = not h
first_sign (V.Two J.Implies p q) h = not h
first_sign v h = h

-- the operands of a node, where it has two, are two nodes
abbrev pub AreApart : Option ℕ → Option ℕ → Type 0
AreApart p q = IfSome p (λ i. q ≢ Some i)

-- the operands of a node that has the sign h have theirs
pub record AreSigned (signs : List Bool) (n : Node) (h : Bool) : Type 0 where
  pub first : IfSome (first_of (view_of n)) (λ p. sign_at signs p ≡ first_sign (view_of n) h)
  pub second : IfSome (second_of (view_of n)) (λ q. sign_at signs q ≡ h)

-- each node has the sign that the node above it gives it, and the root that of false
pub record AreSigns (nodes : List Node) (signs : List Bool) : Type 0 where
  pub count : length signs ≡ length nodes
  pub each : (j : ℕ) (n : Node) → slice_get nodes j ≡ Some n → AreSigned signs n (sign_at signs j)
  pub root : sign_at signs (length nodes - 1) ≡ false
