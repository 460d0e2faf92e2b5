-- The horizon of a node, from those of the nodes before it.
use Rattle.std.specs.Prelude.{◌≡◌, ℕ, ◌+◌, ◌-◌, ◌<◌, max, List, slice_index}
use Rattle.stl_syntax.specs.Formula.{subformula, horizon}
use Rattle.stl_syntax.specs.declared.node.Node.{Node}
use Rattle.stl_syntax.specs.declared.node.Node.TheVariants.{Const, Atom as Leaf, Not, And, Or, Implies, Until, Eventually, Always, Since, Once, Historically}

-- the horizon of a node, from those of the places before it, in order
abbrev pub horizon_above : List ℕ → Node → ℕ
horizon_above h (Const b) = 0
horizon_above h (Leaf a) = 0
horizon_above h (Not p) = slice_index h p
horizon_above h (And p q) = max (slice_index h p) (slice_index h q)
horizon_above h (Or p q) = max (slice_index h p) (slice_index h q)
horizon_above h (Implies p q) = max (slice_index h p) (slice_index h q)
horizon_above h (Until p q a b) = b + max (slice_index h p) (slice_index h q)
horizon_above h (Eventually p a b a_in b_in) = b + slice_index h p
horizon_above h (Always p a b a_in b_in) = b + slice_index h p
horizon_above h (Since p q a b) = max (slice_index h p) (slice_index h q - a)
horizon_above h (Once p a b a_in b_in) = slice_index h p - a
horizon_above h (Historically p a b a_in b_in) = slice_index h p - a

-- the list has the horizon of each place below i
abbrev pub AreHorizonsBelow : ℕ → List Node → List ℕ → Type 0
AreHorizonsBelow i nodes h = (k : ℕ) → k < i → slice_index h k ≡ horizon (subformula nodes k)
