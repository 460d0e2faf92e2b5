-- The limits on a formula's numbers, in ticks.
use Rattle.std.specs.Prelude.{◌≡◌, ℕ, ◌<◌, nat_abs, sum_by, List, Option, Some, None}
use Rattle.stl_syntax.specs.Choice.{◌or_else◌, Where}
use Rattle.stl_syntax.specs.Formula.{IsFirst}
use Rattle.stl_syntax.specs.declared.node.Node.{Node}
use Rattle.stl_syntax.specs.declared.node.Node.TheVariants.{Const, Atom as Leaf, Not, And, Or, Implies, Until, Eventually, Always, Since, Once, Historically}

-- the node's constant passes the limit
abbrev pub HasLargeConstant : Node → Type 0
HasLargeConstant (Leaf a) = 1073741824 < nat_abs a.limit
HasLargeConstant n = ⊥

-- the upper bound, or the lower one where the upper is infinite
abbrev pub reach_of_bound : ℕ → Option ℕ → ℕ
reach_of_bound a None = a
reach_of_bound a (Some b) = b

-- what a node adds to the reach: its upper bound, or its lower one where the upper is infinite
abbrev pub own_reach : Node → ℕ
own_reach (Const b) = 0
own_reach (Leaf a) = 0
own_reach (Not p) = 0
own_reach (And p q) = 0
own_reach (Or p q) = 0
own_reach (Implies p q) = 0
own_reach (Until p q a b) = b
own_reach (Eventually p a b a_in b_in) = b
own_reach (Always p a b a_in b_in) = b
own_reach (Since p q a b) = reach_of_bound a b
own_reach (Once p a b a_in b_in) = reach_of_bound a b
own_reach (Historically p a b a_in b_in) = reach_of_bound a b

-- the reach: the sum over the nodes
abbrev pub reach : List Node → ℕ
reach nodes = sum_by own_reach nodes

-- a constant, or the reach, passes the limit in ticks
abbrev pub IsTooLarge : {A : Type 0} → (ℕ → A) → (ℕ → A) → List Node → A → Type 0
IsTooLarge of_constant of_reach nodes =
    (λ r. (i : ℕ) × IsFirst HasLargeConstant nodes i × (r ≡ of_constant i))
    or_else Where (4294967295 < reach nodes) (of_reach (reach nodes))
