-- How far the nodes of a formula are asked.
use Rattle.std.specs.Prelude.{◌≡◌, ℕ, ◌≤◌, List, length, drop, sum_by, Some, slice_get}
use Rattle.stl_syntax.specs.Limits.{own_reach}
use Rattle.stl_syntax.specs.declared.node.Node.{Node}
use Rattle.early_verdict.specs.Standing.{AsksBelow, top_at}

-- what the nodes from a place on add to the reach
abbrev pub rest_reach : List Node → ℕ → ℕ
rest_reach nodes i = sum_by own_reach (drop i nodes)

-- no node is asked further than m ticks
abbrev pub AreUpTo : ℕ → List ℕ → Type 0
AreUpTo m tops = (j : ℕ) → top_at tops j ≤ m

-- no node is asked less far
abbrev pub Rises : List ℕ → List ℕ → Type 0
Rises old new = (j : ℕ) → top_at old j ≤ top_at new j

-- the nodes from a place on are asked as far as before
abbrev pub StayFrom : ℕ → List ℕ → List ℕ → Type 0
StayFrom place old new = (j : ℕ) → place ≤ j → top_at new j ≡ top_at old j

-- each node asks its children as far as it looks, and none is asked further than the reach
pub record AreTops (nodes : List Node) (tops : List ℕ) : Type 0 where
  pub count : length tops ≡ length nodes
  pub asks : (i : ℕ) (n : Node) → slice_get nodes i ≡ Some n → AsksBelow (top_at tops) (top_at tops i) n
  pub most : AreUpTo (rest_reach nodes 0) tops
