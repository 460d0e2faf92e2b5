use Rattle.std.proofs.Common.{◌<◌, ◌-◌, ℕ, Bool, List, length}
use Rattle.value_laws.specs.Kinds.{kleene_shape}
use Rattle.stl_syntax.specs.declared.items.Item.{Item}
use Rattle.implicants.specs.Upward.{AreLost, HasBestIn, HasChains, IsGround}
use Rattle.implicants.proofs.upward.loses_root.Given as goal

abbrev pub invariant-loop-k : goal.invariant-loop-k
invariant-loop-k l = record {
  inside : l.k < length l.formula.nodes;
  chains : HasChains kleene_shape l.formula.nodes l.trace l.done.items;
  best : (all : List Item) (marks : List Bool) (c : ℕ)
      → IsGround l.formula.nodes l.trace all marks c l.ground.signs.items l.runs
      → HasBestIn kleene_shape l.formula.nodes l.trace all marks c l.ground.signs.items l.from l.fn.done.items
      → HasBestIn kleene_shape l.formula.nodes l.trace all marks c l.ground.signs.items l.k l.done.items;
  gained : (all : List Item) (marks : List Bool) (c : ℕ) → IsGround l.formula.nodes l.trace all marks c l.ground.signs.items l.runs
      → HasBestIn kleene_shape l.formula.nodes l.trace all marks c l.ground.signs.items l.from l.fn.done.items
      → AreLost l.formula.nodes l.trace all marks c l.ground.signs.items l.fn.gained.items
      → AreLost l.formula.nodes l.trace all marks c l.ground.signs.items l.gained.items;
}

abbrev pub decreases-loop-k : goal.decreases-loop-k
decreases-loop-k l = l.top - l.k
