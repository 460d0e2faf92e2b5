-- Lists of stretches that stand in blocks: what contracts see of one, and words of private contracts.
use Rattle.std.specs.Prelude.{◌≡◌, ℕ, ◌+◌, ◌<◌, ◌≤◌, ◌^◌, List, [], ◌∷◌, ◌++◌, Some, length, take, slice_get}
use Rattle.growing_sets.specs.declared.stretch.Stretch.{Stretch}
use Rattle.growing_sets.specs.declared.stretches.Block.{Block}
use Rattle.growing_sets.specs.declared.stretches.Spot.{Spot}

-- the stretches of a list, in their order
pub record Listed : Type 0 where
  pub items : List Stretch

-- what the blocks have, one after another
abbrev pub joined : List Block → List Stretch
joined [] = []
joined (p ∷ rest) = p.ring.items ++ joined rest

-- the item at the place stands in that block, so far behind its first
pub record IsSpot (blocks : List Block) (at : ℕ) (s : Spot) : Type 0 where
  pub held : Block
  pub there : slice_get blocks s.block ≡ Some held
  pub before : at ≡ length (joined (take s.block blocks)) + s.index
  pub within : s.index < length held.ring.items

-- so many they are, and each place of one has one after it
pub record IsCounted (count : ℕ) (blocks : List Block) : Type 0 where
  pub all : count ≡ length (joined blocks)
  pub few : count ≤ 2 ^ 62
