-- What the queue of a moving range keeps.
use Rattle.std.specs.Prelude.{◌≡◌, ℕ, suc, ◌+◌, ◌-◌, ◌≤◌, ◌<◌, nat_lt, if◌then◌else◌, List, [], ◌∷◌, slice_get, Some}
use Rattle.rational.specs.Extended.{Affine}
use Rattle.window_extrema.specs.Range.{IsAtMost, IsGreatestOf}

-- how many places a queue spreads over: its own and those that they pass over
abbrev pub spread : List ℕ → ℕ
spread [] = 0
spread (passed ∷ queue) = suc (passed + spread queue)

-- the queue from its place on that lies behind the first `count` of those that it spreads over
abbrev pub from_place : ℕ → List ℕ → List ℕ
from_place count [] = []
from_place count (passed ∷ queue) = if nat_lt passed count then from_place (count - suc passed) queue else (passed - count) ∷ queue

module _ {P : Type 0} (function : P → Affine) (items : List P) where
  -- places that rise, each said by how many it passes over, whose items fall: the first is a greatest of the range, the next a greatest of
  -- what comes after it, and so on to the end
  abbrev pub AreStairs : ℕ → ℕ → List ℕ → Type 0
  AreStairs low high [] = low ≡ high
  AreStairs low high (passed ∷ queue) = IsGreatestOf function items low high (low + passed) × AreStairs (suc (low + passed)) high queue

  -- the same of the range up to `place`, but for items from `end` on that are at most the one at `place`
  abbrev pub AreStairsTo : ℕ → ℕ → ℕ → List ℕ → Type 0
  AreStairsTo place low end [] =
      (low ≡ end) × ((j : ℕ) (x y : P) → low ≤ j → j < place → slice_get items j ≡ Some x → slice_get items place ≡ Some y → IsAtMost function x y)
  AreStairsTo place low end (passed ∷ queue) = IsGreatestOf function items low place (low + passed) × AreStairsTo place (suc (low + passed)) end queue
