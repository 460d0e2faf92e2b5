-- Texts that are put behind others, in a buffer that is filled from its beginning on.
use Rattle.std.specs.Prelude.{◌≡◌, ℕ, ◌+◌, ◌≤◌, List, ◌++◌, length, take}

-- the word was put behind what stood before `at`, and ends before `to`
pub record IsAdded (word old : List ℕ) (at : ℕ) (new : List ℕ) (to : ℕ) : Type 0 where
  pub added : take to new ≡ take at old ++ word
  pub size : to ≡ at + length word
  pub same : length new ≡ length old

-- a text of this kind was put there; it takes `most` bytes at most
abbrev pub Adds : (List ℕ → Type 0) → ℕ → List ℕ → ℕ → List ℕ → ℕ → Type 0
Adds P most old at new to = (word : List ℕ) × P word × (length word ≤ most) × IsAdded word old at new to
