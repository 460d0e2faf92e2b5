-- Texts that are put before others, in a buffer that is filled from its end on.
use Rattle.std.specs.Prelude.{◌≡◌, ℕ, ◌+◌, ◌≤◌, List, ◌++◌, length, drop}

-- the word was put before what stood from `end` on, and begins at `at`; it takes `most` bytes at most
pub record IsPut (word : List ℕ) (most : ℕ) (old : List ℕ) (end : ℕ) (new : List ℕ) (at : ℕ) : Type 0 where
  pub put : drop at new ≡ word ++ drop end old
  pub few : end ≤ at + most
  pub inside : at ≤ end
  pub same : length new ≡ length old

-- a text of this kind was put there
abbrev pub Puts : (List ℕ → Type 0) → ℕ → List ℕ → ℕ → List ℕ → ℕ → Type 0
Puts P most old end new at = (word : List ℕ) × P word × IsPut word most old end new at
