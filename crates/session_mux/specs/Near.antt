-- The first LF of a text from a place on, where it is near: words of private contracts.
use Rattle.std.specs.Prelude.{◌≡◌, ◌≢◌, ℕ, ◌+◌, ◌<◌, List, slice_index}

-- none of the 32 bytes from there on is an LF
abbrev pub IsNoFeed : List ℕ → ℕ → Type 0
IsNoFeed text at = (k : ℕ) → k < 32 → slice_index text (at + k) ≢ 10

-- the first is byte n from there
pub record IsNextFeed (text : List ℕ) (at n : ℕ) : Type 0 where
  pub near : n < 32
  pub is : slice_index text (at + n) ≡ 10
  pub before : (k : ℕ) → k < n → slice_index text (at + k) ≢ 10
