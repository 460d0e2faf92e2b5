-- A list of sets of which those at one place change, or those before one.
use Rattle.std.specs.Prelude.{◌≡◌, ◌≢◌, ℕ, ◌<◌, ◌≤◌, Some, List, length, slice_get}
use Rattle.early_verdict.specs.declared.sets.Sets.{Sets}

-- those before a place change as R says, and those from it on are as they were
pub record ChangedTo (n : ℕ) (old new : List Sets) (R : ℕ → Sets → Sets → Type 0) : Type 0 where
  pub count : length new ≡ length old
  pub each : (j : ℕ) (s r : Sets) → j < n → slice_get old j ≡ Some s → slice_get new j ≡ Some r → R j s r
  pub others : (j : ℕ) → n ≤ j → slice_get new j ≡ slice_get old j

-- the sets at the place change as R says, and those at the others are as they were
pub record ChangesAt (i : ℕ) (old new : List Sets) (R : Sets → Sets → Type 0) : Type 0 where
  pub was : Sets
  pub is : Sets
  pub at_old : slice_get old i ≡ Some was
  pub at_new : slice_get new i ≡ Some is
  pub others : (j : ℕ) → j ≢ i → slice_get new j ≡ slice_get old j
  pub count : length new ≡ length old
  pub by : R was is
