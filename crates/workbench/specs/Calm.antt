-- What a run leaves as it was, by the status with which it ends.
use Rattle.std.specs.Prelude.{◌≡◌, ◌≢◌, ◌⊎◌, ℕ, ◌≤◌, List}
use Rattle.io_edge.specs.Calls.{Drained, Filled}
use Rattle.command_line.specs.Words.{AreHeld, AskToGenerate}

-- a device that failed is said by the status, counts of faults never fall, and of an answer nothing is said, where `Unsaid` is that the error
-- stream is as it was
pub record IsCalm (i : Drained) (o e : Filled) (Unsaid : Type 0) (status : ℕ) : Type 0 where
  pub read_due : status ≢ 5 → i.faults_after ≡ i.faults
  pub write_due : status ≢ 6 → o.faults_after ≡ o.faults
  pub quiet : status ≤ 1 → Unsaid
  pub input_later : i.faults ≤ i.faults_after
  pub out_later : o.faults ≤ o.faults_after
  pub err_later : e.faults ≤ e.faults_after

-- when the input, the output and what is left are as they were, as these three say
pub record IsUntouched (words : List (List ℕ)) (Unread Unwritten Unkept : Type 0) (status : ℕ) : Type 0 where
  pub unread : (status ≡ 2) ⊎ (status ≡ 3) ⊎ AskToGenerate words → Unread
  pub nothing : 2 ≤ status → status ≢ 6 → (status ≤ 3) ⊎ AreHeld words → Unwritten
  pub unkept : (2 ≤ status) ⊎ AreHeld words → Unkept
