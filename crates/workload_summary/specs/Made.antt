-- How the generation of a workload ends.
use Rattle.std.specs.Prelude.{◌≡◌, ℕ, List, []}
use Rattle.std.specs.Io.KnownBytes.{Appends}
use Rattle.io_edge.specs.Calls.{Filled, HasRefused}
use Rattle.workload_summary.specs.Generator.{IsSummary}
use Rattle.command_line.specs.Writing.{IsPartWritten}
use Rattle.command_line.specs.ErrTexts.{out_of_memory, write_fault}

-- its status, what was written, and its line
pub data IsMade (number rows : ℕ) (o : Filled) : ℕ → List ℕ → Type 0 where
  written : {text : List ℕ} → IsSummary number rows text → Appends o.before o.after text → IsMade number rows o 0 []
  cut_off : {text : List ℕ} → IsSummary number rows text → IsPartWritten o.before o.after text → HasRefused o → IsMade number rows o 6 write_fault
  no_room : o.after ≡ o.before → IsMade number rows o 7 out_of_memory
