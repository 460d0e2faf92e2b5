-- What was said on the error stream.
use Rattle.std.specs.Prelude.{ℕ, List, Option}
use Rattle.std.specs.Io.KnownBytes.{Appends}
use Rattle.io_edge.specs.Causes.{Rose}
use Rattle.command_line.specs.Writing.{IsPartWritten}

-- the line was written, or where the count of faults rose a part of it
pub data IsSaid (held held_after : Option (List ℕ)) (faults faults_after : ℕ) : List ℕ → Type 0 where
  whole : {line : List ℕ} → Appends held held_after line → IsSaid held held_after faults faults_after line
  part : {line : List ℕ} → IsPartWritten held held_after line → Rose faults faults_after → IsSaid held held_after faults faults_after line
