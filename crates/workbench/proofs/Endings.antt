-- How a run ends: what was written of an answer, of which nothing is said.
use Rattle.std.proofs.Common.{◌≡◌, ℕ, Bool, List, [], refl, sym, subst, Result, Ok, Err}
use Rattle.std.specs.Prelude.{Option}
use Rattle.std.specs.Io.KnownBytes.{Appends}
use Rattle.std.proofs.KnownBytes.{Appends-nil}
use Rattle.stl_syntax.specs.Formula.{Formula}
use Rattle.command_line.specs.Saying.{IsSaid, whole}
use Rattle.command_line.specs.Writing.{IsPartWritten}
use Rattle.workbench.specs.Wholes.{IsWrittenWith, all_of_it, a_part, IsEndLine}
use Rattle.workbench.specs.declared.fault.Stop.{Stop}
use Rattle.workbench.specs.declared.fault.Stop.TheVariants.{Unwritten}

-- the text was written whole
pub written_whole : (holds : Bool) (text piece : List ℕ) (held held_after : Option (List ℕ)) → piece ≡ text → Appends held held_after piece
    → IsWrittenWith holds text held held_after (Ok holds)
written_whole holds text piece held held_after e wrote = all_of_it (subst (λ t. Appends held held_after t) e wrote)

-- or the output failed in it
pub written_part : (holds : Bool) (text piece : List ℕ) (held held_after : Option (List ℕ)) → piece ≡ text → IsPartWritten held held_after piece
    → IsWrittenWith holds text held held_after (Err Unwritten)
written_part holds text piece held held_after e wrote = a_part (subst (λ t. IsPartWritten held held_after t) e wrote)

-- nothing is said of an answer
pub nothing_said : (f : Formula) (e : Result Bool Stop) (b : Bool) (held : Option (List ℕ)) (faults : ℕ) → e ≡ Ok b
    → (line : List ℕ) × IsEndLine f e line × IsSaid held held faults faults line
nothing_said f e b held faults same = ([], subst (λ (x : Result Bool Stop). IsEndLine f x []) (sym same) refl, whole (Appends-nil held))
