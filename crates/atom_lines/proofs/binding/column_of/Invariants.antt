use Rattle.std.proofs.Common.{ℕ, ◌<◌, ◌≢◌}
use Rattle.std.specs.Prelude.{slice_index_or}
use Rattle.stl_syntax.specs.Trace.{Column}
use Rattle.atom_lines.proofs.binding.column_of.Given as goal

-- no column before has the name
abbrev pub invariant-loop-i : goal.invariant-loop-i
invariant-loop-i l = (j : ℕ) (d : Column) → j < l.i → (slice_index_or l.header.columns j d).name ≢ l.name
