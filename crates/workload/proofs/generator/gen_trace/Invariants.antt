use Rattle.std.proofs.Common.{◌≡◌, ◌++◌, ◌-◌, ◌*◌}
use Rattle.std.specs.Prelude.{flat_map}
use Rattle.workload.specs.Generated.{rows_after, row_line, generated_bytes}
use Rattle.workload.proofs.generator.gen_trace.Given as goal

abbrev pub invariant-loop-row : goal.invariant-loop-row
invariant-loop-row l = l.text ++ flat_map row_line (rows_after l.state (l.row * 4) (l.rows - l.row)) ≡ generated_bytes l.number l.rows
