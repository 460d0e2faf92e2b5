-- The row at a place of a block, and the one before it.
use Rattle.std.specs.Prelude.{ℕ, zero, suc, Option, Some, None}
use Rattle.stl_syntax.specs.Trace.{Row, Trace}
use Rattle.atom_lines.specs.Rows.{row_of}
use Rattle.early_verdict.specs.declared.block_row.BlockRow.{BlockRow}

-- the row before a place, if there is one
abbrev pub row_before : Trace → ℕ → Option Row
row_before block zero = None
row_before block (suc at) = Some (row_of block at)

-- the row
abbrev pub own_row : BlockRow → Row
own_row x = row_of x.block.now x.at

-- the one before it
abbrev pub previous_row : BlockRow → Option Row
previous_row x = row_before x.block.now x.at
