use Rattle.std.proofs.Common.{◌<◌, length, [], arith}
use Rattle.stl_syntax.specs.Trace.{IsTrace}
use Rattle.atom_lines.proofs.Columns.{row_width}
use Rattle.atom_lines.proofs.cells.row_at.Goals as goal

pub invariant_of-result : goal.invariant_of-result
invariant_of-result c =
    let some : 0 < c.rows.result = omega (arith, c.rows.ensures.count, c.requires) in
    let ok : IsTrace c.args.trace.now = c.rows.ensures.trace some in
    record {
      within = c.requires;
      wide = row_width (length c.args.trace.now.header.columns) c.args.trace.now.rows c.args.row (record { time = 0; values = [] }) ok.rows c.requires;
    }
