use Rattle.std.proofs.Common.{◌<◌, [], length, get_or, sym, subst, arith}
use Rattle.stl_syntax.specs.Trace.{IsTrace, Row}
use Rattle.atom_lines.proofs.Columns.{next_row, row_width}
use Rattle.early_verdict.proofs.block_row.BlockRow.new.Goals as goal

pub invariant_of-result : goal.invariant_of-result
invariant_of-result c =
    let tr = c.args.block.now in
    let d : Row = record { time = 0; values = [] } in
    let some : 0 < c.rows.result = omega (arith, c.rows.ensures.count, c.requires) in
    let ok : IsTrace tr = c.rows.ensures.trace some in
    record {
      within = c.requires;
      wide = row_width (length tr.header.columns) tr.rows c.args.at d ok.rows c.requires;
      later = λ k e. subst (λ m. (get_or tr.rows k d).time < (get_or tr.rows m d).time) (sym e)
          (next_row (length tr.header.columns) tr.rows k d ok.rows (subst (λ m. m < length tr.rows) e c.requires));
    }
