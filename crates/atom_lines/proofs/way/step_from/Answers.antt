use Rattle.std.proofs.Common.{◌≡◌, ◌<◌, suc, [], subst, length, get_or, arith}
use Rattle.stl_syntax.specs.Trace.{Row}
use Rattle.atom_lines.proofs.Columns.{next_row}
use Rattle.atom_lines.proofs.way.step_from.Goals as goal

pub gap_on-after-requires-clause-later : goal.gap_on-after-requires-clause-later
gap_on-after-requires-clause-later c =
    let tr = c.args.trace.now in
    let d : Row = record { time = 0; values = [] } in
    let e : suc c.args.r ≡ c.args.next = let h = c.requires.next in omega (arith, h) in
    let later : (get_or tr.rows c.args.r d).time < (get_or tr.rows c.args.next d).time =
    subst (λ m. (get_or tr.rows c.args.r d).time < (get_or tr.rows m d).time) e
    (next_row (length tr.header.columns) tr.rows c.args.r d c.row_at-first.ensures.rows.rows (let h = c.requires.within in omega (arith, e, h))) in
    omega (arith, c.time.ensures d, c.time-2.ensures d, later)
