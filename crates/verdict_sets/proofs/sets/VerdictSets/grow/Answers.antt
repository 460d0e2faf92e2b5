use Rattle.verdict_sets.proofs.CaseSets.{stands_own, is_tail, taken_in}
use Rattle.atom_lines.specs.Rows.{row_of}
use Rattle.verdict_sets.proofs.sets.VerdictSets.grow.Goals as goal

pub returns : goal.returns
returns c = λ case k.
    let x = c.args.self.now in
    taken_in x case k.tail c.grow.new.self c.keep_last.new.self k.sets.0 c.keep_last.ensures
    (c.in_ok-grow.ensures case.trace.header case.trace.rows (is_tail x case k.tail)
    (stands_own x case k.tail x.sets case.trace.header case.trace.rows (row_of x.case.trace 0) k.sets.1))
