use Rattle.std.proofs.Common.{◌∙◌, Some, sym, ap, subst, ◌<◌, length, arith}
use Rattle.std.proofs.lemmas.Option.{same_Some}
use Rattle.rational.proofs.Lists.{slice_get-set_same, slice_get-set_other}
use Rattle.atom_lines.specs.Rows.{row_of}
use Rattle.truth_sets.specs.Rows.{HasGrown}
use Rattle.truth_sets.proofs.growing.begin_at.Goals as goal

pub begin-requires-clause-atom : goal.begin-requires-clause-atom
begin-requires-clause-atom c =
    let k = c.requires.bound.atoms c.args.i c.in-Atom.field-0 (c.node.ensures.node ∙ ap (λ n. Some n) c.in-Atom.is) in
    (k.0, k.1)

pub returns-in-Atom-clause-others : goal.returns-in-Atom-clause-others
returns-in-Atom-clause-others c = λ k n. slice_get-set_other c.args.sets.now.items c.args.i k c.begin.new.set n

pub returns-in-Atom-clause-own : goal.returns-in-Atom-clause-own
returns-in-Atom-clause-own c = λ a s at found.
    let within : c.args.i < length c.args.sets.now.items = let l = c.requires.inside in let n = c.requires.count in omega (arith, l, n) in
    subst (HasGrown c.args.bound.now c.args.i c.args.trace.now.header c.args.trace.now.rows (row_of c.args.trace.now 0))
    (same_Some c.begin.new.set s (sym (slice_get-set_same c.args.sets.now.items c.args.i c.begin.new.set within) ∙ found)) c.begin.ensures
