use Rattle.std.proofs.Common.{◌-◌, ◌∙◌, Some, sym, ap, subst, refl, ◌<◌, length, arith}
use Rattle.std.proofs.lemmas.Option.{same_Some, slice_get_read}
use Rattle.std.proofs.lemmas.Result.{on_ok_weaker}
use Rattle.rational.proofs.Lists.{slice_get-set_same, slice_get-set_other, on_ok_anyway}
use Rattle.atom_lines.specs.Rows.{row_of}
use Rattle.truth_sets.specs.Rows.{HasGrown}
use Rattle.truth_sets.proofs.growing.grow_at.Goals as goal

pub grow-requires-clause-atom : goal.grow-requires-clause-atom
grow-requires-clause-atom c =
    let k = c.requires.bound.atoms c.args.i c.in-Atom.field-0 (c.node.ensures.node ∙ ap (λ n. Some n) c.in-Atom.is) in
    (k.0, k.1)

pub grow-requires-clause-grown : goal.grow-requires-clause-grown
grow-requires-clause-grown c =
    let grown = c.requires.grown in
    let within : c.args.i < length c.args.sets.now.items = let l = c.requires.inside in let n = c.requires.count in omega (arith, l, n) in
    let read = slice_get_read c.args.sets.now.items _ c.args.i c.index_mut.result.now refl within c.index_mut.ensures.value in
    (grown.0, grown.1, grown.2, grown.3 c.in-Atom.field-0 c.index_mut.result.now (c.node.ensures.node ∙ ap (λ n. Some n) c.in-Atom.is) read)

pub returns-in-Atom-clause-others : goal.returns-in-Atom-clause-others
returns-in-Atom-clause-others c = on_ok_anyway c.grow.result (λ k n. slice_get-set_other c.args.sets.now.items c.args.i k c.grow.new.set n)

pub returns-in-Atom-clause-own : goal.returns-in-Atom-clause-own
returns-in-Atom-clause-own c =
    let b = c.args.bound.now in
    let i = c.args.i in
    let block = c.args.trace.now in
    let items = c.args.sets.now.items in
    let within : i < length items = let l = c.requires.inside in let n = c.requires.count in omega (arith, l, n) in
    let read = slice_get_read items _ i c.index_mut.result.now refl within c.index_mut.ensures.value in
    on_ok_weaker c.grow.result
    (λ h header rows a old s tail at was found g.
    subst (HasGrown b i header rows (row_of block (length block.rows - 1)))
    (same_Some c.grow.new.set s (sym (slice_get-set_same items i c.grow.new.set within) ∙ found))
    (h header rows tail (subst (HasGrown b i header rows (row_of block 0)) (same_Some old c.index_mut.result.now (sym was ∙ read)) g)))
    c.grow.ensures
