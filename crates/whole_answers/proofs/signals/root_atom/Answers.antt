use Rattle.std.proofs.Common.{◌≡◌, ◌-◌, ◌∙◌, [], ◌∷◌, ap, length, refl, sym, arith}
use Rattle.std.proofs.lemmas.Option.{same_Some}
use Rattle.stl_syntax.specs.Formula.{atom, subformula, tree_of}
use Rattle.stl_syntax.specs.declared.node.Node.TheVariants.{Atom as Leaf}
use Rattle.whole_answers.specs.Answering.{setting_of}
use Rattle.whole_answers.proofs.CaseSignals.{knots_tell, only_node, only_told}
use Rattle.whole_answers.proofs.signals.root_atom.Goals as goal

pub signal_of_atom-requires-clause-atom : goal.signal_of_atom-requires-clause-atom
signal_of_atom-requires-clause-atom g c =
    let bound = c.requires.bound.atoms 0 c.requires.atom.0 c.requires.atom.1 in
    (bound.0, bound.1)

pub returns-in-Ok-clause-told : goal.returns-in-Ok-clause-told
returns-in-Ok-clause-told g c =
    let shape = g.P.Shape in
    let reading = g.P.AtomShape.reading in
    let case = c.args.case.now in
    let nodes = case.formula.nodes in
    let s = setting_of shape reading case.trace in
    let a = c.requires.atom.0 in
    let at = c.requires.atom.1 in
    let rows = c.rows.ensures.trace (let e = c.rows.ensures.count in let some = c.requires.some in omega arith) in
    let node : c.node.result.now ≡ Leaf a = same_Some _ _ (sym c.node.ensures.node ∙ at) in
    let sub : subformula nodes 0 ≡ atom 0 a = c.node.ensures.subformula ∙ ap (tree_of (subformula nodes) 0) node in
    let x = c.in-Ok.signal in
    let formed = c.len.ensures.well_formed in
    let tells = knots_tell shape reading case 0 a x at sub c.requires.bound rows c.in-Ok.ensures in
    only_told shape reading case x c.requires.one tells (c.told_have_values.ensures nodes (x ∷ []) s formed.nodes.post_order refl
    (only_node shape reading case x c.requires.one tells) (length nodes - 1) (let one = c.requires.one in omega (arith, one)))
