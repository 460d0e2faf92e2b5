use Rattle.std.proofs.Common.{◌≡◌, ◌∙◌, ap, sym, arith}
use Rattle.std.proofs.lemmas.Option.{same_Some}
use Rattle.stl_syntax.specs.Formula.{atom, subformula, tree_of}
use Rattle.stl_syntax.specs.Trace.{first_time, last_time}
use Rattle.stl_syntax.specs.declared.node.Node.TheVariants.{Atom as Leaf}
use Rattle.whole_answers.specs.Answering.{setting_of}
use Rattle.whole_answers.proofs.CaseSignals.{atom_input, atom_tells, over_ends}
use Rattle.whole_answers.proofs.signals.push_atom.Goals as goal

pub give-requires : goal.give-requires
give-requires g c = c.requires.atom

pub returns-in-Ok-clause-after : goal.returns-in-Ok-clause-after
returns-in-Ok-clause-after g c =
    let shape = g.P.Shape in
    let reading = g.P.AtomShape.reading in
    let case = c.args.case.now in
    let nodes = case.formula.nodes in
    let i = c.args.i in
    let a = c.requires.atom.0 in
    let at = c.requires.atom.1 in
    let rows = c.rows.ensures.trace (let e = c.rows.ensures.count in let some = c.requires.some in omega arith) in
    let node : c.node.result.now ≡ Leaf a = same_Some _ _ (sym c.node.ensures.node ∙ at) in
    let sub : subformula nodes i ≡ atom i a = c.node.ensures.subformula ∙ ap (tree_of (subformula nodes) i) node in
    let from = first_time case.trace.rows in
    let to = last_time 0 case.trace.rows in
    let before = c.requires.before in
    record {
      stands = c.in-Ok.ensures.stands from to (atom_input shape reading case i c.args.chain c.requires.chain) before.stands;
      told = c.in-Ok.ensures.told from to (setting_of shape reading case.trace) (over_ends shape reading case) before.stands
          (atom_tells shape reading case i a c.args.chain at sub c.requires.bound rows c.requires.chain) before.told;
    }
