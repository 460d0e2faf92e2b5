use Rattle.std.proofs.Common.{◌≡◌, ◌∙◌, ◌+◌, sym, ap, subst, Some, arith}
use Rattle.std.specs.Prelude.{slice_get}
use Rattle.std.proofs.lemmas.Result.{IfOk-weaker, IfErr-weaker}
use Rattle.stl_syntax.specs.declared.node.Node.TheVariants.{Atom as Leaf}
use Rattle.stl_syntax.specs.Formula.{subformula, tree_of, HasChildrenBelow}
use Rattle.stl_syntax.specs.Limits.{own_reach}
use Rattle.stl_syntax.specs.SupInf.{SupInf}
use Rattle.offline_eval.specs.Making.{IsSound, TellsValue, IsFaultOf}
use Rattle.offline_eval.specs.Places.{reach_before}
use Rattle.offline_eval.proofs.Places.{on_ok, atom_takes, other_takes, atom_told, first_sound, not_atom, sum_on}
use Rattle.offline_eval.proofs.SignalsAndChains.{chain_sound, chain_tells}
use Rattle.offline_eval.proofs.Sound.{sound_more}
use Rattle.offline_eval.specs.Forms.{of_pieces}
use Rattle.offline_eval.proofs.chains.next_chain.Goals as goal

pub take-signal-requires : goal.take-signal-requires
take-signal-requires g c = c.requires.left c.in-Atom.field-0 (c.node.ensures.node ∙ ap (λ n. Some n) c.in-Atom.is)

pub of_node-requires-clause-kind : goal.of_node-requires-clause-kind
of_node-requires-clause-kind g c = not_atom c.node.result.now c.in_default.not-Atom

pub of_node-requires-clause-children : goal.of_node-requires-clause-children
of_node-requires-clause-children g c = subst (λ i. HasChildrenBelow i c.node.result.now) (sym c.requires.place) c.node.ensures.below

pub pieces_of-requires : goal.pieces_of-requires
pieces_of-requires g c = (first_sound g.P.Shape c.args.from c.args.to c.take-signal.result c.args.atoms.now c.take-signal.new.self c.take-signal.ensures
    c.requires.inputs).limited

pub returns-in_ok-pieces_of-in-Atom : goal.returns-in_ok-pieces_of-in-Atom
returns-in_ok-pieces_of-in-Atom g c =
    let nodes = c.args.formula.now.nodes in
    let i = c.args.i in
    let x = c.take-signal.result in
    let r = c.in_ok-pieces_of-in-Atom.field-0 in
    let here : slice_get nodes i ≡ Some (Leaf c.in-Atom.field-0) = c.node.ensures.node ∙ ap (λ n. Some n) c.in-Atom.is in
    let sound = chain_sound g.P.Shape c.args.from c.args.to 0 x r
    (first_sound g.P.Shape c.args.from c.args.to x c.args.atoms.now c.take-signal.new.self c.take-signal.ensures c.requires.inputs)
    c.in_ok-pieces_of-in-Atom.ensures.worth c.in_ok-pieces_of-in-Atom.ensures.limited c.in_ok-pieces_of-in-Atom.ensures.shapes in
    record {
      rest = atom_takes nodes i c.in-Atom.field-0 x c.args.atoms.now c.take-signal.new.self here c.take-signal.ensures;
      sound = λ all. sound_more (of_pieces g.P.Shape) c.args.from c.args.to 0 (reach_before nodes (i + 1)) r (omega arith) sound;
      told = λ s at all over left atoms agree before. chain_tells g.P.Shape (SupInf (subformula nodes i) s) s.from s.to x r
          (atom_told g.P.Shape nodes i c.in-Atom.field-0 c.args.atoms.now all s here
          (c.node.ensures.subformula ∙ ap (tree_of (subformula nodes) i) c.in-Atom.is) c.take-signal.ensures left atoms)
          c.in_ok-pieces_of-in-Atom.ensures.worth;
      wide = tt;
    }

pub returns-in_default : goal.returns-in_default
returns-in_default g c =
    let nodes = c.args.formula.now.nodes in
    let n = c.node.result.now in
    let f = g.P.Shape.function in
    record {
      rest = on_ok c.of_node.result (other_takes nodes c.args.i n c.args.atoms.now c.node.ensures.node (not_atom n c.in_default.not-Atom));
      sound = IfOk-weaker c.of_node.result _ _
          (λ r h all. subst (λ k. IsSound (of_pieces g.P.Shape) c.args.from c.args.to k r) (sym (sum_on own_reach nodes c.args.i n c.node.ensures.node))
          (h (reach_before nodes c.args.i) all)) c.of_node.ensures.sound;
      told = IfOk-weaker c.of_node.result _ _
          (λ r h s at all over left atoms agree before. subst (λ t. TellsValue (of_pieces g.P.Shape) s t r) (agree n c.node.ensures.node
          ∙ sym c.node.ensures.subformula)
          (h s at c.args.i over before)) c.of_node.ensures.told;
      wide = IfErr-weaker c.of_node.result _ _
          (λ e h s at over agree before. subst (λ t. IsFaultOf g.P.Shape s t e) (agree n c.node.ensures.node ∙ sym c.node.ensures.subformula)
          (h s at c.args.i over before))
          c.of_node.ensures.wide;
    }
