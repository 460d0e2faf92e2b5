use Rattle.std.proofs.Common.{length, sym, subst}
use Rattle.stl_syntax.specs.Formula.{HasChildrenBelow}
use Rattle.offline_eval.specs.Forms.{of_pieces}
use Rattle.offline_eval.specs.Making.{AreSound, NodeStaysSound, TellsNode}
use Rattle.offline_eval.proofs.root.of_next.Goals as goal

pub of_node-requires : goal.of_node-requires
of_node-requires g c = record {
  order = c.requires.order;
  kind = c.requires.kind;
  bounds = c.requires.bounds;
  children = subst (λ xs. HasChildrenBelow (length xs) c.args.node.now) (sym c.deref.ensures.value) c.requires.children;
  sound = subst (AreSound (of_pieces g.P.Shape) c.args.from c.args.to 4294967295) (sym c.deref.ensures.value) c.requires.sound;
}

pub returns-in_ok-of_negation-in-Not-clause-sound : goal.returns-in_ok-of_negation-in-Not-clause-sound
returns-in_ok-of_negation-in-Not-clause-sound g c =
    subst (λ n. NodeStaysSound (of_pieces g.P.Shape) c.args.from c.args.to n c.args.done.now.items c.in_ok-of_negation-in-Not.field-0) (sym c.in-Not.is)
    c.in_ok-of_negation-in-Not.ensures.sound

pub returns-in_ok-of_negation-in-Not-clause-told : goal.returns-in_ok-of_negation-in-Not-clause-told
returns-in_ok-of_negation-in-Not-clause-told g c =
    subst (λ n. TellsNode (of_pieces g.P.Shape) c.args.from c.args.to n c.args.done.now.items c.in_ok-of_negation-in-Not.field-0) (sym c.in-Not.is)
    c.in_ok-of_negation-in-Not.ensures.told
