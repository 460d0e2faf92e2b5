use Rattle.std.proofs.Common.{◌≡◌, refl, sym, ◌∙◌, arith, true, false}
use Rattle.std.proofs.lemmas.Result.{on_ok_weaker}
use Rattle.stl_syntax.specs.Formula.{subformula}
use Rattle.stl_syntax.specs.Print.{has_two}
use Rattle.stl_syntax.specs.Printing.{operands_of}
use Rattle.stl_syntax.specs.declared.operator.Operands.TheVariants.{Nothing, One, Two}
use Rattle.stl_syntax.proofs.PrintLemmas.{shows, three_pieces, five_pieces}
use Rattle.stl_syntax.proofs.print.+print.Goals as goal

pub put_node-put_operand-requires : goal.put_node-put_operand-requires
put_node-put_operand-requires t c =
    let w = shows c.args.scale c.args.nodes.now c.args.place c.index-nodes-place.result c.operands.result (One c.in-One.of) c.requires.nodes c.requires.place
    c.index-nodes-place.is c.operands.ensures c.in-One.is in
    (omega (arith, w.before, c.decreases), (omega (arith, w.before, c.requires.place), (c.requires.nodes, c.requires.scale)))

pub put_node-put_operand-requires-in-Two : goal.put_node-put_operand-requires-in-Two
put_node-put_operand-requires-in-Two t c =
    let w = shows c.args.scale c.args.nodes.now c.args.place c.index-nodes-place.result c.operands.result
    (Two c.in-Two.left c.in-Two.right) c.requires.nodes c.requires.place
    c.index-nodes-place.is c.operands.ensures c.in-Two.is in
    (omega (arith, w.before.0, c.decreases), (omega (arith, w.before.0, c.requires.place), (c.requires.nodes, c.requires.scale)))

pub put_node-put_operand-requires-in-Two-2 : goal.put_node-put_operand-requires-in-Two-2
put_node-put_operand-requires-in-Two-2 t c =
    let w = shows c.args.scale c.args.nodes.now c.args.place c.index-nodes-place.result c.operands.result
    (Two c.in-Two.left c.in-Two.right) c.requires.nodes c.requires.place
    c.index-nodes-place.is c.operands.ensures c.in-Two.is in
    (omega (arith, w.before.1, c.decreases), (omega (arith, w.before.1, c.requires.place), (c.requires.nodes, c.requires.scale)))

pub put_node-returns-in-Nothing : goal.put_node-returns-in-Nothing
put_node-returns-in-Nothing t c =
    let w = shows c.args.scale c.args.nodes.now c.args.place c.index-nodes-place.result c.operands.result Nothing c.requires.nodes c.requires.place
    c.index-nodes-place.is c.operands.ensures c.in-Nothing.is in
    rw w.text c.put_leaf.ensures

pub put_node-returns-in_ok-push-in-One : goal.put_node-returns-in_ok-push-in-One
put_node-returns-in_ok-push-in-One t c =
    let w = shows c.args.scale c.args.nodes.now c.args.place c.index-nodes-place.result c.operands.result (One c.in-One.of) c.requires.nodes c.requires.place
    c.index-nodes-place.is c.operands.ensures c.in-One.is in
    rw w.text (on_ok_weaker c.put_operand.result
    (three_pieces _ _ _ _ _ _ _ c.in_ok-put_operator-in-One.ensures c.in_ok-push-in-One.ensures.ok) c.put_operand.ensures)

pub put_node-returns-in_ok-push-in-Two-2 : goal.put_node-returns-in_ok-push-in-Two-2
put_node-returns-in_ok-push-in-Two-2 t c =
    let w = shows c.args.scale c.args.nodes.now c.args.place c.index-nodes-place.result c.operands.result
    (Two c.in-Two.left c.in-Two.right) c.requires.nodes c.requires.place
    c.index-nodes-place.is c.operands.ensures c.in-Two.is in
    rw w.text (on_ok_weaker c.put_operand-in-Two-2.result
    (five_pieces _ _ _ _ _ _ c.in_ok-put_operand-in-Two.ensures c.in_ok-push-in-Two.ensures.ok
    c.in_ok-put_operator-in-Two.ensures c.in_ok-push-in-Two-2.ensures.ok)
    c.put_operand-in-Two-2.ensures)

pub put_operand-returns-then-not-has_two_operands : goal.put_operand-returns-then-not-has_two_operands
put_operand-returns-then-not-has_two_operands t c =
    let w = shows c.args.scale c.args.nodes.now c.args.place c.index-nodes-place.result (operands_of c.index-nodes-place.result)
    (operands_of c.index-nodes-place.result)
    c.requires.nodes c.requires.place c.index-nodes-place.is refl refl in
    let two : has_two (subformula c.args.nodes.now c.args.place) ≡ false = w.two ∙ sym c.has_two_operands.ensures ∙ c.if-not-has_two_operands.true in
    rw two c.put_node.ensures

pub put_operand-returns : goal.put_operand-returns
put_operand-returns t c =
    let w = shows c.args.scale c.args.nodes.now c.args.place c.index-nodes-place.result (operands_of c.index-nodes-place.result)
    (operands_of c.index-nodes-place.result)
    c.requires.nodes c.requires.place c.index-nodes-place.is refl refl in
    let two : has_two (subformula c.args.nodes.now c.args.place) ≡ true = w.two ∙ sym c.has_two_operands.ensures ∙ c.if-not-has_two_operands.false in
    rw two (on_ok_weaker c.push-2.result (three_pieces _ _ _ _ _ _ _ c.in_ok-push.ensures.ok c.in_ok-put_node.ensures) c.push-2.ensures.ok)
