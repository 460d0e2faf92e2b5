use Rattle.std.proofs.Common.{◌<◌, ◌≤◌, ◌^◌, ℕ, Bool, List, ap, arith, length, subst, sym, ◌∙◌}
use Rattle.std.proofs.lemmas.Result.{IfOk-weaker, on_ok_weaker}
use Rattle.value_laws.specs.Kinds.{kleene_shape}
use Rattle.stl_syntax.specs.Trace.{first_time}
use Rattle.offline_eval.specs.Forms.{of_pieces}
use Rattle.offline_eval.specs.Making.{AreSound, FaultOfNode, TellsNode}
use Rattle.pl_signal.specs.declared.faults.OpFault.TheVariants as F
use Rattle.stl_syntax.specs.declared.items.Item.{Item}
use Rattle.stl_syntax.proofs.FormulaLemmas.{below_later}
use Rattle.implicants.specs.Upward.{HasBest, HasBestIn, IsGround}
use Rattle.implicants.proofs.LostAbove.{IsMadeOf, child_not_atom, is_so, kids_best, node_best, node_never_wide, some_then}
use Rattle.implicants.proofs.Wholes.{whole_made, whole_sound}
use Rattle.implicants.proofs.upward.taken_on.Goals as goal
use Rattle.implicants.proofs.upward.taken_on.Goals.{After-put_lost}

pub of_node-requires-clause-order : goal.of_node-requires-clause-order
of_node-requires-clause-order c = subst (λ n. n ≤ c.last-to.result) (sym c.first-from.ensures) c.last-to.ensures.later

pub of_node-requires-clause-kind : goal.of_node-requires-clause-kind
of_node-requires-clause-kind c = child_not_atom c.node-node.result.now c.args.k
    (c.beside_in-beside.ensures (is_so c.beside_in-beside.result.is_operand c.if-not-beside.false)).0

pub of_node-requires-clause-children : goal.of_node-requires-clause-children
of_node-requires-clause-children c =
    let inside = c.requires.inside in
    let count = c.put_other.ensures.count in
    let before = c.requires.chains.count in
    let same = ap length c.deref.ensures.value in
    below_later c.args.j (length c.deref.result.now) c.node-node.result.now (omega (arith, inside, count, before, same)) c.node-node.ensures.below

pub of_node-requires-clause-sound : goal.of_node-requires-clause-sound
of_node-requires-clause-sound c =
    subst (AreSound (of_pieces kleene_shape) c.first-from.result c.last-to.result 4294967295) (sym c.deref.ensures.value)
    (whole_sound c.args.trace.now c.put_other.new.done.items c.first-from.result c.last-to.result c.first-from.ensures c.last-to.ensures.last
    c.put_other.ensures.whole)

pub unreachable-requires : goal.unreachable-requires
unreachable-requires c =
    let from = c.first-from.result in
    let to = c.last-to.result in
    let n = c.node-node.result.now in
    let wide = subst (FaultOfNode (of_pieces kleene_shape) from to n c.deref.result.now) c.in-Err-Wide.field-0-is c.in-Err-Wide.ensures.wide in
    node_never_wide c.args.trace.now c.put_other.new.done.items from to n c.in-Err-Wide.field-0-0 c.put_other.ensures.whole c.first-from.ensures
    c.last-to.ensures.last (subst (λ xs. FaultOfNode (of_pieces kleene_shape) from to n xs (F.Wide c.in-Err-Wide.field-0-0)) c.deref.ensures.value wide)

pub put_other-requires : goal.put_other-requires
put_other-requires c = record {
  some = c.requires.some;
  signs = c.requires.runs.count ∙ sym c.requires.chains.count;
  runs = c.requires.runs.lists ∙ sym c.requires.chains.count;
  whole = c.requires.chains.whole;
}

pub put_lost-requires : goal.put_lost-requires
put_lost-requires c =
    let tr = c.args.trace.now in
    let late = subst (λ n. n < 2 ^ 32) c.last-to.ensures.last c.last-to.type_inv in
    let order = subst (λ n. first_time tr.rows ≤ n) c.last-to.ensures.last c.last-to.ensures.later in
    let sound = whole_sound tr c.put_other.new.done.items c.first-from.result c.last-to.result c.first-from.ensures c.last-to.ensures.last
    c.put_other.ensures.whole in
    record {
      some = c.requires.some;
      inside = c.requires.inside;
      runs = c.requires.runs;
      made = whole_made tr c.in-Ok.made c.first-from.result c.last-to.result _ c.first-from.ensures c.last-to.ensures.last order late c.len-2.ensures.normal
          (c.in-Ok.ensures.sound 4294967295
          (subst (AreSound (of_pieces kleene_shape) c.first-from.result c.last-to.result 4294967295) (sym c.deref.ensures.value) sound));
      chains = record { count = c.put_other.ensures.count ∙ c.requires.chains.count; whole = c.put_other.ensures.whole };
    }

pub returns-clause-chains : goal.returns-clause-chains
returns-clause-chains c = c.put_lost.ensures.chains

made_best : (c : After-put_lost) (all : List Item) (marks : List Bool) (i : ℕ)
    → IsGround c.args.formula.now.nodes c.args.trace.now all marks i c.args.ground.now.signs.items c.args.runs.now
    → HasBestIn kleene_shape c.args.formula.now.nodes c.args.trace.now all marks i c.args.ground.now.signs.items c.args.k c.args.done.now.items
    → HasBest kleene_shape c.args.formula.now.nodes c.args.trace.now all marks i c.args.ground.now.signs.items c.args.j c.in-Ok.made
made_best c all marks i ground before =
    let nodes = c.args.formula.now.nodes in
    let tr = c.args.trace.now in
    let signs = c.args.ground.now.signs.items in
    let n = c.node-node.result.now in
    let new = c.put_other.new.done.items in
    let operands = c.beside_in-beside.ensures (is_so c.beside_in-beside.result.is_operand c.if-not-beside.false) in
    let inside = c.requires.inside in
    let count = c.requires.chains.count in
    let more = c.put_other.ensures.count in
    let kids = kids_best nodes tr all marks i signs n c.args.j c.args.k c.beside_in-beside.result.other c.args.done.now.items new operands
    c.node-node.ensures.below (omega (arith, inside, count)) before c.put_other.ensures.stay
    (λ m is l. c.in_ok-put_other.ensures.best m is l nodes all marks i ground.lost) in
    let made : IsMadeOf nodes tr signs c.args.j n new = record {
      at = c.node-node.ensures.node;
      below = c.node-node.ensures.below;
      other = child_not_atom n c.args.k operands.0;
      signed = ground.signed.each c.args.j n c.node-node.ensures.node;
      long = omega (arith, inside, count, more);
      whole = c.put_other.ensures.whole;
    } in
    node_best nodes tr all marks i signs c.first-from.result c.last-to.result c.in-Ok.made c.first-from.ensures c.last-to.ensures.last made kids
    (subst (λ xs. TellsNode (of_pieces kleene_shape) c.first-from.result c.last-to.result n xs c.in-Ok.made) c.deref.ensures.value c.in-Ok.ensures.told)

pub returns-clause-best : goal.returns-clause-best
returns-clause-best c = IfOk-weaker c.put_lost.result _ _ (λ o best. some_then o _ _
    (λ has all marks i ground before. has c.args.formula.now.nodes all marks i ground.lost
    (made_best (goal.at.returns-clause-best c).After-put_lost all marks i ground before)) best) c.put_lost.ensures.best

pub returns-clause-gained : goal.returns-clause-gained
returns-clause-gained c = on_ok_weaker c.put_lost.result
    (λ has all marks i ground before old. has c.args.formula.now.nodes all marks i ground.lost
    (made_best (goal.at.returns-clause-gained c).After-put_lost all marks i ground before) old)
    c.put_lost.ensures.gained

pub first-from-requires : goal.first-from-requires
first-from-requires c = c.requires.some

pub last-to-requires : goal.last-to-requires
last-to-requires c = c.requires.some

pub node-node-requires : goal.node-node-requires
node-node-requires c = c.requires.inside
