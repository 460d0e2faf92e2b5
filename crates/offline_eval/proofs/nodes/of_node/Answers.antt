use Rattle.std.proofs.Common.{sym, subst, arith}
use Rattle.stl_syntax.specs.Formula.{tree_of}
use Rattle.offline_eval.specs.Making.{TellsValue}
use Rattle.offline_eval.proofs.Sound.{sound_more}
use Rattle.offline_eval.proofs.NodeLemmas.{none_sound}
use Rattle.offline_eval.specs.Forms.{of_pieces}
use Rattle.offline_eval.proofs.nodes.of_node.Goals as goal

pub returns-in_ok-constant_chain-in-Const : goal.returns-in_ok-constant_chain-in-Const
returns-in_ok-constant_chain-in-Const g c =
    let r = c.in_ok-constant_chain-in-Const.field-0 in
    record {
      sound = none_sound (of_pieces g.P.Shape) c.args.from c.args.to c.args.node.now c.args.done.now r
          (λ reach. sound_more (of_pieces g.P.Shape) c.args.from c.args.to 0 reach r (omega arith) c.in_ok-constant_chain-in-Const.ensures.sound);
      told = λ s at i over all. subst (λ n. TellsValue (of_pieces g.P.Shape) s (tree_of at i n) r) (sym c.in-Const.is)
          (c.in_ok-constant_chain-in-Const.ensures.told s over);
      wide = tt;
    }
