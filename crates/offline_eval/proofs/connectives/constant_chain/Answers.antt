use Rattle.std.proofs.Common.{arith}
use Rattle.std.proofs.lemmas.Result.{IfOk-weaker}
use Rattle.offline_eval.proofs.Forms.{pieces_laws}
use Rattle.offline_eval.proofs.Pointwise.{ok_both}
use Rattle.offline_eval.proofs.Steady.{steady_sound, told_constant, extreme_bounded}
use Rattle.offline_eval.proofs.connectives.constant_chain.Goals as goal

pub returns-clause-sound : goal.returns-clause-sound
returns-clause-sound g c = ok_both c.steady.result c.steady.ensures.worth c.steady.ensures.shapes
    (λ r worth shapes. steady_sound (pieces_laws g.P.Shape) c.args.from c.args.to r c.extreme.result c.requires (omega arith) worth shapes
    (g.met.P.Shape.base_of_others c.extreme.result c.extreme.ensures.still)
    (extreme_bounded (g.P.Shape.function c.extreme.result) g.P.Shape.lowest g.P.Shape.highest c.args.holds g.met.P.Shape.lowest_bounded
    g.met.P.Shape.highest_bounded c.extreme.ensures.value))

pub returns-clause-told : goal.returns-clause-told
returns-clause-told g c = IfOk-weaker c.steady.result _ _
    (λ r worth. told_constant (pieces_laws g.P.Shape) c.args.from c.args.to c.args.holds c.extreme.result r worth c.extreme.ensures.value)
    c.steady.ensures.worth
