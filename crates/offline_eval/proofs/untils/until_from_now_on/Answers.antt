use Rattle.std.proofs.lemmas.Result.{IfOk-weaker, IfErr-weaker}
use Rattle.offline_eval.specs.Forms.{of_pieces}
use Rattle.offline_eval.proofs.Forms.{closed_told, pieces_laws, same_starts, same_stops}
use Rattle.offline_eval.proofs.Pointwise.{ok_both}
use Rattle.offline_eval.proofs.Sound.{stay_sound, of_two_more}
use Rattle.offline_eval.proofs.UntilLemmas.{from_now_on_in, to_end_fit, to_end_fault}
use Rattle.offline_eval.proofs.untils.until_from_now_on.Goals as goal

pub until_to_end-requires : goal.until_to_end-requires
until_to_end-requires g c =
    let fit = c.requires.fit in record {
      left = fit.left.limited.limited;
      right = fit.right.limited.limited;
      begins = same_starts g.P.Shape c.args.x.now c.args.y.now fit.left.limited fit.right.limited fit.begins;
      ends = same_stops g.P.Shape c.args.x.now c.args.y.now fit.left.limited fit.right.limited fit.ends;
    }

pub returns-clause-sound : goal.returns-clause-sound
returns-clause-sound g c = ok_both c.until_to_end.result c.until_to_end.ensures.worth c.until_to_end.ensures.bases
    (λ r worth bases. stay_sound (of_pieces g.P.Shape) (assumption g.met.P.Shape) c.args.high c.args.x.now c.args.y.now r (record {
      begins = worth.begins.0;
      ends = worth.ends.0;
      limited = (to_end_fit (pieces_laws g.P.Shape) (assumption g.met.P.Shape) c.args.x.now c.args.y.now r c.requires.fit
          (closed_told g.P.Shape _ c.args.x.now r c.requires.fit.left.limited worth) bases).limited;
      moved = of_two_more (of_pieces g.P.Shape) (assumption g.met.P.Shape) c.args.high c.args.x.now c.args.y.now r bases;
    }))

pub returns-clause-told : goal.returns-clause-told
returns-clause-told g c = IfOk-weaker c.until_to_end.result _ _
    (λ r worth s p q ends left right. from_now_on_in (pieces_laws g.P.Shape) s p q ends c.args.x.now c.args.y.now left right c.args.high r c.requires.far
    (closed_told g.P.Shape _ c.args.x.now r c.requires.fit.left.limited worth)) c.until_to_end.ensures.worth

pub returns-clause-wide : goal.returns-clause-wide
returns-clause-wide g c = IfErr-weaker c.until_to_end.result _ _
    (λ e wide s p q ends left right. to_end_fault (pieces_laws g.P.Shape) c.args.x.now c.args.y.now p q 0 c.args.high s e ends.lowest ends.highest
    left right wide) c.until_to_end.ensures.wide
