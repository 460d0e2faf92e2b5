use Rattle.std.proofs.lemmas.Result.{IfOk-weaker, IfErr-weaker}
use Rattle.stl_syntax.specs.Limits.{reach_of_bound}
use Rattle.offline_eval.specs.Forms.{of_pieces}
use Rattle.offline_eval.proofs.Forms.{closed_told, pieces_laws, same_starts, same_stops}
use Rattle.offline_eval.proofs.Pointwise.{ok_both}
use Rattle.offline_eval.proofs.Sound.{stay_sound, of_two_more}
use Rattle.offline_eval.proofs.UntilLemmas.{so_far_in, from_start_fit, from_start_fault}
use Rattle.offline_eval.proofs.untils.since_so_far.Goals as goal

pub since_from_start-requires : goal.since_from_start-requires
since_from_start-requires g c =
    let fit = c.requires.fit in record {
      left = fit.left.limited.limited;
      right = fit.right.limited.limited;
      begins = same_starts g.P.Shape c.args.x.now c.args.y.now fit.left.limited fit.right.limited fit.begins;
      ends = same_stops g.P.Shape c.args.x.now c.args.y.now fit.left.limited fit.right.limited fit.ends;
    }

pub returns-clause-sound : goal.returns-clause-sound
returns-clause-sound g c = ok_both c.since_from_start.result c.since_from_start.ensures.worth c.since_from_start.ensures.bases
    (λ r worth bases. stay_sound (of_pieces g.P.Shape) (assumption g.met.P.Shape) (reach_of_bound 0 c.args.high) c.args.x.now c.args.y.now r (record {
      begins = worth.begins.0;
      ends = worth.ends.0;
      limited = (from_start_fit (pieces_laws g.P.Shape) (assumption g.met.P.Shape) c.args.x.now c.args.y.now r c.requires.fit
          (closed_told g.P.Shape _ c.args.x.now r c.requires.fit.left.limited worth) bases).limited;
      moved = of_two_more (of_pieces g.P.Shape) (assumption g.met.P.Shape) (reach_of_bound 0 c.args.high) c.args.x.now c.args.y.now r bases;
    }))

pub returns-clause-told : goal.returns-clause-told
returns-clause-told g c = IfOk-weaker c.since_from_start.result _ _
    (λ r worth s p q ends left right. so_far_in (pieces_laws g.P.Shape) s p q ends c.args.x.now c.args.y.now left right c.args.high r c.requires.far
    (closed_told g.P.Shape _ c.args.x.now r c.requires.fit.left.limited worth)) c.since_from_start.ensures.worth

pub returns-clause-wide : goal.returns-clause-wide
returns-clause-wide g c = IfErr-weaker c.since_from_start.result _ _
    (λ e wide s p q ends left right. from_start_fault (pieces_laws g.P.Shape) c.args.x.now c.args.y.now p q 0 c.args.high s e ends.lowest ends.highest
    left right wide) c.since_from_start.ensures.wide
