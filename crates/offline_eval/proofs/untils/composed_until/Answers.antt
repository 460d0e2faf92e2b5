use Rattle.std.proofs.Common.{◌≤◌, ℕ, arith}
use Rattle.std.proofs.lemmas.Result.{IfOk-weaker, IfErr-weaker}
use Rattle.rational.proofs.Order.{same_trans, same_sym}
use Rattle.offline_eval.specs.Forms.{IsClosed, of_pieces}
use Rattle.offline_eval.specs.Making.{IsFit, MayMeet}
use Rattle.offline_eval.proofs.Forms.{closed_told, pieces_laws, same_starts, same_stops}
use Rattle.offline_eval.proofs.Pointwise.{ok_both, err_same, least_of_bounded}
use Rattle.offline_eval.proofs.Sound.{limited_along, stay_sound}
use Rattle.offline_eval.proofs.WindowLemmas.{before_end, sup_over_bounded, inf_over_bounded, ahead_from}
use Rattle.offline_eval.proofs.UntilLemmas.{to_end_fit, composed_moved, has_to_end, until_in, until_within_fault}
use Rattle.offline_eval.proofs.UntilLemmas.{to_end_fault, until_kept_fault, until_least_fault}
use Rattle.offline_eval.proofs.untils.composed_until.Given.{Over}
use Rattle.offline_eval.proofs.untils.composed_until.Goals.{In_ok-within, In_ok-to_end, In_ok-kept}
use Rattle.offline_eval.proofs.untils.composed_until.Goals as goal

-- what the parts ask and give
small_within : (g : Over) (c : In_ok-within g) → IsClosed g.P.Shape c.in_ok-within.within
small_within g c =
    let closed = c.requires.fit.right.limited in
    limited_along (pieces_laws g.P.Shape) _ c.args.y.now c.in_ok-within.within closed
    (closed_told g.P.Shape _ c.args.y.now c.in_ok-within.within closed c.in_ok-within.ensures.worth)
    (λ t v s. sup_over_bounded (pieces_laws g.P.Shape) c.args.y.now _ v g.met.P.Shape.lowest_bounded closed s)

fits : (g : Over) (c : In_ok-to_end g) → IsFit (of_pieces g.P.Shape) c.in_ok-to_end.to_end
fits g c =
    let made = c.in_ok-to_end.to_end in
    to_end_fit (pieces_laws g.P.Shape) (assumption g.met.P.Shape) c.args.x.now c.args.y.now made c.requires.fit
    (closed_told g.P.Shape _ c.args.x.now made c.requires.fit.left.limited c.in_ok-to_end.ensures.worth) c.in_ok-to_end.ensures.bases

small_kept : (g : Over) (c : In_ok-kept g) → IsClosed g.P.Shape c.in_ok-kept.kept
small_kept g c =
    let made = c.in_ok-to_end.to_end in
    let closed = (fits g (goal.at.In_ok-kept g c).In_ok-to_end).limited in
    limited_along (pieces_laws g.P.Shape) _ made c.in_ok-kept.kept closed
    (closed_told g.P.Shape _ made c.in_ok-kept.kept closed c.in_ok-kept.ensures.worth)
    (λ t v s. inf_over_bounded (pieces_laws g.P.Shape) made _ v g.met.P.Shape.highest_bounded closed s)

-- both windows go over one domain
over_one : (g : Over) (c : In_ok-kept g) → MayMeet (of_pieces g.P.Shape) c.in_ok-within.within c.in_ok-kept.kept
over_one g c =
    let at = goal.at.In_ok-kept g c in
    let within = c.in_ok-within.ensures.worth in let made = c.in_ok-to_end.ensures.worth in let kept = c.in_ok-kept.ensures.worth in record {
      left = small_within g at.In_ok-within;
      right = small_kept g c;
      begins = same_trans within.begins.0 (same_trans (same_sym c.requires.fit.begins) (same_sym (same_trans kept.begins.0 made.begins.0)));
      ends = same_trans within.ends.0 (same_trans (same_sym c.requires.fit.ends) (same_sym (same_trans kept.ends.0 made.ends.0)));
    }

pub sup_ahead-requires-clause-limited : goal.sup_ahead-requires-clause-limited
sup_ahead-requires-clause-limited g c = c.requires.fit.right.limited.limited

pub sup_ahead-requires-clause-near : goal.sup_ahead-requires-clause-near
sup_ahead-requires-clause-near g c = c.requires.fit.right.near

pub sup_ahead-requires-clause-first : goal.sup_ahead-requires-clause-first
sup_ahead-requires-clause-first g c = c.requires.fit.right.first

pub sup_ahead-requires-clause-last : goal.sup_ahead-requires-clause-last
sup_ahead-requires-clause-last g c = before_end c.requires.fit.right.last

pub until_to_end-requires : goal.until_to_end-requires
until_to_end-requires g c =
    let fit = c.requires.fit in record {
      left = fit.left.limited.limited;
      right = fit.right.limited.limited;
      begins = same_starts g.P.Shape c.args.x.now c.args.y.now fit.left.limited fit.right.limited fit.begins;
      ends = same_stops g.P.Shape c.args.x.now c.args.y.now fit.left.limited fit.right.limited fit.ends;
    }

pub inf_ahead-requires-clause-limited : goal.inf_ahead-requires-clause-limited
inf_ahead-requires-clause-limited g c = (fits g (goal.at.inf_ahead-requires-clause-limited g c).In_ok-to_end).limited.limited

pub inf_ahead-requires-clause-near : goal.inf_ahead-requires-clause-near
inf_ahead-requires-clause-near g c = (fits g (goal.at.inf_ahead-requires-clause-near g c).In_ok-to_end).near

pub inf_ahead-requires-clause-first : goal.inf_ahead-requires-clause-first
inf_ahead-requires-clause-first g c = (fits g (goal.at.inf_ahead-requires-clause-first g c).In_ok-to_end).first

pub inf_ahead-requires-clause-last : goal.inf_ahead-requires-clause-last
inf_ahead-requires-clause-last g c = before_end (fits g (goal.at.inf_ahead-requires-clause-last g c).In_ok-to_end).last

pub lower-requires : goal.lower-requires
lower-requires g c =
    let meet = over_one g (goal.at.lower-requires g c).In_ok-kept in record {
      left = meet.left.limited;
      right = meet.right.limited;
      begins = same_starts g.P.Shape c.in_ok-within.within c.in_ok-kept.kept meet.left meet.right meet.begins;
      ends = same_stops g.P.Shape c.in_ok-within.within c.in_ok-kept.kept meet.left meet.right meet.ends;
    }

pub returns-in_err-within-clause-wide : goal.returns-in_err-within-clause-wide
returns-in_err-within-clause-wide g c = err_same c.from_residual.result c.in_err-within.field-0.0 _ c.from_residual.ensures.1
    (λ s p q ends left right. until_within_fault (pieces_laws g.P.Shape) s p q ends c.args.x.now c.args.y.now left right c.args.x.now c.args.low c.args.high
    c.in_err-within.field-0.0 c.in_err-within.ensures.wide)

pub returns-in_err-to_end-clause-wide : goal.returns-in_err-to_end-clause-wide
returns-in_err-to_end-clause-wide g c =
    err_same c.from_residual-in_err-to_end.result c.in_err-to_end.field-0.0 _ c.from_residual-in_err-to_end.ensures.1
    (λ s p q ends left right. to_end_fault (pieces_laws g.P.Shape) c.args.x.now c.args.y.now p q c.args.low c.args.high s c.in_err-to_end.field-0.0
    ends.lowest ends.highest left right c.in_err-to_end.ensures.wide)

pub returns-in_err-kept-clause-wide : goal.returns-in_err-kept-clause-wide
returns-in_err-kept-clause-wide g c =
    let made = c.in_ok-to_end.to_end in
    let told = closed_told g.P.Shape _ c.args.x.now made c.requires.fit.left.limited c.in_ok-to_end.ensures.worth in
    err_same c.from_residual-in_err-kept.result c.in_err-kept.field-0.0 _ c.from_residual-in_err-kept.ensures.1
    (λ s p q ends left right. until_kept_fault (pieces_laws g.P.Shape) s p q ends c.args.x.now c.args.y.now left right made c.args.low c.args.high
    c.in_err-kept.field-0.0 told c.in_err-kept.ensures.wide)

pub returns-clause-sound : goal.returns-clause-sound
returns-clause-sound g c =
    let meet = over_one g (goal.at.returns-clause-sound g c).In_ok-kept in let own = c.args.high in
    let within = c.in_ok-within.within in let made = c.in_ok-to_end.to_end in let kept = c.in_ok-kept.kept in
    let begins = same_trans c.in_ok-within.ensures.worth.begins.0 (same_sym c.requires.fit.begins) in
    let ends = same_trans c.in_ok-within.ensures.worth.ends.0 (same_sym c.requires.fit.ends) in
    ok_both c.lower.result c.lower.ensures.worth c.lower.ensures.shapes
    (λ r worth shapes. stay_sound (of_pieces g.P.Shape) (assumption g.met.P.Shape) own c.args.x.now c.args.y.now r (record {
      begins = same_trans worth.begins.0 begins;
      ends = same_trans worth.ends.0 ends;
      limited = limited_along (pieces_laws g.P.Shape) _ within r meet.left (closed_told g.P.Shape _ within r meet.left worth)
          (least_of_bounded (pieces_laws g.P.Shape) within kept meet.left meet.right);
      moved = composed_moved (of_pieces g.P.Shape) c.args.low own c.args.x.now c.args.y.now within made kept r (record {
        order = c.requires.order;
        within = ahead_from (of_pieces g.P.Shape) c.args.low c.args.high c.args.y.now within c.requires.order c.in_ok-within.ensures.bases;
        both = c.in_ok-to_end.ensures.bases;
        kept = ahead_from (of_pieces g.P.Shape) 0 c.args.low made kept (from_zero c.args.low) c.in_ok-kept.ensures.bases;
        shapes = shapes;
      });
    }))
  where
    from_zero : (n : ℕ) → 0 ≤ n
    from_zero n = omega arith

pub returns-clause-told : goal.returns-clause-told
returns-clause-told g c =
    let at = goal.at.returns-clause-told g c in
    let within = c.in_ok-within.within in let made = c.in_ok-to_end.to_end in let kept = c.in_ok-kept.kept in
    let first = closed_told g.P.Shape _ c.args.y.now within c.requires.fit.right.limited c.in_ok-within.ensures.worth in
    let second = closed_told g.P.Shape _ c.args.x.now made c.requires.fit.left.limited c.in_ok-to_end.ensures.worth in
    let third = closed_told g.P.Shape _ made kept (fits g at.In_ok-to_end).limited c.in_ok-kept.ensures.worth in
    IfOk-weaker c.lower.result _ _
    (λ r worth s p q ends left right. until_in (pieces_laws g.P.Shape) s p q ends c.args.x.now c.args.y.now left right made
    c.args.low c.args.high within kept r c.requires.order first second third
    (closed_told g.P.Shape _ within r (small_within g at.In_ok-within) worth)
    (c.until_is_composed.ensures c.args.x.now c.args.y.now (has_to_end (pieces_laws g.P.Shape) c.args.x.now c.args.y.now made second)))
    c.lower.ensures.worth

pub returns-clause-wide : goal.returns-clause-wide
returns-clause-wide g c =
    let at = goal.at.returns-clause-wide g c in
    let within = c.in_ok-within.within in let made = c.in_ok-to_end.to_end in let kept = c.in_ok-kept.kept in
    let first = closed_told g.P.Shape _ c.args.y.now within c.requires.fit.right.limited c.in_ok-within.ensures.worth in
    let second = closed_told g.P.Shape _ c.args.x.now made c.requires.fit.left.limited c.in_ok-to_end.ensures.worth in
    let third = closed_told g.P.Shape _ made kept (fits g at.In_ok-to_end).limited c.in_ok-kept.ensures.worth in
    IfErr-weaker c.lower.result _ _
    (λ e cause s p q ends left right. until_least_fault (pieces_laws g.P.Shape) s p q ends c.args.x.now c.args.y.now left right made
    c.args.low c.args.high within kept e first second third cause) c.lower.ensures.cause
