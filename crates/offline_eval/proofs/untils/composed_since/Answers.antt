use Rattle.std.proofs.Common.{◌≤◌, ℕ, Some, arith}
use Rattle.std.proofs.lemmas.Result.{IfOk-weaker, IfErr-weaker}
use Rattle.rational.proofs.Order.{same_trans, same_sym}
use Rattle.stl_syntax.specs.Limits.{reach_of_bound}
use Rattle.offline_eval.specs.Forms.{IsClosed, of_pieces}
use Rattle.offline_eval.specs.Making.{IsFit, MayMeet}
use Rattle.offline_eval.proofs.Forms.{closed_told, pieces_laws, same_starts, same_stops}
use Rattle.offline_eval.proofs.Pointwise.{ok_both, err_same, least_of_bounded}
use Rattle.offline_eval.proofs.Sound.{limited_along, stay_sound}
use Rattle.offline_eval.proofs.WindowLemmas.{before_end, sup_over_bounded, inf_over_bounded, behind_from, in_order, reach_of_order}
use Rattle.offline_eval.proofs.UntilLemmas.{from_start_fit, composed_moved, has_from_start, since_in, since_within_fault}
use Rattle.offline_eval.proofs.UntilLemmas.{from_start_fault, since_kept_fault, since_least_fault}
use Rattle.offline_eval.proofs.untils.composed_since.Given.{Over}
use Rattle.offline_eval.proofs.untils.composed_since.Goals.{In_ok-within, In_ok-from_start, In_ok-kept}
use Rattle.offline_eval.proofs.untils.composed_since.Goals as goal

-- what the parts ask and give
small_within : (g : Over) (c : In_ok-within g) → IsClosed g.P.Shape c.in_ok-within.within
small_within g c =
    let closed = c.requires.fit.right.limited in
    limited_along (pieces_laws g.P.Shape) _ c.args.y.now c.in_ok-within.within closed
    (closed_told g.P.Shape _ c.args.y.now c.in_ok-within.within closed c.in_ok-within.ensures.worth)
    (λ t v s. sup_over_bounded (pieces_laws g.P.Shape) c.args.y.now _ v g.met.P.Shape.lowest_bounded closed s)

fits : (g : Over) (c : In_ok-from_start g) → IsFit (of_pieces g.P.Shape) c.in_ok-from_start.from_start
fits g c =
    let made = c.in_ok-from_start.from_start in
    from_start_fit (pieces_laws g.P.Shape) (assumption g.met.P.Shape) c.args.x.now c.args.y.now made c.requires.fit
    (closed_told g.P.Shape _ c.args.x.now made c.requires.fit.left.limited c.in_ok-from_start.ensures.worth) c.in_ok-from_start.ensures.bases

small_kept : (g : Over) (c : In_ok-kept g) → IsClosed g.P.Shape c.in_ok-kept.kept
small_kept g c =
    let made = c.in_ok-from_start.from_start in
    let closed = (fits g (goal.at.In_ok-kept g c).In_ok-from_start).limited in
    limited_along (pieces_laws g.P.Shape) _ made c.in_ok-kept.kept closed
    (closed_told g.P.Shape _ made c.in_ok-kept.kept closed c.in_ok-kept.ensures.worth)
    (λ t v s. inf_over_bounded (pieces_laws g.P.Shape) made _ v g.met.P.Shape.highest_bounded closed s)

-- both windows go over one domain
over_one : (g : Over) (c : In_ok-kept g) → MayMeet (of_pieces g.P.Shape) c.in_ok-within.within c.in_ok-kept.kept
over_one g c =
    let at = goal.at.In_ok-kept g c in
    let within = c.in_ok-within.ensures.worth in let made = c.in_ok-from_start.ensures.worth in let kept = c.in_ok-kept.ensures.worth in record {
      left = small_within g at.In_ok-within;
      right = small_kept g c;
      begins = same_trans within.begins.0 (same_trans (same_sym c.requires.fit.begins) (same_sym (same_trans kept.begins.0 made.begins.0)));
      ends = same_trans within.ends.0 (same_trans (same_sym c.requires.fit.ends) (same_sym (same_trans kept.ends.0 made.ends.0)));
    }

pub sup_behind-requires-clause-limited : goal.sup_behind-requires-clause-limited
sup_behind-requires-clause-limited g c = c.requires.fit.right.limited.limited

pub sup_behind-requires-clause-near : goal.sup_behind-requires-clause-near
sup_behind-requires-clause-near g c = c.requires.fit.right.near

pub sup_behind-requires-clause-first : goal.sup_behind-requires-clause-first
sup_behind-requires-clause-first g c = c.requires.fit.right.first

pub sup_behind-requires-clause-last : goal.sup_behind-requires-clause-last
sup_behind-requires-clause-last g c = before_end c.requires.fit.right.last

pub sup_behind-requires-clause-order : goal.sup_behind-requires-clause-order
sup_behind-requires-clause-order g c = in_order c.args.low c.args.high c.requires.order

pub since_from_start-requires : goal.since_from_start-requires
since_from_start-requires g c =
    let fit = c.requires.fit in record {
      left = fit.left.limited.limited;
      right = fit.right.limited.limited;
      begins = same_starts g.P.Shape c.args.x.now c.args.y.now fit.left.limited fit.right.limited fit.begins;
      ends = same_stops g.P.Shape c.args.x.now c.args.y.now fit.left.limited fit.right.limited fit.ends;
    }

pub inf_behind-requires-clause-limited : goal.inf_behind-requires-clause-limited
inf_behind-requires-clause-limited g c = (fits g (goal.at.inf_behind-requires-clause-limited g c).In_ok-from_start).limited.limited

pub inf_behind-requires-clause-near : goal.inf_behind-requires-clause-near
inf_behind-requires-clause-near g c = (fits g (goal.at.inf_behind-requires-clause-near g c).In_ok-from_start).near

pub inf_behind-requires-clause-first : goal.inf_behind-requires-clause-first
inf_behind-requires-clause-first g c = (fits g (goal.at.inf_behind-requires-clause-first g c).In_ok-from_start).first

pub inf_behind-requires-clause-last : goal.inf_behind-requires-clause-last
inf_behind-requires-clause-last g c = before_end (fits g (goal.at.inf_behind-requires-clause-last g c).In_ok-from_start).last

pub lower-requires : goal.lower-requires
lower-requires g c =
    let meet = over_one g (goal.at.lower-requires g c).In_ok-kept in record {
      left = meet.left.limited;
      right = meet.right.limited;
      begins = same_starts g.P.Shape c.in_ok-within.within c.in_ok-kept.kept meet.left meet.right meet.begins;
      ends = same_stops g.P.Shape c.in_ok-within.within c.in_ok-kept.kept meet.left meet.right meet.ends;
    }

pub returns-in_err-within-clause-wide : goal.returns-in_err-within-clause-wide
returns-in_err-within-clause-wide g c = err_same c.from_residual.result c.in_err-within.field-0.0 _ c.from_residual.ensures.1
    (λ s p q ends left right. since_within_fault (pieces_laws g.P.Shape) s p q ends c.args.x.now c.args.y.now left right c.args.x.now c.args.low c.args.high
    c.in_err-within.field-0.0 c.in_err-within.ensures.wide)

pub returns-in_err-from_start-clause-wide : goal.returns-in_err-from_start-clause-wide
returns-in_err-from_start-clause-wide g c =
    err_same c.from_residual-in_err-from_start.result c.in_err-from_start.field-0.0 _ c.from_residual-in_err-from_start.ensures.1
    (λ s p q ends left right. from_start_fault (pieces_laws g.P.Shape) c.args.x.now c.args.y.now p q c.args.low c.args.high s c.in_err-from_start.field-0.0
    ends.lowest ends.highest left right c.in_err-from_start.ensures.wide)

pub returns-in_err-kept-clause-wide : goal.returns-in_err-kept-clause-wide
returns-in_err-kept-clause-wide g c =
    let made = c.in_ok-from_start.from_start in
    let told = closed_told g.P.Shape _ c.args.x.now made c.requires.fit.left.limited c.in_ok-from_start.ensures.worth in
    err_same c.from_residual-in_err-kept.result c.in_err-kept.field-0.0 _ c.from_residual-in_err-kept.ensures.1
    (λ s p q ends left right. since_kept_fault (pieces_laws g.P.Shape) s p q ends c.args.x.now c.args.y.now left right made c.args.low c.args.high
    c.in_err-kept.field-0.0 told c.in_err-kept.ensures.wide)

pub returns-clause-sound : goal.returns-clause-sound
returns-clause-sound g c =
    let meet = over_one g (goal.at.returns-clause-sound g c).In_ok-kept in let own = (reach_of_bound c.args.low c.args.high) in
    let within = c.in_ok-within.within in let made = c.in_ok-from_start.from_start in let kept = c.in_ok-kept.kept in
    let begins = same_trans c.in_ok-within.ensures.worth.begins.0 (same_sym c.requires.fit.begins) in
    let ends = same_trans c.in_ok-within.ensures.worth.ends.0 (same_sym c.requires.fit.ends) in
    ok_both c.lower.result c.lower.ensures.worth c.lower.ensures.shapes
    (λ r worth shapes. stay_sound (of_pieces g.P.Shape) (assumption g.met.P.Shape) own c.args.x.now c.args.y.now r (record {
      begins = same_trans worth.begins.0 begins;
      ends = same_trans worth.ends.0 ends;
      limited = limited_along (pieces_laws g.P.Shape) _ within r meet.left (closed_told g.P.Shape _ within r meet.left worth)
          (least_of_bounded (pieces_laws g.P.Shape) within kept meet.left meet.right);
      moved = composed_moved (of_pieces g.P.Shape) c.args.low own c.args.x.now c.args.y.now within made kept r (record {
        order = reach_of_order c.args.low c.args.high c.requires.order;
        within = behind_from (of_pieces g.P.Shape) c.args.low c.args.high c.args.y.now within c.requires.order c.in_ok-within.ensures.bases;
        both = c.in_ok-from_start.ensures.bases;
        kept = behind_from (of_pieces g.P.Shape) 0 (Some c.args.low) made kept (from_zero c.args.low) c.in_ok-kept.ensures.bases;
        shapes = shapes;
      });
    }))
  where
    from_zero : (n : ℕ) → 0 ≤ n
    from_zero n = omega arith

pub returns-clause-told : goal.returns-clause-told
returns-clause-told g c =
    let at = goal.at.returns-clause-told g c in
    let within = c.in_ok-within.within in let made = c.in_ok-from_start.from_start in let kept = c.in_ok-kept.kept in
    let first = closed_told g.P.Shape _ c.args.y.now within c.requires.fit.right.limited c.in_ok-within.ensures.worth in
    let second = closed_told g.P.Shape _ c.args.x.now made c.requires.fit.left.limited c.in_ok-from_start.ensures.worth in
    let third = closed_told g.P.Shape _ made kept (fits g at.In_ok-from_start).limited c.in_ok-kept.ensures.worth in
    IfOk-weaker c.lower.result _ _
    (λ r worth s p q ends left right. since_in (pieces_laws g.P.Shape) s p q ends c.args.x.now c.args.y.now left right made
    c.args.low c.args.high within kept r (in_order c.args.low c.args.high c.requires.order) first second third
    (closed_told g.P.Shape _ within r (small_within g at.In_ok-within) worth)
    (c.since_is_composed.ensures c.args.x.now c.args.y.now (has_from_start (pieces_laws g.P.Shape) c.args.x.now c.args.y.now made second)))
    c.lower.ensures.worth

pub returns-clause-wide : goal.returns-clause-wide
returns-clause-wide g c =
    let at = goal.at.returns-clause-wide g c in
    let within = c.in_ok-within.within in let made = c.in_ok-from_start.from_start in let kept = c.in_ok-kept.kept in
    let first = closed_told g.P.Shape _ c.args.y.now within c.requires.fit.right.limited c.in_ok-within.ensures.worth in
    let second = closed_told g.P.Shape _ c.args.x.now made c.requires.fit.left.limited c.in_ok-from_start.ensures.worth in
    let third = closed_told g.P.Shape _ made kept (fits g at.In_ok-from_start).limited c.in_ok-kept.ensures.worth in
    IfErr-weaker c.lower.result _ _
    (λ e cause s p q ends left right. since_least_fault (pieces_laws g.P.Shape) s p q ends c.args.x.now c.args.y.now left right made
    c.args.low c.args.high within kept e first second third cause) c.lower.ensures.cause
