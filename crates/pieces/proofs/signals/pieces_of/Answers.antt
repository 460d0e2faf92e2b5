use Rattle.std.proofs.Common.{◌≡◌, inl, inr, [], ◌-◌, ◌^◌, Some, sym, ◌∙◌, ap, subst, arith}
use Rattle.std.specs.Prelude.{slice_get}
use Rattle.rational.specs.Places.{Before, Same}
use Rattle.rational.proofs.Order.{same_refl, same_sym}
use Rattle.rational.proofs.Mixed.{within_same}
use Rattle.frac128.specs.Value.{value}
use Rattle.frac128.specs.Cuts.{place}
use Rattle.pl_signal.specs.Knots as knots
use Rattle.pl_signal.proofs.Limits.{limited_start, limited_stop, worth_bounded}
use Rattle.pl_signal.proofs.Values.{some_is, worth_at, worth_between, worth_within, next_rises, shape_at, shape_after}
use Rattle.pl_signal.proofs.Telling as so_far
use Rattle.pl_signal.proofs.Moving.{limited_at, first_is, last_of}
use Rattle.pieces.specs.Chains.{HasShape, Tells, stop}
use Rattle.pieces.specs.Knots.{before, after}
use Rattle.pieces.proofs.Ends.{same_place}
use Rattle.pieces.proofs.BuildingLemmas.{chain_of}
use Rattle.pieces.proofs.ChainsTell.{tells_none, told}
use Rattle.pieces.proofs.KnotLemmas.{tells_knot, ends_knot, just_later, tells_last}
use Rattle.pieces.proofs.signals.pieces_of.Given.{Over}
use Rattle.pieces.proofs.signals.pieces_of.Goals.{After-knot_in_place-end, In_ok-put}
use Rattle.pieces.proofs.signals.pieces_of.Goals as goal

pub loop-i-init : goal.loop-i-init
loop-i-init g c =
    let e : c.in_ok-built.built ≡ chain_of (before (knots.start c.args.signal.now)) [] =
    c.in_ok-built.ensures ∙ ap (λ t. chain_of (before t) []) c.start.ensures.value in
    let first = first_is g.P.Shape c.args.signal.now c.len-last.ensures.signal.some in
    record {
      tells = tells_none g.P.Shape (knots.IsWorth g.P.Shape c.args.signal.now) (before (knots.start c.args.signal.now)) c.in_ok-built.built e;
      begins = ap (λ x. x.from) e;
      ends = λ k at. subst (λ x. Same (stop x) (before (knots.time k))) (sym e)
          (subst (λ t. Same (before (knots.start c.args.signal.now)) (before t)) (first.2 ∙ ap (λ k. knots.time k) (some_is (sym first.1 ∙ at)))
          (same_place (before (knots.start c.args.signal.now))));
      shapes = λ p h. absurd (subst (λ x. HasShape x p) e h);
    }

pub put_knot-requires-clause-begins : goal.put_knot-requires-clause-begins
put_knot-requires-clause-begins g c = c.loop-i.invariant.ends c.knot_in_place-knot.result.now c.knot_in_place-knot.ensures

pub put_knot-requires-clause-from_within : goal.put_knot-requires-clause-from_within
put_knot-requires-clause-from_within g c =
    limited_at g.P.Shape c.args.signal.now c.loop-i.i c.knot_in_place-knot.result.now c.requires c.knot_in_place-knot.ensures

pub put_knot-requires-clause-order : goal.put_knot-requires-clause-order
put_knot-requires-clause-order g c =
    next_rises g.P.Shape c.args.signal.now c.loop-i.i c.knot_in_place-knot.result.now c.knot_in_place-next.result.now c.len-last.ensures.signal.each
    c.knot_in_place-knot.ensures c.knot_in_place-next.ensures

pub loop-i-preserved : goal.loop-i-preserved
loop-i-preserved g c =
    let on = c.in_ok-put_knot.ensures in
    let ends = ends_knot g.P.Shape c.knot_in_place-knot.result.now c.knot_in_place-next.result.now.time on in
    record {
      tells = tells_knot g.P.Shape (knots.IsWorth g.P.Shape c.args.signal.now) c.knot_in_place-knot.result.now c.knot_in_place-next.result.now.time
          (so_far.worth_is_function g.P.Shape c.args.signal.now c.len-last.ensures.signal) c.loop-i.invariant.tells
          (c.loop-i.invariant.ends c.knot_in_place-knot.result.now c.knot_in_place-knot.ensures)
          (worth_at g.P.Shape c.args.signal.now c.loop-i.i c.knot_in_place-knot.result.now (value c.knot_in_place-knot.result.now.time)
          c.knot_in_place-knot.ensures (same_refl (value c.knot_in_place-knot.result.now.time)))
          (λ t a u. worth_between g.P.Shape c.args.signal.now c.loop-i.i c.knot_in_place-knot.result.now c.knot_in_place-next.result.now t
          c.knot_in_place-knot.ensures c.knot_in_place-next.ensures a u) on;
      begins = ends.1 ∙ c.loop-i.invariant.begins;
      ends = λ k at. subst (λ s. Same s (before (knots.time k))) (sym ends.0)
          (subst (λ n. Same (before (value c.knot_in_place-next.result.now.time)) (before (knots.time n))) (some_is (sym c.knot_in_place-next.ensures ∙ at))
          (same_place (before (value c.knot_in_place-next.result.now.time))));
      shapes = λ p h. elim (ends.2 p h) [
        | inl x ↦ c.loop-i.invariant.shapes p x
        | inr x ↦ elim x [
          | inl y ↦ subst (λ s. knots.HasShape c.args.signal.now s) (sym y)
              (shape_at g.P.Shape c.args.signal.now c.loop-i.i c.knot_in_place-knot.result.now c.knot_in_place-knot.ensures)
          | inr y ↦ subst (λ s. knots.HasShape c.args.signal.now s) (sym y)
              (shape_after g.P.Shape c.args.signal.now c.loop-i.i c.knot_in_place-knot.result.now c.knot_in_place-knot.ensures)
        ]
      ];
    }

-- where the chain stands before the last knot
last_ends : (g : Over) (c : After-knot_in_place-end g) → Same (stop c.loop-i.built) (before (knots.time c.knot_in_place-end.result.now))
last_ends g c =
    let all : c.len-last.result - 1 ≡ c.loop-i.i = let done = c.loop-i-test.false in let most = c.loop-i.auto.i-end in omega arith in
    c.loop-i.invariant.ends c.knot_in_place-end.result.now
    (subst (λ n. slice_get c.args.signal.now n ≡ Some c.knot_in_place-end.result.now) all c.knot_in_place-end.ensures)

pub put-requires-clause-limited : goal.put-requires-clause-limited
put-requires-clause-limited g c =
    within_same (2 ^ 34) (same_sym (last_ends g (goal.at.put-requires-clause-limited g c).After-knot_in_place-end).0)
    (limited_at g.P.Shape c.args.signal.now (c.len-last.result - 1) c.knot_in_place-end.result.now c.requires c.knot_in_place-end.ensures)

pub put-requires-clause-later : goal.put-requires-clause-later
put-requires-clause-later g c = subst (λ u. Before (stop c.loop-i.built) (place u)) (sym c.just_after.ensures)
    (just_later (stop c.loop-i.built) (knots.time c.knot_in_place-end.result.now)
    (last_ends g (goal.at.put-requires-clause-later g c).After-knot_in_place-end))

-- the chain tells the signal
tells_signal : (g : Over) (c : In_ok-put g) → Tells g.P.Shape (knots.IsWorth g.P.Shape c.args.signal.now) (before (knots.start c.args.signal.now))
    (after (knots.stop c.args.signal.now)) c.put.new.self
tells_signal g c =
    let on = c.in_ok-put.ensures.ok in
    let is = so_far.worth_is_function g.P.Shape c.args.signal.now c.len-last.ensures.signal in
    let last = last_of g.P.Shape c.args.signal.now c.len-last.result c.len-last.ensures.signal.some c.len-last.ensures.value in
    let same = some_is (sym c.knot_in_place-end.ensures ∙ last.1) in
    let stops = last.2 ∙ ap (λ k. knots.time k) (sym same) in
    told g.P.Shape (knots.IsWorth g.P.Shape c.args.signal.now) (before (knots.start c.args.signal.now)) (after (knots.stop c.args.signal.now)) c.put.new.self is
    (tells_last g.P.Shape (knots.IsWorth g.P.Shape c.args.signal.now) c.knot_in_place-end.result.now c.just_after.result c.just_after.ensures is
    c.loop-i.invariant.tells (last_ends g (goal.at.In_ok-put g c).After-knot_in_place-end)
    (worth_at g.P.Shape c.args.signal.now (c.len-last.result - 1) c.knot_in_place-end.result.now (knots.time c.knot_in_place-end.result.now)
    c.knot_in_place-end.ensures (same_refl (knots.time c.knot_in_place-end.result.now))) on)
    (subst (λ s. Same s (before (knots.start c.args.signal.now))) (sym (on.begins ∙ c.loop-i.invariant.begins))
    (same_place (before (knots.start c.args.signal.now))))
    (subst (λ s. Same s (after (knots.stop c.args.signal.now))) (sym (on.ends ∙ ap (λ u. place u) c.just_after.ensures))
    (subst (λ t. Same (after (knots.time c.knot_in_place-end.result.now)) (after t)) (sym stops)
    (same_place (after (knots.time c.knot_in_place-end.result.now)))))

pub returns-clause-worth : goal.returns-clause-worth
returns-clause-worth g c = tells_signal g (goal.at.returns-clause-worth g c).In_ok-put

pub returns-clause-alike : goal.returns-clause-alike
returns-clause-alike g c t v =
    let worth = (tells_signal g (goal.at.returns-clause-alike g c).In_ok-put).worth t v in (
      λ w. (worth.0 w).2,
      λ w. let i = worth_within g.P.Shape c.args.signal.now t v c.len-last.ensures.signal w in worth.1 (i.above, i.below, w),
    )

pub returns-clause-limited : goal.returns-clause-limited
returns-clause-limited g c =
    let tells = tells_signal g (goal.at.returns-clause-limited g c).In_ok-put in
    let signal = c.len-last.ensures.signal in
    record {
      begins = within_same (2 ^ 34) (same_sym tells.begins.0) (limited_start g.P.Shape c.args.signal.now signal c.requires);
      ends = within_same (2 ^ 34) (same_sym tells.ends.0) (limited_stop g.P.Shape c.args.signal.now signal c.requires);
      values = λ t v w. worth_bounded g.P.Shape c.args.signal.now c.requires t v ((tells.worth t v).0 w).2;
    }

pub returns-clause-shapes : goal.returns-clause-shapes
returns-clause-shapes g c = λ p h. elim (c.in_ok-put.ensures.ok.shapes p h) [
  | inl x ↦ c.loop-i.invariant.shapes p x
  | inr x ↦ subst (λ s. knots.HasShape c.args.signal.now s) (sym x)
      (shape_at g.P.Shape c.args.signal.now (c.len-last.result - 1) c.knot_in_place-end.result.now c.knot_in_place-end.ensures)
]
