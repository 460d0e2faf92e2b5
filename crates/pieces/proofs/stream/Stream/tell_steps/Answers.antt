use Rattle.std.proofs.Common.{inr, ◌∙◌}
use Rattle.std.proofs.lemmas.Result.{on_ok_weaker}
use Rattle.rational.specs.Time.{◌<ʳ◌, add, whole}
use Rattle.rational.specs.Places.{AtMost}
use Rattle.rational.proofs.Lists.{on_err_anyway}
use Rattle.rational.proofs.Order.{le_refl, le_trans, lt_of_lt_of_le, not_lt_of_le}
use Rattle.rational.proofs.PlaceLemmas.{le_of_at_most}
use Rattle.rational.proofs.Shift.{le_shift}
use Rattle.frac128.specs.Value.{value}
use Rattle.frac128.specs.Cuts.{place}
use Rattle.pieces.specs.Chains.{Chain, stop}
use Rattle.pieces.specs.Hands.{TellsRest, far_place}
use Rattle.pieces.specs.Meeting.{HasMet, IsHeldFault}
use Rattle.pieces.specs.Streaming.{FollowsSteps, HasAll, before_time}
use Rattle.pieces.proofs.FollowedConstants.{follows_of_steps}
use Rattle.pieces.proofs.FollowedWindows.{at_climb, at_counts, at_ended, at_none, ends_hand, follows_on, next_narrow, rests_counts, rests_ended, rests_none}
use Rattle.pieces.proofs.FollowedWindows.{tells_climb, to_narrow, to_within, told_below}
use Rattle.pieces.proofs.FollowedWindows.{on_ok_three}
use Rattle.pieces.proofs.Hands.{tells_from}
use Rattle.pieces.proofs.BestEnd.{on_ok_two}
use Rattle.pieces.proofs.Refusals.{held_never, none_of_refused}
use Rattle.pieces.proofs.stream.Stream.tell_steps.Given.{Over}
use Rattle.pieces.proofs.stream.Stream.tell_steps.Goals.{In_ok-end_piece}
use Rattle.pieces.proofs.stream.Stream.tell_steps.Goals as goal

pub rest-requires-clause-rests : goal.rest-requires-clause-rests
rest-requires-clause-rests g c =
    let (s, known, all) = c.requires.all in
    let r = rests_none g.P.Shape s c.args.self.now (value c.args.to.now) known all c.requires.order c.in_default.is in
    (s, place c.args.self.now.met, r.0, r.1)

pub rest-requires-clause-within : goal.rest-requires-clause-within
rest-requires-clause-within g c =
    let (s, known, all) = c.requires.all in
    to_within g.P.Shape s c.args.self.now (value c.args.to.now) known all c.requires.order

pub returns-in_default-clause-told : goal.returns-in_default-clause-told
returns-in_default-clause-told g c s known all =
    let w = c.args.self.now in
    let to = value c.args.to.now in
    let met = place w.met in
    let r = rests_none g.P.Shape s w to known all c.requires.order c.in_default.is in
    let new = c.rest.new.window in
    on_ok_three c.rest.result (λ rested first ends. tells_from g.P.Shape (assumption g.met.P.Shape) s w.way known.can.rising met (far_place w.way (before_time to)) met
    w.sliding.out.from (before_time to) new rested.keeps first ends) (c.rest.ensures.told s met r.0 r.1)
    c.rest.ensures.from c.rest.ensures.ends

pub returns-in_default-clause-bases : goal.returns-in_default-clause-bases
returns-in_default-clause-bases g c s known all =
    let w = c.args.self.now in
    let r = rests_none g.P.Shape s w (value c.args.to.now) known all c.requires.order c.in_default.is in
    on_ok_weaker c.rest.result (λ rested. rested.plays.told) (c.rest.ensures.told s (place w.met) r.0 r.1)

pub returns-in_default-clause-at : goal.returns-in_default-clause-at
returns-in_default-clause-at g c s known all =
    let w = c.args.self.now in
    let to = value c.args.to.now in
    let r = rests_none g.P.Shape s w to known all c.requires.order c.in_default.is in
    on_ok_two c.rest.result (λ rested ends. at_none g.P.Shape s w to known all c.requires.order c.in_default.is c.rest.new.window rested ends)
    (c.rest.ensures.told s (place w.met) r.0 r.1) c.rest.ensures.ends

pub returns-in_default-clause-wide : goal.returns-in_default-clause-wide
returns-in_default-clause-wide g c s known all after =
    let w = c.args.self.now in
    let to = value c.args.to.now in
    let r = rests_none g.P.Shape s w to known all c.requires.order c.in_default.is in
    c.rest.ensures.wide s (place w.met) r.0 to r.1 (le_refl to) (le_of_at_most (before_time to) (stop s) all.inside)

pub returns-in_default-clause-one : goal.returns-in_default-clause-one
returns-in_default-clause-one g c s known all one =
    let w = c.args.self.now in
    c.rest.ensures.narrow (to_narrow g.P.Shape s w (value c.args.to.now) known all c.requires.order one (stop w.sliding.out) (follows_on g.P.Shape s w known))

-- the piece at hand
pub comes-requires : goal.comes-requires
comes-requires g c =
    let (s, known, all) = c.requires.all in
    (s, follows_of_steps g.P.Shape s c.args.self.now c.requires.range known)

pub end_piece-requires-clause-ends : goal.end_piece-requires-clause-ends
end_piece-requires-clause-ends g c =
    let (s, known, all) = c.requires.all in
    (s, ends_hand g.P.Shape s c.args.self.now (value c.args.to.now) known all c.requires.order c.in-Some.shape c.in-Some.is (c.comes.ensures.is c.if-comes.true))

pub returns-in_err-end_piece-clause-wide : goal.returns-in_err-end_piece-clause-wide
returns-in_err-end_piece-clause-wide g c s known all after =
    let w = c.args.self.now in
    let to = value c.args.to.now in
    let comes = c.comes.ensures.is c.if-comes.true in
    on_err_anyway c.from_residual.result (c.in_err-end_piece.ensures.wide s to
    (ends_hand g.P.Shape s w to known all c.requires.order c.in-Some.shape c.in-Some.is comes)
    (le_of_at_most (before_time to) (stop s) all.inside, inr (after, comes)))

pub returns-in_err-end_piece-clause-one : goal.returns-in_err-end_piece-clause-one
returns-in_err-end_piece-clause-one g c s known all one =
    let w = c.args.self.now in
    let to = value c.args.to.now in
    let met = (place w.met).at in
    let comes = c.comes.ensures.is c.if-comes.true in
    let later = lt_of_lt_of_le comes (le_shift w.way.over.high (le_of_at_most (before_time to) (stop s) all.inside)) in
    on_err_anyway c.from_residual.result (none_of_refused c.end_piece.new.fault (IsHeldFault g.P.Shape s w.way met)
    (c.in_err-end_piece.ensures.held s (ends_hand g.P.Shape s w to known all c.requires.order c.in-Some.shape c.in-Some.is comes)
    (next_narrow g.P.Shape s w (record { until = w.met; shape = c.in-Some.shape }) (stop s).at known one later))
    (held_never g.P.Shape s w.way met known.can.small one (le_of_at_most s.from (place w.met) known.begins)
    (le_of_at_most (place w.met) (stop s) known.ends) later))

-- once it has ended
module _ (g : Over) (c : In_ok-end_piece g) (s : Chain g.row.P.Denot) (known : FollowsSteps g.P.Shape s c.args.self.now)
    (all : HasAll g.P.Shape s c.args.self.now (value c.args.to.now)) where
  comes : (place c.args.self.now.met).at <ʳ add (value c.args.to.now) (whole c.args.self.now.way.over.high)
  comes = c.comes.ensures.is c.if-comes.true

  has_met : HasMet g.P.Shape s c.args.self.now.way (place c.args.self.now.met) c.end_piece.new.window
  has_met = c.in_ok-end_piece.ensures.met s (ends_hand g.P.Shape s c.args.self.now (value c.args.to.now) known all c.requires.order c.in-Some.shape c.in-Some.is comes)

  most : AtMost (stop c.end_piece.new.window.out) (before_time (value c.args.to.now))
  most = told_below c.args.self.now.way (place c.args.self.now.met) c.args.self.now.sliding c.end_piece.new.window (value c.args.to.now)
      c.in_ok-end_piece.ensures.upto c.requires.order comes

  rests : TellsRest g.P.Shape s c.args.self.now.way (place c.args.self.now.met) (place c.args.self.now.met) (before_time (value c.args.to.now))
      c.end_piece.new.window
  rests = rests_ended g.P.Shape s c.args.self.now (value c.args.to.now) known all c.requires.order c.in-Some.shape c.in-Some.is comes c.end_piece.new.window has_met most

pub rest-requires-then-comes-clause-rests : goal.rest-requires-then-comes-clause-rests
rest-requires-then-comes-clause-rests g c =
    let (s, known, all) = c.requires.all in
    let met = place c.args.self.now.met in
    (s, met, met, rests g (goal.at.rest-requires-then-comes-clause-rests g c).In_ok-end_piece s known all)

pub rest-requires-then-comes-clause-within : goal.rest-requires-then-comes-clause-within
rest-requires-then-comes-clause-within g c =
    let (s, known, all) = c.requires.all in
    to_within g.P.Shape s c.args.self.now (value c.args.to.now) known all c.requires.order

pub returns-then-comes-clause-told : goal.returns-then-comes-clause-told
returns-then-comes-clause-told g c s known all =
    let w = c.args.self.now in
    let to = value c.args.to.now in
    let met = place w.met in
    on_ok_three c.rest-then-comes.result (λ rested first ends. tells_from g.P.Shape (assumption g.met.P.Shape) s w.way known.can.rising met
    (far_place w.way (before_time to)) met w.sliding.out.from (before_time to) c.rest-then-comes.new.window rested.keeps
    (first ∙ c.in_ok-end_piece.ensures.from) ends)
    (c.rest-then-comes.ensures.told s met met (rests g (goal.at.returns-then-comes-clause-told g c).In_ok-end_piece s known all))
    c.rest-then-comes.ensures.from c.rest-then-comes.ensures.ends

pub returns-then-comes-clause-bases : goal.returns-then-comes-clause-bases
returns-then-comes-clause-bases g c s known all =
    let met = place c.args.self.now.met in
    on_ok_weaker c.rest-then-comes.result (λ rested. rested.plays.told)
    (c.rest-then-comes.ensures.told s met met (rests g (goal.at.returns-then-comes-clause-bases g c).In_ok-end_piece s known all))

pub returns-then-comes-clause-at : goal.returns-then-comes-clause-at
returns-then-comes-clause-at g c s known all =
    let w = c.args.self.now in
    let k = (goal.at.returns-then-comes-clause-at g c).In_ok-end_piece in
    on_ok_two c.rest-then-comes.result (λ rested ends. at_ended g.P.Shape s w (value c.args.to.now) known all c.requires.order c.in-Some.shape c.in-Some.is
    (comes g k s known all) c.end_piece.new.window c.rest-then-comes.new.window (has_met g k s known all) (most g k s known all) rested ends)
    (c.rest-then-comes.ensures.told s (place w.met) (place w.met) (rests g k s known all)) c.rest-then-comes.ensures.ends

pub returns-then-comes-clause-wide : goal.returns-then-comes-clause-wide
returns-then-comes-clause-wide g c s known all after =
    let to = value c.args.to.now in
    let met = place c.args.self.now.met in
    c.rest-then-comes.ensures.wide s met met to (rests g (goal.at.returns-then-comes-clause-wide g c).In_ok-end_piece s known all) (le_refl to)
    (le_of_at_most (before_time to) (stop s) all.inside)

pub returns-then-comes-clause-one : goal.returns-then-comes-clause-one
returns-then-comes-clause-one g c s known all one =
    let k = (goal.at.returns-then-comes-clause-one g c).In_ok-end_piece in
    c.rest-then-comes.ensures.narrow (to_narrow g.P.Shape s c.args.self.now (value c.args.to.now) known all c.requires.order one (stop c.end_piece.new.window.out)
    (has_met g k s known all).stands.on)

pub climb-requires-clause-climbs : goal.climb-requires-clause-climbs
climb-requires-clause-climbs g c =
    let (s, known, all) = c.requires.all in (
      s,
      tells_climb g.P.Shape s c.args.self.now (value c.args.to.now) known all c.requires.order c.in-Some.shape c.in-Some.is (c.comes.ensures.not c.if-comes.false)
          c.in-Greater.is,
    )

pub climb-requires-clause-within : goal.climb-requires-clause-within
climb-requires-clause-within g c =
    let (s, known, all) = c.requires.all in
    to_within g.P.Shape s c.args.self.now (value c.args.to.now) known all c.requires.order

pub returns-in-Greater-clause-told : goal.returns-in-Greater-clause-told
returns-in-Greater-clause-told g c s known all =
    let w = c.args.self.now in
    let to = value c.args.to.now in
    on_ok_three c.climb.result (λ climbed first ends. tells_from g.P.Shape (assumption g.met.P.Shape) s w.way known.can.rising climbed.hand.begin (place w.met)
    climbed.hand.begin w.sliding.out.from (before_time to) c.climb.new.window climbed.hand.keeps first ends)
    (c.climb.ensures.told s (tells_climb g.P.Shape s w to known all c.requires.order c.in-Some.shape c.in-Some.is (c.comes.ensures.not c.if-comes.false) c.in-Greater.is))
    c.climb.ensures.from c.climb.ensures.ends

pub returns-in-Greater-clause-bases : goal.returns-in-Greater-clause-bases
returns-in-Greater-clause-bases g c s known all = on_ok_weaker c.climb.result (λ climbed. climbed.plays.told)
    (c.climb.ensures.told s (tells_climb g.P.Shape s c.args.self.now (value c.args.to.now) known all c.requires.order c.in-Some.shape c.in-Some.is
    (c.comes.ensures.not c.if-comes.false) c.in-Greater.is))

pub returns-in-Greater-clause-at : goal.returns-in-Greater-clause-at
returns-in-Greater-clause-at g c s known all =
    let w = c.args.self.now in
    let to = value c.args.to.now in
    let later = c.comes.ensures.not c.if-comes.false in
    on_ok_two c.climb.result (λ climbed ends. at_climb g.P.Shape s w to known all c.requires.order c.in-Some.shape c.in-Some.is later c.in-Greater.is
    c.climb.new.window climbed ends)
    (c.climb.ensures.told s (tells_climb g.P.Shape s w to known all c.requires.order c.in-Some.shape c.in-Some.is later c.in-Greater.is)) c.climb.ensures.ends

pub returns-in-Greater-clause-wide : goal.returns-in-Greater-clause-wide
returns-in-Greater-clause-wide g c s known all after =
    let to = value c.args.to.now in
    c.climb.ensures.wide s to (tells_climb g.P.Shape s c.args.self.now to known all c.requires.order c.in-Some.shape c.in-Some.is (c.comes.ensures.not c.if-comes.false)
    c.in-Greater.is) (le_refl to) (le_of_at_most (before_time to) (stop s) all.inside)

pub returns-in-Greater-clause-one : goal.returns-in-Greater-clause-one
returns-in-Greater-clause-one g c s known all one =
    let w = c.args.self.now in
    c.climb.ensures.narrow (to_narrow g.P.Shape s w (value c.args.to.now) known all c.requires.order one (stop w.sliding.out) (follows_on g.P.Shape s w known))

pub rest-requires-in_default-trend-clause-rests : goal.rest-requires-in_default-trend-clause-rests
rest-requires-in_default-trend-clause-rests g c =
    let (s, known, all) = c.requires.all in
    let met = place c.args.self.now.met in (
      s,
      met,
      met,
      rests_counts g.P.Shape s c.args.self.now (value c.args.to.now) known all c.requires.order c.in-Some.shape c.in-Some.is
          (c.comes.ensures.not c.if-comes.false) c.in_default-trend.not-Greater,
    )

pub rest-requires-in_default-trend-clause-within : goal.rest-requires-in_default-trend-clause-within
rest-requires-in_default-trend-clause-within g c =
    let (s, known, all) = c.requires.all in
    to_within g.P.Shape s c.args.self.now (value c.args.to.now) known all c.requires.order

pub returns-in_default-trend-clause-told : goal.returns-in_default-trend-clause-told
returns-in_default-trend-clause-told g c s known all =
    let w = c.args.self.now in
    let to = value c.args.to.now in
    let met = place w.met in
    on_ok_three c.rest-in_default-trend.result (λ rested first ends. tells_from g.P.Shape (assumption g.met.P.Shape) s w.way known.can.rising met
    (far_place w.way (before_time to)) met w.sliding.out.from (before_time to) c.rest-in_default-trend.new.window rested.keeps first ends)
    (c.rest-in_default-trend.ensures.told s met met (rests_counts g.P.Shape s w to known all c.requires.order c.in-Some.shape c.in-Some.is
    (c.comes.ensures.not c.if-comes.false) c.in_default-trend.not-Greater))
    c.rest-in_default-trend.ensures.from c.rest-in_default-trend.ensures.ends

pub returns-in_default-trend-clause-bases : goal.returns-in_default-trend-clause-bases
returns-in_default-trend-clause-bases g c s known all =
    let w = c.args.self.now in
    let met = place w.met in
    on_ok_weaker c.rest-in_default-trend.result (λ rested. rested.plays.told)
    (c.rest-in_default-trend.ensures.told s met met (rests_counts g.P.Shape s w (value c.args.to.now) known all c.requires.order c.in-Some.shape c.in-Some.is
    (c.comes.ensures.not c.if-comes.false) c.in_default-trend.not-Greater))

pub returns-in_default-trend-clause-at : goal.returns-in_default-trend-clause-at
returns-in_default-trend-clause-at g c s known all =
    let w = c.args.self.now in
    let to = value c.args.to.now in
    let met = place w.met in
    let later = c.comes.ensures.not c.if-comes.false in
    let n = c.in_default-trend.not-Greater in
    on_ok_three c.rest-in_default-trend.result (λ rested first ends. at_counts g.P.Shape s w to known all c.requires.order c.in-Some.shape c.in-Some.is later n
    c.rest-in_default-trend.new.window rested first ends)
    (c.rest-in_default-trend.ensures.told s met met (rests_counts g.P.Shape s w to known all c.requires.order c.in-Some.shape c.in-Some.is later n))
    c.rest-in_default-trend.ensures.left c.rest-in_default-trend.ensures.ends

pub returns-in_default-trend-clause-wide : goal.returns-in_default-trend-clause-wide
returns-in_default-trend-clause-wide g c s known all after =
    let w = c.args.self.now in
    let to = value c.args.to.now in
    let met = place w.met in
    c.rest-in_default-trend.ensures.wide s met met to (rests_counts g.P.Shape s w to known all c.requires.order c.in-Some.shape c.in-Some.is
    (c.comes.ensures.not c.if-comes.false) c.in_default-trend.not-Greater) (le_refl to) (le_of_at_most (before_time to) (stop s) all.inside)

pub returns-in_default-trend-clause-one : goal.returns-in_default-trend-clause-one
returns-in_default-trend-clause-one g c s known all one =
    let w = c.args.self.now in
    c.rest-in_default-trend.ensures.narrow (to_narrow g.P.Shape s w (value c.args.to.now) known all c.requires.order one (stop w.sliding.out) (follows_on g.P.Shape s w known))

-- where it tells nothing nothing is refused
pub returns-in_default-clause-early : goal.returns-in_default-clause-early
returns-in_default-clause-early g c s known all first later =
    let w = c.args.self.now in
    c.rest.ensures.narrow (le_trans first (le_of_at_most s.from (stop w.sliding.out) (follows_on g.P.Shape s w known)))

pub returns-in_err-end_piece-clause-early : goal.returns-in_err-end_piece-clause-early
returns-in_err-end_piece-clause-early g c s known all first later = absurd (not_lt_of_le later (c.comes.ensures.is c.if-comes.true))

pub returns-then-comes-clause-early : goal.returns-then-comes-clause-early
returns-then-comes-clause-early g c s known all first later = absurd (not_lt_of_le later (c.comes.ensures.is c.if-comes.true))

pub returns-in-Greater-clause-early : goal.returns-in-Greater-clause-early
returns-in-Greater-clause-early g c s known all first later =
    let w = c.args.self.now in
    c.climb.ensures.narrow (le_trans first (le_of_at_most s.from (stop w.sliding.out) (follows_on g.P.Shape s w known)))

pub returns-in_default-trend-clause-early : goal.returns-in_default-trend-clause-early
returns-in_default-trend-clause-early g c s known all first later =
    let w = c.args.self.now in
    c.rest-in_default-trend.ensures.narrow (le_trans first (le_of_at_most s.from (stop w.sliding.out) (follows_on g.P.Shape s w known)))
