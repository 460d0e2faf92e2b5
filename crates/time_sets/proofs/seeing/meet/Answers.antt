use Rattle.std.proofs.Common.{refl}
use Rattle.std.proofs.lemmas.Bool.{false≢true}
use Rattle.rational.specs.Places.{Before}
use Rattle.rational.proofs.PlaceLemmas.{at_most_of_not_before, before_of_at_most, before_through, before_trans}
use Rattle.time_sets.specs.Parts.{over}
use Rattle.time_sets.specs.Turns.{place}
use Rattle.time_sets.proofs.ReachLemmas.{IsLater, IsEarlier, share_times, meet_can, meet_adds, meet_nothing}
use Rattle.time_sets.proofs.seeing.meet.Goals as goal
use Rattle.time_sets.proofs.seeing.meet.Goals.{After-ending-to}

is_from : (c : After-ending-to) → IsLater c.args.run.now.from.now c.args.part.now.from.now c.later-from.result.now
is_from c = record { one = c.later-from.ensures.one; first = c.later-from.ensures.first; second = c.later-from.ensures.second }

is_to : (c : After-ending-to) → IsEarlier c.args.run.now.to.now c.args.part.now.to.now c.ending-to.result.now
is_to c = record { one = c.ending-to.ensures.one; first = c.ending-to.ensures.first; second = c.ending-to.ensures.second }

shares : (c : After-ending-to) → Before (place c.later-from.result.now) (place c.ending-to.result.now)
shares c = share_times (over c.args.run.now) (over c.args.part.now) c.later-from.result.now c.ending-to.result.now (is_from c) (is_to c)
    c.requires.run.order c.requires.part.order
    (c.precedes.ensures.0 c.if-not-precedes.false) (c.precedes-2.ensures.0 c.if-not-precedes-2.false)

pub returns-then-not-precedes-clause-adds : goal.returns-then-not-precedes-clause-adds
returns-then-not-precedes-clause-adds c = meet_nothing c.args.on.now (over c.args.run.now) (over c.args.part.now) c.args.w.now c.args.last c.args.made.now
    (λ u a b x y. let e = c.precedes.ensures.1 (before_through (place c.args.run.now.from.now) (place c.args.part.now.to.now) u a y) in
    let f = c.if-not-precedes.true in cc) c.requires.made

pub returns-then-not-precedes-clause-done : goal.returns-then-not-precedes-clause-done
returns-then-not-precedes-clause-done c = (
  (λ e. absurd (false≢true e)),
  (λ b. let e = c.precedes.ensures.1 (before_trans (place c.args.run.now.from.now) (place c.args.run.now.to.now) (place c.args.part.now.to.now)
      c.requires.run.order b) in
      let f = c.if-not-precedes.true in cc),
)

pub returns-then-not-precedes-2-clause-adds : goal.returns-then-not-precedes-2-clause-adds
returns-then-not-precedes-2-clause-adds c = meet_nothing c.args.on.now (over c.args.run.now) (over c.args.part.now) c.args.w.now c.args.last c.args.made.now
    (λ u a b x y. let e = c.precedes-2.ensures.1 (before_through (place c.args.part.now.from.now) (place c.args.run.now.to.now) u x b) in
    let f = c.if-not-precedes-2.true in cc) c.requires.made

pub returns-then-not-precedes-2-clause-done : goal.returns-then-not-precedes-2-clause-done
returns-then-not-precedes-2-clause-done c = (
  (λ e. before_of_at_most (place c.args.run.now.to.now) (place c.args.part.now.from.now) (place c.args.part.now.to.now)
      (at_most_of_not_before (place c.args.run.now.to.now) (place c.args.part.now.from.now)
      (λ b. let e = c.precedes-2.ensures.1 b in let f = c.if-not-precedes-2.true in cc)) c.requires.part.order),
  (λ b. refl),
)

pub add-requires : goal.add-requires
add-requires c =
    let at = (goal.at.add-requires c).After-ending-to in
    meet_can c.args.on.now (over c.args.run.now) (over c.args.part.now) c.args.w.now c.later-from.result.now c.ending-to.result.now c.first-first.result
    c.last-until.result c.later-begin.result.now c.earlier-end.result.now c.requires.room (is_from at) (is_to at) c.first-first.ensures c.last-until.ensures
    (record { one = c.later-begin.ensures.one; first = c.later-begin.ensures.first; second = c.later-begin.ensures.second })
    (record { one = c.earlier-end.ensures.one; first = c.earlier-end.ensures.first; second = c.earlier-end.ensures.second })
    (shares at) c.args.last c.args.made.now c.requires.made

pub returns-clause-adds : goal.returns-clause-adds
returns-clause-adds c =
    let at = (goal.at.returns-clause-adds c).After-ending-to in
    meet_adds c.args.on.now (over c.args.run.now) (over c.args.part.now) c.args.w.now c.later-from.result.now c.ending-to.result.now c.first-first.result
    c.last-until.result c.later-begin.result.now c.earlier-end.result.now c.requires.room (is_from at) (is_to at) c.first-first.ensures c.last-until.ensures
    (record { one = c.later-begin.ensures.one; first = c.later-begin.ensures.first; second = c.later-begin.ensures.second })
    (record { one = c.earlier-end.ensures.one; first = c.earlier-end.ensures.first; second = c.earlier-end.ensures.second })
    (shares at) c.args.last c.in_ok-made_to.made_to c.args.made.now c.add.new.made c.in_ok-made_to.ensures
