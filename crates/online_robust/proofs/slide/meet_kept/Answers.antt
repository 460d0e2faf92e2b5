use Rattle.std.proofs.Common.{Some, subst}
use Rattle.online_robust.specs.Held.{Held}
use Rattle.online_robust.specs.Slides.{Course, IsKeptBelow, IsOnWay}
use Rattle.online_robust.proofs.SlideMeets.{kept_comes, kept_refused, met_kept}
use Rattle.online_robust.proofs.SlideInput.{follows_kept, kept_next}
use Rattle.online_robust.proofs.slide.meet_kept.Goals.{In-Some}
use Rattle.online_robust.proofs.slide.meet_kept.Goals as goal

-- the point that is kept
there : (c : In-Some) (x : Course) (e : Held) → IsOnWay x c.args.stream.now c.args.kept.now e
    → IsOnWay x c.args.stream.now (Some c.in-Some.piece) e
there c x e on = subst (λ k. IsOnWay x c.args.stream.now k e) c.in-Some.is on

below : (c : In-Some) (x : Course) → IsKeptBelow x c.args.stream.now c.args.kept.now → IsKeptBelow x c.args.stream.now (Some c.in-Some.piece)
below c x h = subst (λ k. IsKeptBelow x c.args.stream.now k) c.in-Some.is h

pub meet-requires-clause-next : goal.meet-requires-clause-next
meet-requires-clause-next c =
    let (x, e, on, kept) = c.requires.can in
    let k = (goal.at.meet-requires-clause-next c).In-Some in
    let here = there k x e on in (
      _,
      follows_kept x c.args.stream.now e c.in-Some.piece here,
      kept_next x c.args.stream.now e c.in-Some.piece here
          (kept_comes x c.args.stream.now here.way (below k x kept)),
    )

pub returns-in-Some-clause-on : goal.returns-in-Some-clause-on
returns-in-Some-clause-on c x e on kept =
    let k = (goal.at.returns-in-Some-clause-on c).In-Some in
    let here = there k x e on in
    met_kept x c.args.stream.now e c.in-Some.piece here (kept_comes x c.args.stream.now here.way (below k x kept)) c.meet.result c.meet.new.self
    c.meet.ensures.way c.meet.ensures.met c.meet.ensures.follows c.meet.ensures.upto

pub returns-in-Some-clause-wide : goal.returns-in-Some-clause-wide
returns-in-Some-clause-wide c x e on kept =
    let k = (goal.at.returns-in-Some-clause-wide c).In-Some in
    let here = there k x e on in
    kept_refused x c.args.stream.now e c.in-Some.piece here (kept_comes x c.args.stream.now here.way (below k x kept)) c.meet.result c.meet.new.fault
    c.meet.ensures.wide c.meet.ensures.first c.meet.ensures.one

pub returns-in-None-clause-on : goal.returns-in-None-clause-on
returns-in-None-clause-on c x e on kept = subst (λ k. IsOnWay x c.args.stream.now k e) c.in-None.is on
