use Rattle.std.proofs.Common.{◌∙◌, sym, subst}
use Rattle.std.proofs.lemmas.Option.{IfSome_then}
use Rattle.rational.specs.Affine.{MeetAlone}
use Rattle.rational.proofs.Lists.{on_err_anyway}
use Rattle.frac128.specs.Value.{value}
use Rattle.pl_signal.specs.Building.{GoesOn}
use Rattle.pl_signal.specs.Joining.{TurnsOver}
use Rattle.pl_signal.specs.Knots.{stop}
use Rattle.pl_signal.proofs.JoiningLemmas.{joins_split, turn_first, turn_second}
use Rattle.pl_signal.proofs.builder.Builder.join_crossing.Goals as goal

pub crossing_kept-requires-clause-turned : goal.crossing_kept-requires-clause-turned
crossing_kept-requires-clause-turned g c =
    subst (λ s. TurnsOver (g.P.Shape.function c.args.p.now) (g.P.Shape.function c.args.q.now) s (value c.args.to.now)) (sym c.stop-from.ensures.value)
    c.requires.turned

pub returns-then-first-clause-ok : goal.returns-then-first-clause-ok
returns-then-first-clause-ok g c side turn =
    let meet = subst (λ s. MeetAlone (g.P.Shape.function c.args.p.now) (g.P.Shape.function c.args.q.now) s (value c.args.to.now)
    (value c.in_ok-middle.middle)) c.stop-from.ensures.value c.in_ok-middle.ensures.met in
    let (half, on, on') = subst (λ ks. (half : _)
    × GoesOn g.P.Shape ks c.args.p.now c.in_ok-middle.middle c.args.p.now half
    × GoesOn g.P.Shape half c.args.q.now c.args.to.now c.args.point.now c.put_two.new.knots.items)
    (c.reserve.ensures.items ∙ c.self.view_is) c.put_two.ensures in
    joins_split g.P.Shape side c.args.self.now c.args.p.now c.args.q.now c.args.point.now c.args.to.now
    (turn_first g.P.Shape side c.args.p.now c.args.q.now (stop c.args.self.now) (value c.args.to.now) c.in_ok-middle.middle c.args.first c.if-first.true
    turn meet) on on'

pub returns-clause-ok : goal.returns-clause-ok
returns-clause-ok g c side turn =
    let meet = subst (λ s. MeetAlone (g.P.Shape.function c.args.p.now) (g.P.Shape.function c.args.q.now) s (value c.args.to.now)
    (value c.in_ok-middle.middle)) c.stop-from.ensures.value c.in_ok-middle.ensures.met in
    let (half, on, on') = subst (λ ks. (half : _)
    × GoesOn g.P.Shape ks c.args.q.now c.in_ok-middle.middle c.args.q.now half
    × GoesOn g.P.Shape half c.args.p.now c.args.to.now c.args.point.now c.put_two-2.new.knots.items)
    (c.reserve.ensures.items ∙ c.self.view_is) c.put_two-2.ensures in
    joins_split g.P.Shape side c.args.self.now c.args.p.now c.args.q.now c.args.point.now c.args.to.now
    (turn_second g.P.Shape side c.args.p.now c.args.q.now (stop c.args.self.now) (value c.args.to.now) c.in_ok-middle.middle c.args.first c.if-first.false
    turn meet) on on'

pub returns-in_err-middle-clause-wide : goal.returns-in_err-middle-clause-wide
returns-in_err-middle-clause-wide g c = on_err_anyway c.from_residual.result
    (IfSome_then c.crossing_kept.new.fault c.in_err-middle.ensures.wide (λ pair h. (c.stop-from.result, c.stop-from.ensures.value, h)))
