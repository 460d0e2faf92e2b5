use Rattle.std.proofs.Common.{sym, subst}
use Rattle.std.proofs.lemmas.Option.{IfSome_then}
use Rattle.std.proofs.lemmas.Result.{on_err_weaker, on_ok_weaker}
use Rattle.rational.specs.Places.{After}
use Rattle.rational.proofs.Lists.{on_err_anyway}
use Rattle.frac128.specs.Cuts.{place}
use Rattle.value_laws.specs.Members.{ShapeLaws}
use Rattle.pieces.specs.Chains.{end, stop}
use Rattle.pieces.specs.Meeting.{Passes}
use Rattle.pieces.proofs.PieceEnds.{ahead_here, below_here, met_next, rises_entered, stop_below}
use Rattle.pieces.proofs.BestEnd.{on_ok_two}
use Rattle.pieces.proofs.WindowGoesOn.{falls_off}
use Rattle.pieces.proofs.Refusals.{held_below}
use Rattle.pieces.proofs.window.meet_rising.Goals as goal

pub hold-requires-clause-met : goal.hold-requires-clause-met
hold-requires-clause-met g c =
    let (chain, known) = c.requires.met in
    (chain, place c.args.from.now, c.in_ok-tell_under.ensures.holds chain (place c.args.from.now) known c.if-branch.true)

pub returns-then-branch-clause-met : goal.returns-then-branch-clause-met
returns-then-branch-clause-met g c chain known =
    let from = place c.args.from.now in
    let held = c.in_ok-tell_under.ensures.holds chain from known c.if-branch.true in
    on_ok_two c.hold.result (λ stands plays. met_next known stands plays) (c.hold.ensures.stands chain from held) (c.hold.ensures.plays chain from held)

pub returns-then-branch-clause-falls : goal.returns-then-branch-clause-falls
returns-then-branch-clause-falls g c =
    let (chain, known) = c.requires.met in
    let from = place c.args.from.now in
    let last = end c.args.piece.now in
    let held = c.in_ok-tell_under.ensures.holds chain from known c.if-branch.true in
    on_ok_weaker c.hold.result (λ stands. falls_off g.P.Shape (assumption g.met.P.Shape) chain c.args.way.now known.met.can.rising last last last
    c.hold.new.window stands (λ t a u. held.entered t (subst (λ o. After (stop o) t) c.hold.ensures.out a) u)) (c.hold.ensures.stands chain from held)

pub returns-then-branch-clause-wide : goal.returns-then-branch-clause-wide
returns-then-branch-clause-wide g c chain known =
    let from = place c.args.from.now in
    let last = end c.args.piece.now in
    let held = c.in_ok-tell_under.ensures.holds chain from known c.if-branch.true in
    on_err_weaker c.hold.result (λ some. IfSome_then c.hold.new.fault some (held_below g.P.Shape chain c.args.way.now last.at (stop chain).at
    (stop_below g.P.Shape chain c.args.way.now last known.ahead))) (c.hold.ensures.wide chain from held)

pub enter-requires-clause-met : goal.enter-requires-clause-met
enter-requires-clause-met g c =
    let (chain, known) = c.requires.met in
    let kept = subst (λ w. Passes g.P.Shape chain c.args.way.now (place c.args.from.now) c.args.piece.now w)
    (sym (c.in_ok-tell_under.ensures.still c.if-branch.false)) known in
    (chain, kept.met, ahead_here kept)

pub rising-requires-clause-met : goal.rising-requires-clause-met
rising-requires-clause-met g c =
    let (chain, known) = c.requires.met in
    let kept = subst (λ w. Passes g.P.Shape chain c.args.way.now (place c.args.from.now) c.args.piece.now w)
    (sym (c.in_ok-tell_under.ensures.still c.if-branch.false)) known in (
      chain,
      place c.args.from.now,
      rises_entered kept (assumption g.met.P.Shape) (c.in_ok-enter.ensures.met chain kept.met (ahead_here kept)) (c.in_ok-enter.ensures.entered chain),
    )

pub returns-in_err-enter-clause-wide : goal.returns-in_err-enter-clause-wide
returns-in_err-enter-clause-wide g c chain known =
    let kept = subst (λ w. Passes g.P.Shape chain c.args.way.now (place c.args.from.now) c.args.piece.now w)
    (sym (c.in_ok-tell_under.ensures.still c.if-branch.false)) known in
    on_err_anyway c.from_residual-in_err-enter.result (c.in_err-enter.ensures.wide chain (stop chain).at kept.met (below_here kept))

pub returns-clause-met : goal.returns-clause-met
returns-clause-met g c chain known =
    let kept = subst (λ w. Passes g.P.Shape chain c.args.way.now (place c.args.from.now) c.args.piece.now w)
    (sym (c.in_ok-tell_under.ensures.still c.if-branch.false)) known in
    c.rising.ensures.met chain (place c.args.from.now)
    (rises_entered kept (assumption g.met.P.Shape) (c.in_ok-enter.ensures.met chain kept.met (ahead_here kept)) (c.in_ok-enter.ensures.entered chain))

pub returns-clause-falls : goal.returns-clause-falls
returns-clause-falls g c =
    let (chain, known) = c.requires.met in
    let laws : ShapeLaws g.P.Shape = assumption g.met.P.Shape in
    let last = end c.args.piece.now in
    let kept = subst (λ w. Passes g.P.Shape chain c.args.way.now (place c.args.from.now) c.args.piece.now w)
    (sym (c.in_ok-tell_under.ensures.still c.if-branch.false)) known in
    on_ok_two c.rising.result (λ met entered. falls_off g.P.Shape laws chain c.args.way.now known.met.can.rising last last last c.rising.new.window
    met.stands entered) (c.rising.ensures.met chain (place c.args.from.now)
    (rises_entered kept laws (c.in_ok-enter.ensures.met chain kept.met (ahead_here kept)) (c.in_ok-enter.ensures.entered chain)))
    (c.rising.ensures.entered chain)

pub returns-clause-wide : goal.returns-clause-wide
returns-clause-wide g c chain known =
    let kept = subst (λ w. Passes g.P.Shape chain c.args.way.now (place c.args.from.now) c.args.piece.now w)
    (sym (c.in_ok-tell_under.ensures.still c.if-branch.false)) known in
    c.rising.ensures.wide chain (place c.args.from.now) (stop chain).at
    (rises_entered kept (assumption g.met.P.Shape) (c.in_ok-enter.ensures.met chain kept.met (ahead_here kept)) (c.in_ok-enter.ensures.entered chain))
    (stop_below g.P.Shape chain c.args.way.now (end c.args.piece.now) known.ahead)
