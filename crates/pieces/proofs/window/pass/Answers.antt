use Rattle.std.proofs.Common.{◌∙◌, ap}
use Rattle.std.proofs.lemmas.Result.{on_ok_weaker}
use Rattle.rational.proofs.Lists.{on_err_anyway}
use Rattle.frac128.specs.Cuts.{place}
use Rattle.pieces.specs.Chains.{stop}
use Rattle.pieces.specs.Causes.{IsCauseBelow}
use Rattle.pieces.proofs.CountsInPlay.{none_refused}
use Rattle.pieces.proofs.PieceEnds.{ahead_here, below_here, meets_entered}
use Rattle.pieces.proofs.Trends.{no_better_of, no_worse_of, steady_of}
use Rattle.pieces.proofs.window.pass.Goals as goal

pub steady-requires-clause-trend : goal.steady-requires-clause-trend
steady-requires-clause-trend g c = steady_of c.args.way.now.side (g.P.Shape.function c.args.piece.now.shape) c.in-Equal.ensures

pub meet_rising-requires-clause-trend : goal.meet_rising-requires-clause-trend
meet_rising-requires-clause-trend g c = no_worse_of c.args.way.now.side (g.P.Shape.function c.args.piece.now.shape) c.in-Greater.ensures

pub meet_falling-requires-clause-trend : goal.meet_falling-requires-clause-trend
meet_falling-requires-clause-trend g c = no_better_of c.args.way.now.side (g.P.Shape.function c.args.piece.now.shape) c.in-Less.ensures

pub enter-requires-clause-met : goal.enter-requires-clause-met
enter-requires-clause-met g c =
    let (chain, known) = c.requires.met in
    (chain, known.met, ahead_here known)

pub steady-requires-clause-met : goal.steady-requires-clause-met
steady-requires-clause-met g c =
    let (chain, known) = c.requires.met in (
      chain,
      place c.args.from.now,
      meets_entered known (c.in_ok-enter-in-Equal.ensures.met chain known.met (ahead_here known)) (c.in_ok-enter-in-Equal.ensures.entered chain),
    )

pub returns-in_err-enter-in-Equal-clause-wide : goal.returns-in_err-enter-in-Equal-clause-wide
returns-in_err-enter-in-Equal-clause-wide g c chain known =
    on_err_anyway c.from_residual.result (c.in_err-enter-in-Equal.ensures.wide chain (stop chain).at known.met (below_here known))

pub returns-in_ok-enter-in-Equal-clause-met : goal.returns-in_ok-enter-in-Equal-clause-met
returns-in_ok-enter-in-Equal-clause-met g c chain known = c.steady.ensures.met chain (place c.args.from.now)
    (meets_entered known (c.in_ok-enter-in-Equal.ensures.met chain known.met (ahead_here known)) (c.in_ok-enter-in-Equal.ensures.entered chain))

pub returns-in_ok-enter-in-Equal-clause-from : goal.returns-in_ok-enter-in-Equal-clause-from
returns-in_ok-enter-in-Equal-clause-from g c =
    on_ok_weaker c.steady.result (λ past. ap (λ o. o.from) c.steady.ensures.out ∙ c.in_ok-enter-in-Equal.ensures.from) c.steady.ensures.past

pub returns-in_ok-enter-in-Equal-clause-wide : goal.returns-in_ok-enter-in-Equal-clause-wide
returns-in_ok-enter-in-Equal-clause-wide g c chain known = on_err_anyway c.steady.result
    (none_refused c.enter.new.fault (IsCauseBelow g.P.Shape chain c.args.way.now.over (stop chain).at) c.in_ok-enter-in-Equal.ensures.still)
