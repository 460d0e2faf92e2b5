use Rattle.std.proofs.Common.{sym, subst}
use Rattle.rational.specs.Places.{Upto}
use Rattle.frac128.specs.Cuts.{place}
use Rattle.online_net.proofs.AtomVerdicts.{said_three}
use Rattle.online_net.proofs.atom.say_flip.Goals as goal

pub upto-requires-2-clause-inside : goal.upto-requires-2-clause-inside
upto-requires-2-clause-inside c t u =
    subst (λ d. Upto (place d) t) (sym c.in_ok-before.ensures.said.end) (c.in_ok-before.ensures.reaches.inside t u)

pub upto-requires-3-clause-inside : goal.upto-requires-3-clause-inside
upto-requires-3-clause-inside c t u =
    subst (λ d. Upto (place d) t) (sym c.in_ok-point.ensures.said.end) (c.in_ok-point.ensures.reaches.inside t u)

pub returns : goal.returns
returns c = said_three
    (record { time = c.args.turn.at; side = 0 }) (record { time = c.args.turn.at; side = 1 }) c.args.end c.requires.edge
    c.in_ok-before.ensures.said c.in_ok-before.ensures.reaches c.in_ok-point.ensures.said c.in_ok-point.ensures.reaches
    c.in_ok-after.ensures.said c.in_ok-after.ensures.reaches
