use Rattle.std.proofs.Common.{sym, subst, refl, MatchOption}
use Rattle.rational.specs.Places.{Before}
use Rattle.rational.proofs.PlaceLemmas.{before_same, same_places}
use Rattle.frac128.specs.Cuts.{place}
use Rattle.atom_lines.specs.Legs.{turning_place}
use Rattle.online_net.specs.Stretches.{HasBent}
use Rattle.online_net.proofs.stretch.bend.Goals as goal

pub turn_next-requires-clause-some : goal.turn_next-requires-clause-some
turn_next-requires-clause-some c =
    before_same (place c.args.run.now.from) (turning_place c.in-Some.x) (place c.crossing_cut-cut.result)
    (subst (λ t. MatchOption t (Unit {0}) (λ x. Before (place c.args.run.now.from) (turning_place x))) c.in-Some.is c.requires.some)
    (same_places c.crossing_cut-cut.ensures)

pub returns-in-None : goal.returns-in-None
returns-in-None c = subst (λ t. HasBent c.args.edges.now c.args.edges.now c.args.node c.args.run.now t c.args.run.now) (sym c.in-None.is) (refl, refl)

pub returns-in_ok-turn_next-in-Some : goal.returns-in_ok-turn_next-in-Some
returns-in_ok-turn_next-in-Some c =
    subst (λ t. HasBent c.args.edges.now c.turn_next.new.edges c.args.node c.args.run.now t c.turn_next.new.run) (sym c.in-Some.is)
    (c.in_ok-turn_next-in-Some.ensures (turning_place c.in-Some.x) c.crossing_cut-cut.ensures)
