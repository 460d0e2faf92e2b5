use Rattle.std.proofs.Common.{refl, sym, subst}
use Rattle.std.proofs.lemmas.Result.{on_ok_weaker}
use Rattle.rational.proofs.PlaceLemmas.{same_places}
use Rattle.std.specs.Prelude.{MatchOption}
use Rattle.time_sets.specs.Sets.{EndBefore}
use Rattle.time_sets.specs.Turns.{place}
use Rattle.atom_lines.specs.Legs.{turning_place}
use Rattle.truth_sets.specs.Growing.{BendsAt}
use Rattle.truth_sets.proofs.MovingLemmas.{end_same, turns_ok}
use Rattle.truth_sets.proofs.atom.bend.Goals as goal

pub turn-requires-clause-last : goal.turn-requires-clause-last
turn-requires-clause-last c = end_same (turning_place c.in-Some.x) (place c.turn_of.result) c.args.times.now.turns.items (same_places c.turn_of.ensures)
    (subst (λ o. MatchOption o (Unit {0}) (λ x. EndBefore (turning_place x) c.args.times.now.turns.items)) c.in-Some.is c.requires.last)

pub returns-in-None : goal.returns-in-None
returns-in-None c = subst (λ o. BendsAt o c.args.times.now c.args.times.now) (sym c.in-None.is) refl

pub returns-in-Some : goal.returns-in-Some
returns-in-Some c =
    let e = c.turn.ensures in
    on_ok_weaker c.turn.result (λ m. subst (λ o. BendsAt o c.args.times.now c.turn.new.self) (sym c.in-Some.is) m)
    (turns_ok c.turn.result c.turn_of.result (turning_place c.in-Some.x) c.args.times.now c.turn.new.self c.turn_of.ensures
    e.before e.behind e.rise e.last e.of)
