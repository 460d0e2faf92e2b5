use Rattle.std.proofs.Common.{refl, sym, subst}
use Rattle.std.proofs.lemmas.Result.{on_ok_weaker}
use Rattle.rational.proofs.PlaceLemmas.{same_places}
use Rattle.time_sets.specs.Turns.{place}
use Rattle.truth_sets.specs.Growing.{JumpsAt, before_row}
use Rattle.truth_sets.proofs.MovingLemmas.{end_same, turns_ok}
use Rattle.truth_sets.proofs.atom.jump.Goals as goal

pub turn-requires-clause-last : goal.turn-requires-clause-last
turn-requires-clause-last c = end_same (before_row c.args.second) (place c.row_turn.result) c.args.times.now.turns.items
    (same_places c.row_turn.ensures.place) c.requires.last

pub returns-then-not-jumps : goal.returns-then-not-jumps
returns-then-not-jumps c = subst (λ j. JumpsAt c.args.second j c.args.times.now c.args.times.now) (sym c.if-not-jumps.true) refl

pub returns : goal.returns
returns c =
    let e = c.turn.ensures in
    on_ok_weaker c.turn.result (λ m. subst (λ j. JumpsAt c.args.second j c.args.times.now c.turn.new.self) (sym c.if-not-jumps.false) m)
    (turns_ok c.turn.result c.row_turn.result (before_row c.args.second) c.args.times.now c.turn.new.self c.row_turn.ensures.place
    e.before e.behind e.rise e.last e.of)
