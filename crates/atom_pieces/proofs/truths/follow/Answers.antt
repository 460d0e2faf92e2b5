use Rattle.std.proofs.Common.{◌<◌, ◌^◌, pos, arith}
use Rattle.std.proofs.lemmas.Result.{on_ok_weaker}
use Rattle.rational.specs.Time.{whole}
use Rattle.rational.specs.Places.{Before, Place}
use Rattle.rational.proofs.PlaceLemmas.{before_of_at_most, before_same, same_places}
use Rattle.frac128.specs.Cuts.{place}
use Rattle.pieces.specs.Chains.{stop}
use Rattle.pieces.specs.Knots.{before}
use Rattle.atom_pieces.proofs.TruthChains.{EndBy, ends_itself, over_ends}
use Rattle.atom_pieces.proofs.truths.follow.Goals.{After-before_row}
use Rattle.atom_pieces.proofs.truths.follow.Goals as goal

-- where the pieces end after the gap: before the second row
over : (c : After-before_row) → (end : Place) × EndBy c.args.chain.now.from c.go_over.new.chain end × Before end (before (whole (pos c.args.second)))
over c =
    let few : c.args.second < 2 ^ 32 = omega arith in
    over_ends c.args.chain.now.from c.args.first c.args.second c.requires.order few (stop c.args.chain.now) c.args.passage.now c.args.chain.now
    c.go_over.new.chain c.args.holds c.in_ok-over.over (ends_itself c.args.chain.now c.requires.limited) c.requires.later c.requires.inside
    c.in_ok-over.ensures

pub turn-requires-clause-limited : goal.turn-requires-clause-limited
turn-requires-clause-limited c = (over (goal.at.turn-requires-clause-limited c).After-before_row).1.within

pub turn-requires-clause-later : goal.turn-requires-clause-later
turn-requires-clause-later c =
    let x = over (goal.at.turn-requires-clause-later c).After-before_row in
    before_of_at_most (stop c.go_over.new.chain) x.0 (place c.before_row.result) x.1.late
    (before_same x.0 (before (whole (pos c.args.second))) (place c.before_row.result) x.2 (same_places c.before_row.ensures))

pub returns : goal.returns
returns c = on_ok_weaker c.turn.result
    (λ turns. (c.go_over.new.chain, c.in_ok-over.over, c.in_ok-over.ensures, (c.before_row.result, c.before_row.ensures, turns))) c.turn.ensures
