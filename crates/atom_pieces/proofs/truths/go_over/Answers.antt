use Rattle.std.proofs.Common.{◌<◌, ◌^◌, inl, not, pos, refl, sym, subst, arith}
use Rattle.rational.specs.Time.{whole}
use Rattle.rational.specs.Places.{Before, Place}
use Rattle.rational.proofs.PlaceLemmas.{before_of_at_most, before_same, same_places}
use Rattle.frac128.specs.Cuts.{place}
use Rattle.atom_lines.specs.Passages.{TurnsInside, crossing_time}
use Rattle.pieces.specs.Chains.{stop}
use Rattle.pieces.specs.Knots.{after}
use Rattle.atom_pieces.specs.Growing.{GoesOver}
use Rattle.atom_pieces.proofs.TruthChains.{mid_ends}
use Rattle.atom_pieces.proofs.truths.go_over.Goals.{After-after_row-here, After-turn-in-Turns}
use Rattle.atom_pieces.proofs.truths.go_over.Goals as goal

-- the place just after the first row comes behind the pieces
later : (c : After-after_row-here) → Before (stop c.args.chain.now) (place c.after_row-here.result)
later c = before_same (stop c.args.chain.now) (after (whole (pos c.args.first))) (place c.after_row-here.result) c.requires.later
    (same_places c.after_row-here.ensures)

pub turn-requires-clause-later : goal.turn-requires-clause-later
turn-requires-clause-later c = later (goal.at.turn-requires-clause-later c).After-after_row-here

pub turn-requires-in-Turns-clause-later : goal.turn-requires-in-Turns-clause-later
turn-requires-in-Turns-clause-later c = later (goal.at.turn-requires-in-Turns-clause-later c).After-after_row-here

pub turn-requires-in-Turns-2-clause-limited : goal.turn-requires-in-Turns-2-clause-limited
turn-requires-in-Turns-2-clause-limited c =
    let few : c.args.first < 2 ^ 32 = omega arith in
    (mid_ends c.args.first c.args.chain.now c.turn-in-Turns.new.chain c.args.holds c.in-Turns.before few c.requires.limited c.requires.later
    (c.after_row-here.result, c.after_row-here.ensures, c.in_ok-turn-in-Turns.ensures)).within

pub turn-requires-in-Turns-2-clause-later : goal.turn-requires-in-Turns-2-clause-later
turn-requires-in-Turns-2-clause-later c =
    let first = after (whole (pos c.args.first)) in
    let turn : Place = record { at = crossing_time c.in-Turns.at; after = c.in-Turns.after } in
    let inside = subst (TurnsInside (whole (pos c.args.first)) (whole (pos c.requires.inside.0))) c.in-Turns.is c.requires.inside.1 in
    let few : c.args.first < 2 ^ 32 = omega arith in
    let ends = mid_ends c.args.first c.args.chain.now c.turn-in-Turns.new.chain c.args.holds c.in-Turns.before few c.requires.limited c.requires.later
    (c.after_row-here.result, c.after_row-here.ensures, c.in_ok-turn-in-Turns.ensures) in
    before_of_at_most (stop c.turn-in-Turns.new.chain) first (place c.crossing.result) ends.late
    (before_same first turn (place c.crossing.result) (inl inside.0) (same_places c.crossing.ensures))

pub returns-in_ok-turn-in-Steady : goal.returns-in_ok-turn-in-Steady
returns-in_ok-turn-in-Steady c =
    subst (λ p. GoesOver c.args.first p c.args.chain.now c.args.holds c.turn.new.chain c.in-Steady.next) (sym c.in-Steady.is)
    (refl, (c.after_row-here.result, c.after_row-here.ensures, c.in_ok-turn-in-Steady.ensures))

pub returns-in_ok-turn-in-Turns-2 : goal.returns-in_ok-turn-in-Turns-2
returns-in_ok-turn-in-Turns-2 c =
    subst (λ p. GoesOver c.args.first p c.args.chain.now c.args.holds c.turn-in-Turns-2.new.chain (not c.in-Turns.before)) (sym c.in-Turns.is) (
      refl,
      c.turn-in-Turns.new.chain,
      (c.after_row-here.result, c.after_row-here.ensures, c.in_ok-turn-in-Turns.ensures),
      (c.crossing.result, c.crossing.ensures, c.in_ok-turn-in-Turns-2.ensures),
    )
