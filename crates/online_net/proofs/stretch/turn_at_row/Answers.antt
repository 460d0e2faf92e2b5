use Rattle.std.proofs.Common.{pos, subst}
use Rattle.rational.specs.Rational.{whole}
use Rattle.rational.specs.Places.{Place}
use Rattle.rational.proofs.PlaceLemmas.{before_same, same_places}
use Rattle.rational.proofs.Tests.{same_of_beq}
use Rattle.frac128.specs.Cuts.{place}
use Rattle.online_nodes.proofs.ToldSoFar.{other_bool}
use Rattle.online_net.specs.Stretches.{HasTurned}
use Rattle.online_net.proofs.AtomRuns.{turn_none, turned_is}
use Rattle.online_net.proofs.stretch.turn_at_row.Goals as goal

pub turn_over-requires-clause-some : goal.turn_over-requires-clause-some
turn_over-requires-clause-some c =
    let here : Place = record { at = whole (pos c.args.time); after = c.args.after } in
    before_same (place c.args.run.now.from) here (place c.tick_cut.result) (c.requires.some (other_bool _ _ c.if-run-holds.false))
    (same_places c.tick_cut.ensures)

pub returns-then-run-holds : goal.returns-then-run-holds
returns-then-run-holds c = turn_none c.args.node c.args.edges.now c.args.run.now c.args.holds (record { at = whole (pos c.args.time); after = c.args.after })
    c.requires.order (same_of_beq _ _ c.if-run-holds.true)

pub returns : goal.returns
returns c =
    let here : Place = record { at = whole (pos c.args.time); after = c.args.after } in
    subst (λ b. HasTurned c.args.edges.now c.turn_over.new.edges c.args.node c.args.run.now here b c.turn_over.new.run)
    (turned_is _ _ c.if-run-holds.false) (c.in_ok-turn_over.ensures here c.tick_cut.ensures)
