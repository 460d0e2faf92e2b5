use Rattle.std.proofs.Common.{◌<◌, ◌∙◌, inl, not, sym, ap, subst, pos}
use Rattle.rational.specs.Rational.{whole}
use Rattle.rational.specs.Places.{Place}
use Rattle.rational.proofs.PlaceLemmas.{before_same, same_places}
use Rattle.frac128.specs.Cuts.{place}
use Rattle.atom_lines.specs.Passages.{TurnsInside, crossing_time}
use Rattle.online_net.specs.Stretches.{after_time, first_truth, HasPassed, HasTurned}
use Rattle.online_net.proofs.AtomRuns.{more_count}
use Rattle.online_net.proofs.stretch.pass.Goals as goal

pub turn_at_row-requires-clause-some : goal.turn_at_row-requires-clause-some
turn_at_row-requires-clause-some c = λ differ. c.requires.some (λ e. differ (e ∙ sym c.truth_at_first.ensures))

pub turn_over-requires-clause-edge : goal.turn_over-requires-clause-edge
turn_over-requires-clause-edge c = subst (λ n. c.args.node < n) (sym (more_count c.in_ok-turn_at_row.ensures.got)) c.requires.edge

pub turn_over-requires-clause-some : goal.turn_over-requires-clause-some
turn_over-requires-clause-some c =
    let inside = subst (TurnsInside (whole (pos c.args.first)) (whole (pos c.requires.inside.0))) c.in-Turns.is c.requires.inside.1 in
    let turn : Place = record { at = crossing_time c.in-Turns.at; after = c.in-Turns.after } in
    c.in_ok-turn_at_row.ensures.order (place c.crossing_cut.result)
    (before_same (after_time c.args.first) turn (place c.crossing_cut.result) (inl inside.0) (same_places c.crossing_cut.ensures))

pub returns-in-Steady : goal.returns-in-Steady
returns-in-Steady c =
    subst (λ p. HasPassed c.args.edges.now c.turn_at_row.new.edges c.args.node c.args.run.now c.args.first p c.turn_at_row.new.run) (sym c.in-Steady.is)
    (subst (λ b. HasTurned c.args.edges.now c.turn_at_row.new.edges c.args.node c.args.run.now (after_time c.args.first) b c.turn_at_row.new.run)
    (c.truth_at_first.ensures ∙ ap first_truth c.in-Steady.is) c.in_ok-turn_at_row.ensures)

pub returns-in_ok-turn_over-in-Turns : goal.returns-in_ok-turn_over-in-Turns
returns-in_ok-turn_over-in-Turns c =
    let begun = c.truth_at_first.ensures ∙ ap first_truth c.in-Turns.is in
    subst (λ p. HasPassed c.args.edges.now c.turn_over.new.edges c.args.node c.args.run.now c.args.first p c.turn_over.new.run)
    (sym c.in-Turns.is) (
      c.turn_at_row.new.edges,
      c.turn_at_row.new.run,
      subst (λ b. HasTurned c.args.edges.now c.turn_at_row.new.edges c.args.node c.args.run.now (after_time c.args.first) b c.turn_at_row.new.run)
          begun c.in_ok-turn_at_row.ensures,
      subst (λ b. HasTurned c.turn_at_row.new.edges c.turn_over.new.edges c.args.node c.turn_at_row.new.run
          (record { at = crossing_time c.in-Turns.at; after = c.in-Turns.after }) b c.turn_over.new.run)
          (ap not (c.in_ok-turn_at_row.ensures.truth ∙ begun))
          (c.in_ok-turn_over-in-Turns.ensures (record { at = crossing_time c.in-Turns.at; after = c.in-Turns.after }) c.crossing_cut.ensures),
    )
