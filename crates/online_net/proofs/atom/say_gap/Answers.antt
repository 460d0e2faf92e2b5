use Rattle.std.proofs.Common.{false, true, sym, subst, ◌∙◌}
use Rattle.frac128.proofs.Wholes.{same_at_tick}
use Rattle.online_net.specs.Atoms.{after_row}
use Rattle.online_net.proofs.AtomVerdicts.{new_is, new_inside, whole_begun, turn_begun}
use Rattle.stl_syntax.specs.Trace.{row_time}
use Rattle.stl_syntax.specs.Truth.{holds_at}
use Rattle.atom_lines.specs.Pieces.{TellsGap}
use Rattle.online_net.proofs.atom.say_gap.Goals as goal

pub upto-requires-clause-inside : goal.upto-requires-clause-inside
upto-requires-clause-inside c = new_inside c.args.first.now c.args.row.now c.args.node c.new-out.result c.requires.later
    (new_is c.new-out.result c.args.node c.after_tick-from.result c.after_tick-to.result (after_row c.args.first.now) (after_row c.args.row.now)
    c.new-out.ensures
    (same_at_tick c.after_tick-from.result c.time.result c.args.first.now.time true c.time.ensures c.after_tick-from.ensures)
    (same_at_tick c.after_tick-to.result c.time-3.result c.args.row.now.time true c.time-3.ensures c.after_tick-to.ensures))

pub say_flip-requires-clause-inside : goal.say_flip-requires-clause-inside
say_flip-requires-clause-inside c = new_inside c.args.first.now c.args.row.now c.args.node c.new-out.result c.requires.later
    (new_is c.new-out.result c.args.node c.after_tick-from.result c.after_tick-to.result (after_row c.args.first.now) (after_row c.args.row.now)
    c.new-out.ensures
    (same_at_tick c.after_tick-from.result c.time.result c.args.first.now.time true c.time.ensures c.after_tick-from.ensures)
    (same_at_tick c.after_tick-to.result c.time-3.result c.args.row.now.time true c.time-3.ensures c.after_tick-to.ensures))

pub returns-in_ok-said-in-Whole : goal.returns-in_ok-said-in-Whole
returns-in_ok-said-in-Whole c = λ b on.
    whole_begun b c.args.node c.args.first.now c.args.row.now c.requires.later c.new-out.result
    (new_is c.new-out.result c.args.node c.after_tick-from.result c.after_tick-to.result (after_row c.args.first.now) (after_row c.args.row.now)
    c.new-out.ensures
    (same_at_tick c.after_tick-from.result c.time.result c.args.first.now.time true c.time.ensures c.after_tick-from.ensures)
    (same_at_tick c.after_tick-to.result c.time-3.result c.args.row.now.time true c.time-3.ensures c.after_tick-to.ensures))
    c.before_tick-end.result
    (same_at_tick c.before_tick-end.result c.time-2.result c.args.row.now.time false c.time-2.ensures c.before_tick-end.ensures)
    c.holds.result c.in_ok-said-in-Whole.ensures.said c.in_ok-said-in-Whole.ensures.reaches
    (λ a tr for next t x y. subst (λ p. TellsGap (row_time c.args.first.now) (row_time c.args.row.now) (holds_at a tr) p) c.in-Whole.is (on a tr for next) t x y
    ∙ sym c.holds.ensures)

pub returns-in_ok-said-in-Split : goal.returns-in_ok-said-in-Split
returns-in_ok-said-in-Split c = λ b on.
    turn_begun b c.args.node c.args.first.now c.args.row.now c.requires.later c.new-out.result
    (new_is c.new-out.result c.args.node c.after_tick-from.result c.after_tick-to.result (after_row c.args.first.now) (after_row c.args.row.now)
    c.new-out.ensures
    (same_at_tick c.after_tick-from.result c.time.result c.args.first.now.time true c.time.ensures c.after_tick-from.ensures)
    (same_at_tick c.after_tick-to.result c.time-3.result c.args.row.now.time true c.time-3.ensures c.after_tick-to.ensures))
    c.before_tick-end.result
    (same_at_tick c.before_tick-end.result c.time-2.result c.args.row.now.time false c.time-2.ensures c.before_tick-end.ensures)
    c.holds-in-Split.result c.holds-in-Split-2.result c.holds-in-Split-3.result c.in-Split.at c.in_ok-said-in-Split.ensures
    (λ a tr for next.
    let w = subst (λ p. TellsGap (row_time c.args.first.now) (row_time c.args.row.now) (holds_at a tr) p) c.in-Split.is (on a tr for next) in (
      w.after_first,
      w.before_second,
      (λ t x y. w.until_then t x y ∙ sym c.holds-in-Split.ensures),
      (λ t x. w.there t x ∙ sym c.holds-in-Split-2.ensures),
      (λ t x y. w.from_then t x y ∙ sym c.holds-in-Split-3.ensures),
    ))
