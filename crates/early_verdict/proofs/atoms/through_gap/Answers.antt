use Rattle.std.proofs.Common.{◌≡◌, ℕ, true, sym, subst, pos, ◌∙◌}
use Rattle.rational.specs.Time.{whole}
use Rattle.stl_syntax.specs.Trace.{row_time}
use Rattle.stl_syntax.specs.Truth.{holds_at}
use Rattle.atom_lines.specs.Pieces.{TellsGap}
use Rattle.frac128.specs.Value.{value}
use Rattle.rational.specs.Places.{Same}
use Rattle.frac128.specs.Cuts.{place}
use Rattle.early_verdict.specs.declared.atoms.Pending.{Pending}
use Rattle.frac128.specs.declared.cut.Cut.{Cut}
use Rattle.early_verdict.proofs.AtomSets.{grown_none, grown_then}
use Rattle.early_verdict.proofs.TurningLemmas.{adds_split, adds_whole, after_time, before_time, if_good, on_if, turned_grown}
use Rattle.early_verdict.proofs.atoms.through_gap.Goals as goal

-- a cut at a row's time
at_row : (cut : Cut) (n m : ℕ) → n ≡ m → Same (place cut) (record { at = whole (pos n); after = true })
    → Same (place cut) (record { at = whole (pos m); after = true })
at_row cut n m e s = subst (λ k. Same (place cut) (record { at = whole (pos k); after = true })) e s

pub returns-in-Whole-clause-grown : goal.returns-in-Whole-clause-grown
returns-in-Whole-clause-grown c = grown_none c.args.own.now c.requires.own

pub returns-in-Whole-clause-added : goal.returns-in-Whole-clause-added
returns-in-Whole-clause-added c = λ a tr q r first later tells.
    let tells = subst (λ p. TellsGap (row_time q) (row_time r) (holds_at a tr) p) c.in-Whole.is tells in
    adds_whole a tr q r c.after_tick-from.result (at_row c.after_tick-from.result c.args.first q.time first c.after_tick-from.ensures) later
    c.holds.result (λ t x y. tells t x y ∙ sym c.holds.ensures) c.args.own.now

pub returns-in_ok-there-in-Split-clause-grown : goal.returns-in_ok-there-in-Split-clause-grown
returns-in_ok-there-in-Split-clause-grown c =
    let begun : Pending = record { holds = c.holds-in-Split.result; from = c.after_tick-from.result } in
    let at = value c.in-Split.at in
    let first = turned_grown c.args.own.now c.turn.new.own begun c.in_ok-there-in-Split.there c.holds-in-Split-2.result (before_time at) c.requires.own
    c.in_ok-there-in-Split.ensures in
    on_if c.turn-in-Split.result c.turn-in-Split.ensures (λ next h.
    grown_then first
    (turned_grown c.turn.new.own c.turn-in-Split.new.own c.in_ok-there-in-Split.there next c.holds-in-Split-3.result (after_time at) first.tidy h))

pub returns-in_ok-there-in-Split-clause-added : goal.returns-in_ok-there-in-Split-clause-added
returns-in_ok-there-in-Split-clause-added c = if_good c.turn-in-Split.result c.turn-in-Split.ensures (λ next h a tr q r begins later tells.
    let w = subst (λ p. TellsGap (row_time q) (row_time r) (holds_at a tr) p) c.in-Split.is tells in
    adds_split a tr q r c.after_tick-from.result (at_row c.after_tick-from.result c.args.first q.time begins c.after_tick-from.ensures) later
    c.holds-in-Split.result c.holds-in-Split-2.result c.holds-in-Split-3.result (value c.in-Split.at) w.after_first w.before_second
    (λ t x y. w.until_then t x y ∙ sym c.holds-in-Split.ensures) (λ t x. w.there t x ∙ sym c.holds-in-Split-2.ensures)
    (λ t x y. w.from_then t x y ∙ sym c.holds-in-Split-3.ensures) c.args.own.now c.turn.new.own c.turn-in-Split.new.own c.in_ok-there-in-Split.there next
    c.in_ok-there-in-Split.ensures h)
