use Rattle.std.proofs.Common.{◌≡◌, ℕ, ◌-◌, ◌<◌, false, sym, subst, pos, ◌∙◌}
use Rattle.std.specs.Prelude.{IfSome}
use Rattle.rational.specs.Time.{whole}
use Rattle.atom_lines.specs.Binding.{AreNeighbours}
use Rattle.atom_lines.specs.Points.{IsTruthAt, IsTruthOn}
use Rattle.atom_lines.specs.Rows.{row_of}
use Rattle.rational.specs.Places.{Same}
use Rattle.frac128.specs.Cuts.{place}
use Rattle.early_verdict.specs.Adding.{AddsOnce, AfterRow, BetweenRows, before_row}
use Rattle.early_verdict.specs.BlockRows.{own_row}
use Rattle.frac128.specs.declared.cut.Cut.{Cut}
use Rattle.early_verdict.proofs.AtomSets.{grown_none, grown_then}
use Rattle.early_verdict.proofs.BlockLemmas.{none_before, not_first, own_later, row_before_is}
use Rattle.early_verdict.proofs.TurningLemmas.{adds_at_row, adds_begun, if_good, on_if, turned_grown}
use Rattle.early_verdict.proofs.atoms.up_to_row.Goals as goal

-- a cut at a row's time
at_row : (cut : Cut) (n m : ℕ) → n ≡ m → Same (place cut) (record { at = whole (pos n); after = false })
    → Same (place cut) (record { at = whole (pos m); after = false })
at_row cut n m e s = subst (λ k. Same (place cut) (record { at = whole (pos k); after = false })) e s

pub returns-then-is_first-clause-grown : goal.returns-then-is_first-clause-grown
returns-then-is_first-clause-grown c = grown_none c.args.own.now c.requires.own

pub returns-then-is_first-clause-holds : goal.returns-then-is_first-clause-holds
returns-then-is_first-clause-holds c =
    subst (λ b. IsTruthAt c.args.bound.now c.args.node (own_row c.args.next.now) b) (sym c.holds.ensures) c.truth.ensures

pub returns-then-is_first-clause-added : goal.returns-then-is_first-clause-added
returns-then-is_first-clause-added c = λ a tr for near.
    let x = c.args.next.now in
    let r = own_row x in
    subst (λ o. AddsOnce (record { holds = c.holds.result; from = c.before_tick-at.result }) (before_row r) (AfterRow a tr o r) c.args.own.now c.args.own.now)
    (sym (none_before x.block.now x.at (c.is_first.ensures.0 c.if-is_first.true)))
    (adds_begun (before_row r) c.before_tick-at.result
    (at_row c.before_tick-at.result c.time.result r.time c.time.ensures c.before_tick-at.ensures) c.holds.result c.args.own.now)

pub truth_since-piece-requires-clause-after : goal.truth_since-piece-requires-clause-after
truth_since-piece-requires-clause-after c = not_first c.args.next.now.at c.is_first.result c.is_first.ensures c.if-is_first.false

pub time_before-requires : goal.time_before-requires
time_before-requires c = not_first c.args.next.now.at c.is_first.result c.is_first.ensures c.if-is_first.false

pub returns-clause-grown : goal.returns-clause-grown
returns-clause-grown c = on_if c.turn.result c.turn.ensures (λ next h.
    let grown = c.in_ok-pending.ensures.grown in
    grown_then grown
    (turned_grown c.through_gap.new.own c.turn.new.own c.in_ok-pending.pending next c.holds-2.result (place c.before_tick-at.result) grown.tidy h))

pub returns-clause-holds : goal.returns-clause-holds
returns-clause-holds c = if_good c.turn.result c.turn.ensures (λ next h.
    subst (λ b. IsTruthAt c.args.bound.now c.args.node (own_row c.args.next.now) b) (sym (h.0 ∙ c.holds-2.ensures)) c.truth_since-piece.ensures.point)

pub returns-clause-added : goal.returns-clause-added
returns-clause-added c = if_good c.turn.result c.turn.ensures (λ next h a tr for near.
    let x = c.args.next.now in
    let r = own_row x in
    let q = row_of x.block.now (x.at - 1) in
    let is = row_before_is x.block.now x.at (not_first x.at c.is_first.result c.is_first.ensures c.if-is_first.false) in
    let begins = subst (λ o. IfSome o (λ q. c.time_before.result ≡ q.time)) is c.time_before.ensures in
    let on = subst (λ o. IfSome o (λ q. IsTruthOn c.args.bound.now c.args.node q r c.truth_since-piece.result.0)) is c.truth_since-piece.ensures.piece in
    subst (λ o. AddsOnce next (before_row r) (AfterRow a tr o r) c.args.own.now c.turn.new.own) (sym is)
    (adds_at_row r c.before_tick-at.result (at_row c.before_tick-at.result c.time.result r.time c.time.ensures c.before_tick-at.ensures)
    c.args.own.now c.through_gap.new.own c.turn.new.own c.in_ok-pending.pending next c.holds-2.result (BetweenRows a tr q r)
    (c.in_ok-pending.ensures.added a tr q r begins (subst (λ o. IfSome o (λ q. q.time < r.time)) is (own_later x))
    (on a tr for (subst (λ o. IfSome o (λ q. AreNeighbours tr q r)) is near))) h))
