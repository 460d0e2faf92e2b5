use Rattle.std.proofs.Common.{◌≡◌, ℕ, ℤ, pos, ◌+ℤ◌, ◌*ℤ◌, to_z, of_z, w64, arith, sym, ◌∙◌, subst}
use Rattle.std.proofs.lemmas.Int.{ints}
use Rattle.rational.specs.Rational.{Rational, fraction, ◌≈◌}
use Rattle.rational.proofs.Order.{same_sym, same_trans}
use Rattle.time_sets.specs.Twice.{floor_of}
use Rattle.time_sets.proofs.TurnLemmas.{mixed_fraction, whole_mixed}
use Rattle.time_sets.proofs.turn.Turn.time.Goals as goal

by_parts : (v : Rational) (w : ℤ) (r s d e : ℕ) → r ≡ s → d ≡ e → v ≈ fraction (w *ℤ pos d +ℤ pos r) (pos d) → v ≈ fraction (w *ℤ pos e +ℤ pos s) (pos e)
by_parts v w r s d e p q h =
    subst (λ x. v ≈ fraction (w *ℤ pos x +ℤ pos s) (pos x)) q (subst (λ x. v ≈ fraction (w *ℤ pos d +ℤ pos x) (pos d)) p h)

pub returns-then-self-eq0 : goal.returns-then-self-eq0
returns-then-self-eq0 c =
    let at = c.args.self.now in
    let floor = to_z w64 (of_z w64 c.floor.result) in
    let read : floor ≡ c.floor.result = omega (arith, ints) in
    same_trans c.of.ensures.value
    (whole_mixed floor (floor_of at.twice) at.rest at.den at.positive (read ∙ c.floor.ensures) c.if-self-eq0.true)

pub returns : goal.returns
returns c =
    let at = c.args.self.now in
    let floor = to_z w64 (of_z w64 c.floor-2.result) in
    let read : floor ≡ c.floor-2.result = omega (arith, ints) in
    same_trans (by_parts _ floor c.from.result at.rest c.from-2.result at.den c.from.ensures c.from-2.ensures c.mixed.ensures)
    (same_sym (mixed_fraction floor (floor_of at.twice) at.rest at.den at.positive (sym (read ∙ c.floor-2.ensures))))
