use Rattle.std.proofs.Common.{◌+◌, arith, sym, subst, ◌∙◌}
use Rattle.std.proofs.lemmas.Option.{same_Some, slice_get_within}
use Rattle.frac128.specs.Value.{value}
use Rattle.pl_signal.specs.Knots.{time}
use Rattle.rational.specs.Time.{◌≈◌}
use Rattle.implicants.proofs.NodeCells.{place_next, place_stays, same_told, other_told}
use Rattle.implicants.proofs.cells.place_at.Goals as goal
use Rattle.implicants.proofs.cells.place_at.Goals.{else-place-knots-via-then-place-knots+else-is_eq, else-place-knots-via-else-place-knots}

pub returns-then-is_eq-clause-place : goal.returns-then-is_eq-clause-place
returns-then-is_eq-clause-place c =
    place_next c.args.signal.now c.args.place (value c.args.t.now) c.knot.result c.len-knots.ensures.signal c.knot.ensures
    (same_told c.cmp.result c.is_eq.result c.cmp.ensures c.is_eq.ensures c.if-is_eq.true)

pub returns-else-place-knots-clause-place : goal.returns-else-place-knots-clause-place
returns-else-place-knots-clause-place c = elim c.else-place-knots.branch [
  | else-place-knots-via-then-place-knots+else-is_eq w ↦
      place_stays c.args.signal.now c.args.place (value c.args.t.now) c.requires.up_to
      (λ n at same. other_told w.cmp.result w.is_eq.result w.cmp.ensures w.is_eq.ensures w.if-is_eq.false
      (subst (λ k. time k ≈ value c.args.t.now) (same_Some n w.knot.result (sym at ∙ w.knot.ensures)) same))
  | else-place-knots-via-else-place-knots w ↦
      place_stays c.args.signal.now c.args.place (value c.args.t.now) c.requires.up_to
      (λ n at same. let l = slice_get_within c.args.signal.now (c.args.place + 1) n at in let count = c.len-knots.ensures.value in let past =
      w.if-place-knots.false in absurd (omega (arith, l, count, past)))
]
