-- Zeros at the end.
use Rattle.std.proofs.Common.{◌==◌, sym, arith}
use Rattle.std.proofs.lemmas.Bool.{eq-eqb, ne_eqb}
use Rattle.trace_reader.proofs.FieldLemmas.{front_of, all_longer}
use Rattle.trace_reader.proofs.number.without_zeros.Goals as goal
use Rattle.trace_reader.proofs.number.without_zeros.Goals.{then-loop-end-test+else-decimals-end-eq48, else-loop-end-test}

pub loop-end-preserved : goal.loop-end-preserved
loop-end-preserved c =
    let i = c.loop-end.invariant in
    (omega (arith, i.0), all_longer (λ b. b == 48) c.args.decimals.now c.loop-end.end c.loop-end-test.true i.0 i.1 (eq-eqb _ 48 c.if-decimals-end-eq48.true))

pub returns : goal.returns
returns c =
    let i = c.loop-end.invariant in
    elim c.loop-end-test.branch [
      | then-loop-end-test+else-decimals-end-eq48 w ↦
          sym (front_of (λ b. b == 48) c.args.decimals.now c.loop-end.end i.0 i.1 (λ _. ne_eqb _ 48 w.if-decimals-end-eq48.false))
      | else-loop-end-test w ↦
          sym (front_of (λ b. b == 48) c.args.decimals.now c.loop-end.end i.0 i.1 (λ some. absurd (omega (arith, some, w.loop-end-test.false))))
    ]
