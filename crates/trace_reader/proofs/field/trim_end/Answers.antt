-- Spaces at the end.
use Rattle.std.proofs.Common.{◌∙◌, sym, arith}
use Rattle.stl_syntax.specs.Characters.{is_space}
use Rattle.trace_reader.proofs.FieldLemmas.{front_of, all_longer}
use Rattle.trace_reader.proofs.field.trim_end.Goals as goal
use Rattle.trace_reader.proofs.field.trim_end.Goals.{then-loop-end-test+else-is_space, else-loop-end-test}

pub loop-end-preserved : goal.loop-end-preserved
loop-end-preserved c =
    let i = c.loop-end.invariant in
    (omega (arith, i.0), all_longer is_space c.args.text.now c.loop-end.end c.loop-end-test.true i.0 i.1 (sym c.is_space.ensures ∙ c.if-is_space.true))

pub returns : goal.returns
returns c =
    let i = c.loop-end.invariant in
    elim c.loop-end-test.branch [
      | then-loop-end-test+else-is_space w ↦ sym (front_of is_space c.args.text.now c.loop-end.end i.0 i.1 (λ _. sym w.is_space.ensures ∙ w.if-is_space.false))
      | else-loop-end-test w ↦ sym (front_of is_space c.args.text.now c.loop-end.end i.0 i.1 (λ some. absurd (omega (arith, some, w.loop-end-test.false))))
    ]
