-- A sign and a numeral.
use Rattle.std.proofs.Common.{◌≡◌, ◌∷◌, ◌∙◌, ap, inl, inr}
use Rattle.trace_reader.proofs.NumberLemmas.{minus_read, plus_read, plain_read, no_signed, no_plain}
use Rattle.trace_reader.proofs.number.read_ticks.Goals as goal
use Rattle.trace_reader.proofs.number.read_ticks.Goals.{then-first-eq43, else-first-eq43}

pub returns-then-first-eq45 : goal.returns-then-first-eq45
returns-then-first-eq45 c =
    let field : c.args.field.now ≡ 45 ∷ c.in_ok-first.others.now =
    c.in_ok-first.ensures.cases.0 ∙ ap (λ x. x ∷ c.in_ok-first.others.now) c.if-first-eq45.true in
    rw field (minus_read c.in_ok-first.others.now c.args.most c.args.digits c.in_ok-size.size c.in_ok-size.ensures)

pub returns-in_err-size : goal.returns-in_err-size
returns-in_err-size c = rw c.from_residual-in_err-size.ensures
    (no_signed c.args.field.now c.args.most c.in_ok-first.first.now c.in_ok-first.others.now
    (inl c.if-first-eq45.true) c.in_ok-first.ensures.cases.0 c.in_err-size.ensures)

pub returns-in_err-size-2 : goal.returns-in_err-size-2
returns-in_err-size-2 c = rw c.from_residual-in_err-size-2.ensures
    (elim c.if-first-eq43.branch [
      | then-first-eq43 w ↦ no_signed c.args.field.now c.args.most c.in_ok-first.first.now c.in_ok-first.others.now
          (inr w.if-first-eq43.true) c.in_ok-first.ensures.cases.0 (rw w.unsigned-is at c.in_err-size-2.ensures)
      | else-first-eq43 w ↦ no_plain c.args.field.now c.args.most c.in_ok-first.first.now c.in_ok-first.others.now
          c.if-first-eq45.false w.if-first-eq43.false c.in_ok-first.ensures.cases.0 (rw w.unsigned-is at c.in_err-size-2.ensures)
    ])

pub returns : goal.returns
returns c =
    let others = c.in_ok-first.others.now in
    elim c.if-first-eq43.branch [
      | then-first-eq43 w ↦
          let field : c.args.field.now ≡ 43 ∷ others = c.in_ok-first.ensures.cases.0 ∙ ap (λ x. x ∷ others) w.if-first-eq43.true in
          rw field (plus_read others c.args.most c.args.digits c.in_ok-size-2.size (rw w.unsigned-is at c.in_ok-size-2.ensures))
      | else-first-eq43 w ↦ plain_read c.args.field.now c.args.most c.args.digits c.in_ok-size-2.size (rw w.unsigned-is at c.in_ok-size-2.ensures)
    ]
