use Rattle.std.proofs.Common.{length, ◌+◌, subst}
use Rattle.std.proofs.lemmas.Result.{err_from_is_err_and}
use Rattle.session_mux.specs.Muxes.{Past}
use Rattle.session_mux.specs.Taking.{IsSized, IsUnsized, IsHanded, IsNotHanded}
use Rattle.session_mux.proofs.InputBytes.{line_unsized, line_refused, line_answered}
use Rattle.session_mux.proofs.input.Input.answer.Goals as goal

pub returns-in_err-sized-clause-lines : goal.returns-in_err-sized-clause-lines
returns-in_err-sized-clause-lines c =
    let p = err_from_is_err_and c.from_residual.result c.from_residual.ensures.1 in
    let i = c.args.self.now in
    rw (p.1, p.2) (λ f bytes written k.
    line_unsized f i bytes written k c.in_err-sized.field-0.0
    (subst (λ b. IsUnsized (i.whole + 1) (length b) c.in_err-sized.field-0.0) c.bytes.ensures c.in_err-sized.ensures))

pub returns-in_err-hand-clause-lines : goal.returns-in_err-hand-clause-lines
returns-in_err-hand-clause-lines c =
    let p = err_from_is_err_and c.from_residual-in_err-hand.result c.from_residual-in_err-hand.ensures.1 in
    let i = c.args.self.now in
    let e = c.in_err-hand.field-0.0 in
    rw (p.1, p.2) (λ f bytes written k.
    let past : Past = record { formula = f; seen = k.taken.tagged } in
    line_refused f i bytes written k c.hand.new.text e (subst (λ b. IsSized (i.whole + 1) (length b)) c.bytes.ensures c.in_ok-sized.ensures)
    (subst (λ b. IsNotHanded past (i.whole + 1) b i.text c.hand.new.text e) c.bytes-2.ensures (c.in_err-hand.ensures past k.taken.stands)))

pub returns-clause-lines : goal.returns-clause-lines
returns-clause-lines c = λ f bytes written k.
    let i = c.args.self.now in
    let past : Past = record { formula = f; seen = k.taken.tagged } in
    line_answered f i bytes written k c.hand.new.mux c.hand.new.text (subst (λ b. IsSized (i.whole + 1) (length b)) c.bytes.ensures c.in_ok-sized.ensures)
    (subst (λ b. IsHanded past b c.hand.new.mux i.text c.hand.new.text) c.bytes-2.ensures (c.in_ok-hand.ensures past k.taken.stands))
