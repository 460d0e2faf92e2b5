use Rattle.std.proofs.Common.{length, ◌+◌, subst}
use Rattle.std.proofs.lemmas.Result.{err_from_is_err_and}
use Rattle.session_mux.specs.Taking.{IsUnsized}
use Rattle.session_mux.proofs.InputBytes.{part_unsized, some_of}
use Rattle.session_mux.proofs.input.Input.go_on.Goals as goal

pub returns-in_err-sized : goal.returns-in_err-sized
returns-in_err-sized c =
    let p = err_from_is_err_and c.from_residual.result c.from_residual.ensures.1 in
    let i = c.args.self.now in
    let part = c.args.part.now in
    rw (p.1, p.2) (λ f bytes written k.
    part_unsized f i bytes written part k c.requires.free c.in_err-sized.field-0.0 (some_of part c.if-is_empty.ensures)
    (subst (λ b. IsUnsized (i.whole + 1) (length b + length part) c.in_err-sized.field-0.0) c.bytes.ensures c.in_err-sized.ensures))
