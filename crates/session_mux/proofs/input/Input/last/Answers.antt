use Rattle.std.proofs.Common.{◌≡◌, false, List, ℕ, length, subst}
use Rattle.std.specs.Prelude.{◌==◌}
use Rattle.session_mux.proofs.InputBytes.{last_some, not_none}
use Rattle.session_mux.proofs.input.Input.last.Goals as goal

pub returns : goal.returns
returns c = λ f bytes written k.
    let i = c.args.self.now in
    last_some f i bytes written k (not_none i.part (subst (λ (b : List ℕ). false ≡ (length b == 0)) c.bytes.ensures c.if-is_empty.ensures))
    c.answer.new.self c.answer.result (c.answer.ensures.lines f bytes written k)
