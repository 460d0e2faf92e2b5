use Rattle.std.proofs.lemmas.Result.{err_from_is_err_and}
use Rattle.session_mux.proofs.InputBytes.{all_taken}
use Rattle.session_mux.proofs.input.Input.finish.Goals as goal

pub returns-in_err-last : goal.returns-in_err-last
returns-in_err-last c =
    let p = err_from_is_err_and c.from_residual.result c.from_residual.ensures.1 in
    rw (p.1, p.2) (λ f bytes written k. c.in_err-last.ensures f bytes written k)

pub returns-in-Ok : goal.returns-in-Ok
returns-in-Ok c = λ f bytes written k.
    all_taken f c.args.self.now bytes written k c.last.new.self.mux c.end.new.self c.last.new.self.text c.end.new.out (c.in_ok-last.ensures f bytes written k)
    (λ past stands. c.in-Ok.ensures.ended past stands)
