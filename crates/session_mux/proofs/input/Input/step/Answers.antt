use Rattle.std.proofs.Common.{sym, subst}
use Rattle.session_mux.specs.Taking.{IsTaking}
use Rattle.session_mux.specs.declared.input.Input.{Input}
use Rattle.session_mux.proofs.RunInputs.{nothing_taken}
use Rattle.session_mux.proofs.input.Input.step.Goals as goal
use Rattle.session_mux.proofs.input.Input.step.Goals.{then-may_run+in_ok-taken+else-taken-gt0, else-may_run}

pub returns-clause-taken : goal.returns-clause-taken
returns-clause-taken c = λ f bytes written k.
    c.take_line.ensures.taken f bytes written (elim c.if-may_run.branch [
      | then-may_run+in_ok-taken+else-taken-gt0 w ↦ subst (λ (s : Input). IsTaking f s bytes written) (sym w.self-is)
          (nothing_taken f w.take_run.new.self bytes written c.args.piece.now w.in_ok-taken.taken w.if-taken-gt0.false
          (w.in_ok-taken.ensures.taken f bytes written k))
      | else-may_run w ↦ subst (λ (s : Input). IsTaking f s bytes written) (sym w.self-is) k
    ])
