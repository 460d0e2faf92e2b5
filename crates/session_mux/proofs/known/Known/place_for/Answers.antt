use Rattle.std.proofs.Common.{length, arith, sym, subst}
use Rattle.std.proofs.lemmas.List.{take_all}
use Rattle.std.proofs.lemmas.Result.{err_from_is_err_and}
use Rattle.session_mux.specs.Knowing.{shown, IsSessionAt}
use Rattle.session_mux.proofs.KnowingLemmas.{ready_known}
use Rattle.session_mux.proofs.known.Known.place_for.Goals as goal

pub returns-in-Some-clause-ready : goal.returns-in-Some-clause-ready
returns-in-Some-clause-ready c = λ f seen x k same.
    ready_known f seen x c.in-Some.place (shown c.args.self.now) k
    (subst (λ t. IsSessionAt c.args.self.now.sessions.items c.in-Some.place t) (sym same) c.in-Some.ensures)

pub returns-in_err-place-clause-ready : goal.returns-in_err-place-clause-ready
returns-in_err-place-clause-ready c =
    let p = err_from_is_err_and c.from_residual.result c.from_residual.ensures.1 in
    rw (p.1, p.2) (λ f seen x k same. c.in_err-place.ensures.ready f seen x k same)

pub returns-clause-ready : goal.returns-clause-ready
returns-clause-ready c = λ f seen x k same. c.in_ok-place.ensures.ready f seen x k same

pub returns-in-Some-clause-kept : goal.returns-in-Some-clause-kept
returns-in-Some-clause-kept c = take_all (length c.args.self.now.sessions.items) c.args.self.now.sessions.items (omega arith)
