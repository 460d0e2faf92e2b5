use Rattle.std.proofs.Common.{◌≤◌, ◌++◌, length, take, drop, false, sym, ap, ◌∙◌, subst, arith}
use Rattle.std.proofs.Common.{append-nil, append_assoc, take-append-drop, length-drop, take_all}
use Rattle.std.proofs.lemmas.Result.{err_from_is_err_and}
use Rattle.rational.proofs.Lists.{take_rest}
use Rattle.trace_stream.proofs.PieceParts.{fed}
use Rattle.session_mux.specs.Taking.{IsTaking, IsInputStop}
use Rattle.session_mux.proofs.input.Input.feed.Goals as goal

pub loop-at-init : goal.loop-at-init
loop-at-init c = record {
  within = omega arith;
  taken = λ f bytes written k. subst (λ b. IsTaking f c.args.self.now b written) (sym (append-nil bytes)) k;
}

pub step-requires : goal.step-requires
step-requires c = record {
  formula = c.requires.formula;
  bytes = c.requires.bytes ++ take c.loop-at.at c.args.piece.now;
  written = c.requires.written;
  is = c.loop-at.invariant.taken c.requires.formula c.requires.bytes c.requires.written c.requires.is;
}

pub returns-in_err-at : goal.returns-in_err-at
returns-in_err-at c =
    let p = err_from_is_err_and c.from_residual.result c.from_residual.ensures.1 in
    let piece = c.args.piece.now in
    let at = c.loop-at.at in
    rw (p.1, p.2) (λ f bytes written k.
    subst (λ b. IsInputStop f b false (written ++ c.step.new.self.text) c.in_err-at.field-0.0)
    (append_assoc bytes (take at piece) (drop at piece) ∙ ap (λ b. bytes ++ b) (take-append-drop at piece))
    (subst (λ b. IsInputStop f ((bytes ++ take at piece) ++ b) false (written ++ c.step.new.self.text) c.in_err-at.field-0.0) (take_rest piece at)
    (c.in_err-at.ensures.taken f (bytes ++ take at piece) written (c.loop-at.invariant.taken f bytes written k))))

pub loop-at-preserved : goal.loop-at-preserved
loop-at-preserved c =
    let within = c.in_ok-at.ensures.within in
    let rest = take_rest c.args.piece.now c.loop-at.at in
    let bound : c.in_ok-at.field-0 ≤ length (drop c.loop-at.at c.args.piece.now) = rw rest at within in
    record {
      within = omega (arith, length-drop c.loop-at.at c.args.piece.now);
      taken = λ f bytes written k. subst (λ b. IsTaking f c.step.new.self b written)
          (fed bytes c.args.piece.now c.loop-at.at c.in_ok-at.field-0)
          (c.in_ok-at.ensures.taken f (bytes ++ take c.loop-at.at c.args.piece.now) written (c.loop-at.invariant.taken f bytes written k));
    }

pub returns : goal.returns
returns c = λ f bytes written k. subst (λ b. IsTaking f c.loop-at.self (bytes ++ b) written)
    (take_all c.loop-at.at c.args.piece.now c.loop-at-test.false) (c.loop-at.invariant.taken f bytes written k)
