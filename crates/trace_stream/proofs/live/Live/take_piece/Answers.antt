use Rattle.std.proofs.Common.{◌≤◌, ◌++◌, length, take, drop, false, refl, sym, ◌∙◌, subst, arith, append-nil, length-drop, take_all}
use Rattle.std.proofs.lemmas.Result.{err_from_is_err_and}
use Rattle.rational.proofs.Lists.{take_rest}
use Rattle.stl_syntax.specs.Formula.{Formula}
use Rattle.trace_reader.specs.declared.refusal.Limits.{Limits}
use Rattle.trace_stream.specs.Following.{IsLiveOpen, IsOpenStop}
use Rattle.trace_stream.proofs.PieceParts.{fed}
use Rattle.trace_stream.proofs.ReaderSteps.{live_fed}
use Rattle.trace_stream.proofs.live.Live.take_piece.Goals as goal

pub loop-at-init : goal.loop-at-init
loop-at-init g c = record {
  within = omega arith;
  limits = refl;
  formula = refl;
  taken = λ bytes written k. subst (λ b. IsLiveOpen g.F.Follow.stands g.F.Follow.owes g.F.Follow.kind c.args.self.now b written) (sym (append-nil bytes)) k;
}

pub advance-requires : goal.advance-requires
advance-requires g c = record {
  bytes = c.requires.bytes ++ take c.loop-at.at c.args.piece.now;
  written = c.requires.written;
  is = c.loop-at.invariant.taken c.requires.bytes c.requires.written c.requires.is;
}

pub returns-in_err-at-clause-taken : goal.returns-in_err-at-clause-taken
returns-in_err-at-clause-taken g c =
    let p = err_from_is_err_and c.from_residual.result c.from_residual.ensures.1 in
    let piece = c.args.piece.now in
    rw (p.1, p.2) (λ bytes written k.
    live_fed g.F.Follow.stands g.F.Follow.owes g.F.Follow.kind c.args.self.now.rows.limits c.args.self.now.formula bytes piece
    (written ++ c.advance.new.self.text) c.loop-at.at c.advance.new.self.follower c.in_err-at.field-0.0
    (subst (λ (l : Limits). IsOpenStop g.F.Follow.stands g.F.Follow.owes g.F.Follow.kind l c.args.self.now.formula false ((bytes ++ take c.loop-at.at piece)
    ++ drop c.loop-at.at piece) c.advance.new.self.follower (written ++ c.advance.new.self.text) c.in_err-at.field-0.0) c.loop-at.invariant.limits
    (subst (λ (f : Formula). IsOpenStop g.F.Follow.stands g.F.Follow.owes g.F.Follow.kind c.loop-at.self.rows.limits f false
    ((bytes ++ take c.loop-at.at piece) ++ drop c.loop-at.at piece) c.advance.new.self.follower (written ++ c.advance.new.self.text) c.in_err-at.field-0.0)
    c.loop-at.invariant.formula
    (subst (λ b. IsOpenStop g.F.Follow.stands g.F.Follow.owes g.F.Follow.kind c.loop-at.self.rows.limits c.loop-at.self.formula false
    ((bytes ++ take c.loop-at.at piece) ++ b) c.advance.new.self.follower (written ++ c.advance.new.self.text) c.in_err-at.field-0.0)
    (take_rest piece c.loop-at.at)
    (c.in_err-at.ensures.taken (bytes ++ take c.loop-at.at piece) written (c.loop-at.invariant.taken bytes written k))))))

pub returns-in_err-at-clause-limits : goal.returns-in_err-at-clause-limits
returns-in_err-at-clause-limits g c = c.in_err-at.ensures.limits ∙ c.loop-at.invariant.limits

pub returns-in_err-at-clause-formula : goal.returns-in_err-at-clause-formula
returns-in_err-at-clause-formula g c = c.in_err-at.ensures.formula ∙ c.loop-at.invariant.formula

pub loop-at-preserved : goal.loop-at-preserved
loop-at-preserved g c =
    let within = c.in_ok-at.ensures.within in
    let rest = take_rest c.args.piece.now c.loop-at.at in
    let bound : c.in_ok-at.field-0 ≤ length (drop c.loop-at.at c.args.piece.now) = rw rest at within in
    record {
      within = omega (arith, length-drop c.loop-at.at c.args.piece.now);
      limits = c.in_ok-at.ensures.limits ∙ c.loop-at.invariant.limits;
      formula = c.in_ok-at.ensures.formula ∙ c.loop-at.invariant.formula;
      taken = λ bytes written k. subst (λ b. IsLiveOpen g.F.Follow.stands g.F.Follow.owes g.F.Follow.kind c.advance.new.self b written)
          (fed bytes c.args.piece.now c.loop-at.at c.in_ok-at.field-0)
          (c.in_ok-at.ensures.taken (bytes ++ take c.loop-at.at c.args.piece.now) written (c.loop-at.invariant.taken bytes written k));
    }

pub returns-clause-taken : goal.returns-clause-taken
returns-clause-taken g c = λ bytes written k. subst (λ b. IsLiveOpen g.F.Follow.stands g.F.Follow.owes g.F.Follow.kind c.loop-at.self (bytes ++ b) written)
    (take_all c.loop-at.at c.args.piece.now c.loop-at-test.false) (c.loop-at.invariant.taken bytes written k)

pub returns-clause-limits : goal.returns-clause-limits
returns-clause-limits g c = c.loop-at.invariant.limits

pub returns-clause-formula : goal.returns-clause-formula
returns-clause-formula g c = c.loop-at.invariant.formula
