use Rattle.std.proofs.Common.{◌≤◌, ◌++◌, length, take, drop, refl, sym, ◌∙◌, subst, arith, append-nil, length-drop, take_all}
use Rattle.std.proofs.lemmas.Result.{err_from_is_err_and}
use Rattle.rational.proofs.Lists.{take_rest}
use Rattle.trace_stream.specs.Kept.{IsKeptAs}
use Rattle.trace_stream.proofs.PieceParts.{fed, fed_err}
use Rattle.trace_stream.proofs.case_reader.CaseReader.feed.Goals as goal

pub loop-at-init : goal.loop-at-init
loop-at-init g c = record {
  within = omega arith;
  limits = refl;
  taken = λ bytes k. subst (λ b. IsKeptAs g.K.Keep.stands c.args.formula.now c.args.self.now.rows c.args.self.now.kept b) (sym (append-nil bytes)) k;
}

pub advance-requires : goal.advance-requires
advance-requires g c = record {
  bytes = c.requires.bytes ++ take c.loop-at.at c.args.piece.now;
  is = c.loop-at.invariant.taken c.requires.bytes c.requires.is;
}

pub returns-in_err-at-clause-taken : goal.returns-in_err-at-clause-taken
returns-in_err-at-clause-taken g c =
    let p = err_from_is_err_and c.from_residual.result c.from_residual.ensures.1 in
    rw (p.1, p.2) (λ bytes k.
    fed_err c.args.formula.now c.loop-at.self.rows.limits c.args.self.now.rows.limits bytes c.args.piece.now c.loop-at.at c.in_err-at.field-0.0
    c.loop-at.invariant.limits
    (c.in_err-at.ensures.taken (bytes ++ take c.loop-at.at c.args.piece.now) (c.loop-at.invariant.taken bytes k)))

pub returns-in_err-at-clause-limits : goal.returns-in_err-at-clause-limits
returns-in_err-at-clause-limits g c = c.in_err-at.ensures.limits ∙ c.loop-at.invariant.limits

pub loop-at-preserved : goal.loop-at-preserved
loop-at-preserved g c =
    let within = c.in_ok-at.ensures.within in
    let rest = take_rest c.args.piece.now c.loop-at.at in
    let bound : c.in_ok-at.field-0 ≤ length (drop c.loop-at.at c.args.piece.now) = rw rest at within in
    record {
      within = omega (arith, length-drop c.loop-at.at c.args.piece.now);
      limits = c.in_ok-at.ensures.limits ∙ c.loop-at.invariant.limits;
      taken = λ bytes k. subst (λ b. IsKeptAs g.K.Keep.stands c.args.formula.now c.advance.new.self.rows c.advance.new.self.kept b)
          (fed bytes c.args.piece.now c.loop-at.at c.in_ok-at.field-0)
          (c.in_ok-at.ensures.taken (bytes ++ take c.loop-at.at c.args.piece.now) (c.loop-at.invariant.taken bytes k));
    }

pub returns-clause-taken : goal.returns-clause-taken
returns-clause-taken g c = λ bytes k. subst (λ b. IsKeptAs g.K.Keep.stands c.args.formula.now c.loop-at.self.rows c.loop-at.self.kept (bytes ++ b))
    (take_all c.loop-at.at c.args.piece.now c.loop-at-test.false) (c.loop-at.invariant.taken bytes k)

pub returns-clause-limits : goal.returns-clause-limits
returns-clause-limits g c = c.loop-at.invariant.limits
