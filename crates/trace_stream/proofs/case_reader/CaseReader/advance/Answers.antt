-- Rows, and then a line.
use Rattle.std.proofs.Common.{◌≡◌, ℕ, ◌≤◌, ◌+◌, ◌-◌, ◌++◌, false, length, take, drop, sym, ◌∙◌, subst, arith, length-drop}
use Rattle.std.proofs.lemmas.Result.{err_from_is_err_and}
use Rattle.rational.proofs.Lists.{take_rest}
use Rattle.trace_stream.specs.CaseReader.{IsRefused}
use Rattle.trace_stream.specs.Kept.{IsKeptAs}
use Rattle.trace_stream.proofs.PieceParts.{fed, fed_err, some_taken}
use Rattle.trace_stream.proofs.case_reader.CaseReader.advance.Goals as goal

pub take_rows-requires : goal.take_rows-requires
take_rows-requires g c = (c.args.formula.now, c.requires)

pub returns-in_err-rows-clause-taken : goal.returns-in_err-rows-clause-taken
returns-in_err-rows-clause-taken g c =
    let p = err_from_is_err_and c.from_residual.result c.from_residual.ensures.1 in
    rw (p.1, p.2) (λ bytes k.
    subst (IsRefused c.args.self.now.rows.limits c.args.formula.now false (bytes ++ c.args.piece.now)) (sym c.in_err-rows.ensures.memory) tt)

pub step-requires : goal.step-requires
step-requires g c = record {
  bytes = c.requires.bytes ++ take c.in_ok-rows.rows c.args.piece.now;
  is = c.in_ok-rows.ensures.taken c.args.formula.now c.requires.bytes c.requires.is;
}

pub returns-in_err-more-clause-taken : goal.returns-in_err-more-clause-taken
returns-in_err-more-clause-taken g c =
    let p = err_from_is_err_and c.from_residual-in_err-more.result c.from_residual-in_err-more.ensures.1 in
    let n = c.in_ok-rows.rows in
    rw (p.1, p.2) (λ bytes k.
    fed_err c.args.formula.now c.take_rows.new.rows.limits c.args.self.now.rows.limits bytes c.args.piece.now n c.in_err-more.field-0.0
    c.in_ok-rows.ensures.limits
    (c.in_err-more.ensures.taken (bytes ++ take n c.args.piece.now) (c.in_ok-rows.ensures.taken c.args.formula.now bytes k)))

pub returns-in_err-more-clause-limits : goal.returns-in_err-more-clause-limits
returns-in_err-more-clause-limits g c = c.in_err-more.ensures.limits ∙ c.in_ok-rows.ensures.limits

pub returns-clause-taken : goal.returns-clause-taken
returns-clause-taken g c = λ bytes k.
    let n = c.in_ok-rows.rows in
    subst (λ b. IsKeptAs g.K.Keep.stands c.args.formula.now c.step.new.self.rows c.step.new.self.kept b) (fed bytes c.args.piece.now n c.in_ok-more.more)
    (c.in_ok-more.ensures.taken (bytes ++ take n c.args.piece.now) (c.in_ok-rows.ensures.taken c.args.formula.now bytes k))

pub returns-clause-within : goal.returns-clause-within
returns-clause-within g c =
    let piece = c.args.piece.now in
    let n = c.in_ok-rows.rows in
    let rest = take_rest piece n in
    let within = c.in_ok-more.ensures.within in
    let bound : c.in_ok-more.more ≤ length (drop n piece) = rw rest at within in
    omega (arith, bound, length-drop n piece, c.in_ok-rows.ensures.within)

pub returns-clause-progress : goal.returns-clause-progress
returns-clause-progress g c = λ some.
    let piece = c.args.piece.now in
    let n = c.in_ok-rows.rows in
    let rest = take_rest piece n in
    let progress = c.in_ok-more.ensures.progress in
    let on = rw rest at progress in
    some_taken n c.in_ok-more.more (length (drop n piece)) (length piece) some (length-drop n piece) on

pub returns-clause-limits : goal.returns-clause-limits
returns-clause-limits g c = c.in_ok-more.ensures.limits ∙ c.in_ok-rows.ensures.limits
