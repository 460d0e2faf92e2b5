use Rattle.std.proofs.Common.{◌≡◌, ◌∙◌, sym, Some, None}
use Rattle.rational.proofs.Lists.{some_of}
use Rattle.early_verdict.proofs.NextRow.{none_if}
use Rattle.early_verdict.proofs.progress.let_go_by.Goals as goal

pub returns-then-is_some : goal.returns-then-is_some
returns-then-is_some c = λ e.
    absurd (let d = some_of c.args.decided.now (sym c.is_some.ensures ∙ c.if-is_some.true) in let f : Some d.0 ≡ None = sym d.1 ∙ e in cc)

pub returns-then-net-lt-ROWS_BETWEEN : goal.returns-then-net-lt-ROWS_BETWEEN
returns-then-net-lt-ROWS_BETWEEN c = λ e tr h. h

pub let_go-requires : goal.let_go-requires
let_go-requires c = c.requires (none_if c.args.decided.now (sym c.is_some.ensures ∙ c.if-is_some.false))

pub returns : goal.returns
returns c = λ e. c.let_go.ensures
