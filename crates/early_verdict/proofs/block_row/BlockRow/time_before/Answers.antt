use Rattle.std.proofs.Common.{◌≡◌, [], sym, subst}
use Rattle.std.specs.Prelude.{IfSome}
use Rattle.early_verdict.proofs.BlockLemmas.{row_before_is}
use Rattle.early_verdict.proofs.block_row.BlockRow.time_before.Goals as goal

pub returns : goal.returns
returns c =
    let x = c.args.self.now in
    subst (λ o. IfSome o (λ q. c.time.result ≡ q.time)) (sym (row_before_is x.block.now x.at c.requires)) (c.time.ensures (record { time = 0; values = [] }))
