use Rattle.std.proofs.lemmas.Result.{on_ok_weaker}
use Rattle.report.specs.TableRows.{rows_text}
use Rattle.report.proofs.table.put_block.Goals as goal

pub returns-clause-ok : goal.returns-clause-ok
returns-clause-ok c =
    on_ok_weaker c.hand_over.result (λ e. (rows_text c.put_records.new.rows, c.in_ok-put_records.ensures, e)) c.hand_over.ensures.ok
