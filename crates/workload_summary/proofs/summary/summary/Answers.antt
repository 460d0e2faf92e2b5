use Rattle.std.proofs.Common.{◌∙◌}
use Rattle.std.proofs.lemmas.Result.{IfOk-weaker}
use Rattle.workload.specs.Generated.{generated}
use Rattle.workload_summary.proofs.Summaries.{generated_whole, summed}
use Rattle.workload_summary.proofs.summary.summary.Goals as goal

pub checked-requires : goal.checked-requires
checked-requires c = (
  generated c.args.number c.args.rows,
  generated_whole c.args.number c.args.rows c.requires.some c.requires.few c.in_ok-formula.formula
      c.bytes-bytes.result.now c.in_ok-formula.ensures (c.bytes-bytes.ensures ∙ c.in_ok-trace.ensures),
)

pub watched-requires : goal.watched-requires
watched-requires c = (
  generated c.args.number c.args.rows,
  generated_whole c.args.number c.args.rows c.requires.some c.requires.few c.in_ok-formula.formula
      c.bytes-bytes.result.now c.in_ok-formula.ensures (c.bytes-bytes.ensures ∙ c.in_ok-trace.ensures),
)

pub returns : goal.returns
returns c =
    let whole = generated_whole c.args.number c.args.rows c.requires.some c.requires.few c.in_ok-formula.formula
    c.bytes-bytes.result.now c.in_ok-formula.ensures (c.bytes-bytes.ensures ∙ c.in_ok-trace.ensures) in
    let trace = generated c.args.number c.args.rows in
    IfOk-weaker c.counts.result _ _
    (λ text parts. summed c.args.number c.args.rows c.in_ok-check_lines.check_lines c.in_ok-watch_lines.watch_lines c.in_ok-check_lines.holds
    c.in_ok-formula.formula c.in_ok-formula.ensures (c.in_ok-check_lines.ensures trace whole) (c.in_ok-watch_lines.ensures trace whole) text parts)
    c.counts.ensures
