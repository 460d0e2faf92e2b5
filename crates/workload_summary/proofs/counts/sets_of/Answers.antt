use Rattle.std.proofs.Common.{[], true, false, sym, subst, ◌∙◌}
use Rattle.trace_reader.specs.declared.refusal.Limits.{Limits}
use Rattle.trace_stream.specs.CaseReader.{IsSound}
use Rattle.workload_summary.proofs.WholeBytes.{memory_alone}
use Rattle.workload_summary.proofs.counts.sets_of.Goals as goal

pub feed-requires : goal.feed-requires
feed-requires c = record { bytes = []; is = c.in_ok-reading.ensures.kept }

pub memory_of-requires : goal.memory_of-requires
memory_of-requires c =
    let (tr, whole) = c.requires in
    let limits = c.in_ok-reading.ensures.limits in
    memory_alone c.in_ok-reading.reading.rows.limits c.args.formula.now c.args.bytes.now false c.in-Err.stop
    (subst (λ (l : Limits). IsSound l c.args.formula.now c.args.bytes.now true) (sym limits) whole.sound)
    (c.in-Err.ensures.taken [] c.in_ok-reading.ensures.kept)

pub finish-requires : goal.finish-requires
finish-requires c = record { bytes = c.args.bytes.now; is = c.in_default.ensures.taken [] c.in_ok-reading.ensures.kept }

pub memory_of-requires-in-Err-finish : goal.memory_of-requires-in-Err-finish
memory_of-requires-in-Err-finish c =
    let (tr, whole) = c.requires in
    let limits = c.in_default.ensures.limits ∙ c.in_ok-reading.ensures.limits in
    memory_alone c.feed.new.self.rows.limits c.args.formula.now c.args.bytes.now true c.in-Err-finish.stop
    (subst (λ (l : Limits). IsSound l c.args.formula.now c.args.bytes.now true) (sym limits) whole.sound)
    (c.in-Err-finish.ensures c.args.bytes.now (c.in_default.ensures.taken [] c.in_ok-reading.ensures.kept))
