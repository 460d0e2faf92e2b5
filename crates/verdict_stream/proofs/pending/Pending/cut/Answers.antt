use Rattle.std.proofs.Common.{◌<◌, length, refl, subst, Some}
use Rattle.std.specs.Prelude.{slice_set}
use Rattle.verdict_stream.specs.Pendings.{IsCut}
use Rattle.verdict_stream.proofs.CutVerdicts.{cut_is}
use Rattle.verdict_stream.proofs.pending.Pending.cut.Goals as goal

pub returns : goal.returns
returns c =
    let items = c.self.inside.verdicts.items in
    let some : 0 < length items = subst (λ n. 0 < n) c.self.inside.verdicts.ok.0 (c.in-Some.ensures.variant.0 refl) in
    subst (λ l. IsCut c.args.front l (Some c.part_before-part.result) (slice_set items 0 c.leave_after.new.verdict)) c.self.view_is
    (cut_is c.args.front items c.index_mut-first.result.now c.part_before-part.result c.leave_after.new.verdict some c.index_mut-first.ensures.value
    (c.begins_by.ensures.0 c.if-not-begins_by.false) c.part_before-part.ensures c.leave_after.ensures)
