use Rattle.std.proofs.Common.{refl, take, length}
use Rattle.std.proofs.lemmas.Option.{slice_get_read}
use Rattle.frac128.specs.Cuts.{place}
use Rattle.growing_sets.specs.Steps.{BySome}
use Rattle.growing_sets.specs.Reaching.{ReachesAt}
use Rattle.growing_sets.proofs.AddLemmas.{adds_none, adds_on, adds_all}
use Rattle.growing_sets.proofs.reach.add_all_reaching.Goals as goal

pub loop-part-init : goal.loop-part-init
loop-part-init c =
    adds_none (BySome (ReachesAt c.args.runs.now.items c.args.spans.now.items (place c.args.sure.now)) (take 0 c.args.parts.now)) c.requires.own (λ t b h. h)

pub loop-part-preserved : goal.loop-part-preserved
loop-part-preserved c =
    adds_on (ReachesAt c.args.runs.now.items c.args.spans.now.items (place c.args.sure.now)) c.args.parts.now c.loop-part.part-index
    (slice_get_read c.args.parts.now (length c.args.parts.now) c.loop-part.part-index c.part-item.result refl c.loop-part-test.true c.part-item.is)
    c.loop-part.invariant c.in_ok-add_reaching_at.ensures.ok

pub returns-clause-ok : goal.returns-clause-ok
returns-clause-ok c =
    adds_all (ReachesAt c.args.runs.now.items c.args.spans.now.items (place c.args.sure.now)) c.args.parts.now c.loop-part.part-index
    c.loop-part-test.false c.loop-part.invariant
