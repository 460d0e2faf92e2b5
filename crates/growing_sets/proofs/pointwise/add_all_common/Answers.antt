use Rattle.std.proofs.Common.{refl, take, length}
use Rattle.std.proofs.lemmas.Option.{slice_get_read}
use Rattle.growing_sets.specs.Steps.{BySome, Common}
use Rattle.growing_sets.proofs.AddLemmas.{adds_none, adds_on, adds_all}
use Rattle.growing_sets.proofs.pointwise.add_all_common.Goals as goal

pub loop-part-init : goal.loop-part-init
loop-part-init c = adds_none (BySome (Common c.args.spans.now.items) (take 0 c.args.parts.now)) c.requires.own (λ t b h. h)

pub loop-part-preserved : goal.loop-part-preserved
loop-part-preserved c =
    adds_on (Common c.args.spans.now.items) c.args.parts.now c.loop-part.part-index
    (slice_get_read c.args.parts.now (length c.args.parts.now) c.loop-part.part-index c.part-item.result refl c.loop-part-test.true c.part-item.is)
    c.loop-part.invariant c.in_ok-add_common.ensures.ok

pub returns-clause-ok : goal.returns-clause-ok
returns-clause-ok c =
    adds_all (Common c.args.spans.now.items) c.args.parts.now c.loop-part.part-index
    c.loop-part-test.false c.loop-part.invariant
