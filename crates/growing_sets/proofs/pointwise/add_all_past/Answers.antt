use Rattle.std.proofs.Common.{refl, take, length}
use Rattle.std.proofs.lemmas.Option.{slice_get_read}
use Rattle.frac128.specs.Cuts.{place}
use Rattle.growing_sets.specs.Steps.{BySome, IsPast}
use Rattle.growing_sets.proofs.AddLemmas.{adds_none, adds_on, adds_all}
use Rattle.growing_sets.proofs.pointwise.add_all_past.Goals as goal

pub loop-part-init : goal.loop-part-init
loop-part-init c = adds_none (BySome (IsPast (place c.args.cut.now)) (take 0 c.args.parts.now)) c.requires (λ t b h. h)

pub loop-part-preserved : goal.loop-part-preserved
loop-part-preserved c =
    adds_on (IsPast (place c.args.cut.now)) c.args.parts.now c.loop-part.part-index
    (slice_get_read c.args.parts.now (length c.args.parts.now) c.loop-part.part-index c.part-item.result refl c.loop-part-test.true c.part-item.is)
    c.loop-part.invariant c.in_ok-add_past.ensures.ok

pub returns-clause-ok : goal.returns-clause-ok
returns-clause-ok c =
    adds_all (IsPast (place c.args.cut.now)) c.args.parts.now c.loop-part.part-index
    c.loop-part-test.false c.loop-part.invariant
