use Rattle.frac128.specs.Cuts.{place}
use Rattle.implicants.proofs.AddedRuns.{short_piece}
use Rattle.implicants.proofs.runs.short_span.Goals as goal

pub returns : goal.returns
returns c = short_piece c.args.best (place c.args.from.now) c.args.piece.now c.span_between.result c.span_between.ensures.begin c.span_between.ensures.end
    (c.says.ensures.no c.if-says.false)
