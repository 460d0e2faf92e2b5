use Rattle.std.proofs.Common.{sym}
use Rattle.frac128.specs.Cuts.{place}
use Rattle.growing_sets.proofs.SpanLemmas.{nothing_from, begins_from}
use Rattle.growing_sets.proofs.touching.begins_by.Goals as goal

pub returns-in_default-clause-none : goal.returns-in_default-clause-none
returns-in_default-clause-none c = nothing_from (place c.args.cut.now) c.args.spans.now.items c.args.at c.in_default.ensures.one

pub returns-then-precedes-clause-none : goal.returns-then-precedes-clause-none
returns-then-precedes-clause-none c =
    begins_from (place c.args.cut.now) c.args.spans.now.items c.args.at c.in-Some.next c.in-Some.ensures.one (c.precedes.ensures.0 c.if-precedes.true)

pub returns-clause-some : goal.returns-clause-some
returns-clause-some c = (sym c.in-Some.ensures.one, λ b. let x = c.precedes.ensures.1 b in let y = c.if-precedes.false in cc)
