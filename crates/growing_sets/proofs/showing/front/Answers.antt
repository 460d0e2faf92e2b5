use Rattle.std.proofs.Common.{sym}
use Rattle.growing_sets.proofs.SpanLemmas.{nothing_first}
use Rattle.growing_sets.proofs.showing.front.Goals as goal

pub returns-in_default-clause-none : goal.returns-in_default-clause-none
returns-in_default-clause-none c = nothing_first c.args.spans.now.items c.in_default.ensures.one

pub returns-clause-some : goal.returns-clause-some
returns-clause-some c = sym c.in-Some.ensures.one
