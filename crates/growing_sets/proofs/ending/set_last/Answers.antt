use Rattle.std.proofs.Common.{◌∙◌, arith}
use Rattle.growing_sets.proofs.EndingLemmas.{set_last_is, none_last}
use Rattle.growing_sets.proofs.ending.set_last.Goals as goal

pub returns-then-count-eq0 : goal.returns-then-count-eq0
returns-then-count-eq0 c = λ front last e. let n = c.len-count.ensures.len in absurd (none_last c.args.spans.now.items front last (omega arith) e)

pub returns : goal.returns
returns c = λ front last e.
    c.set.ensures ∙ set_last_is c.args.spans.now.items front last c.args.stretch c.len-count.result c.len-count.ensures.len e
