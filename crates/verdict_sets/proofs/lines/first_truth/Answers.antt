use Rattle.std.proofs.Common.{refl, arith}
use Rattle.verdict_sets.proofs.lines.first_truth.Goals as goal

pub returns : goal.returns
returns c =
    let s = c.in-Some.ensures in
    record { stretch = c.in-Some.stretch; at = record { from = s.from; to = s.to; longest = s.longest }; same = refl }

pub unreachable-requires : goal.unreachable-requires
unreachable-requires c = omega (arith, c.in-None.ensures.none)
