use Rattle.std.proofs.Common.{arith}
use Rattle.verdict_stream.proofs.FollowedCases.{alone_of}
use Rattle.verdict_stream.proofs.verdicts.Verdicts.came_alone.Goals as goal

pub returns-then-saturating_sub-eq2 : goal.returns-then-saturating_sub-eq2
returns-then-saturating_sub-eq2 c = λ yes case made more h.
    let v = c.args.self.now in
    alone_of v case made more h (omega (arith, c.saturating_sub.ensures, c.rows.ensures.count, c.if-saturating_sub-eq2.true)) (c.owes_none.ensures yes)
