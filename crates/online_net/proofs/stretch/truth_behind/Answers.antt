use Rattle.std.proofs.Common.{arith}
use Rattle.online_net.proofs.stretch.truth_behind.Goals as goal

pub returns-then-begin-first-clause-turns : goal.returns-then-begin-first-clause-turns
returns-then-begin-first-clause-turns c = λ h. absurd (omega (arith, h, c.if-begin-first.true))

pub returns-clause-stays : goal.returns-clause-stays
returns-clause-stays c = λ h. absurd (omega (arith, h, c.if-begin-first.false))
