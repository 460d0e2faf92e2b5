use Rattle.std.proofs.Common.{arith}
use Rattle.session_mux.proofs.RunInputs.{gathered_one}
use Rattle.session_mux.proofs.run.gather.Goals as goal

pub returns-in-Some-clause-gathered : goal.returns-in-Some-clause-gathered
returns-in-Some-clause-gathered c =
    let (content, ends, own) = c.in-Some.ensures in
    gathered_one (omega (arith, c.if-most-gt0.true)) own ends
