use Rattle.workbench.proofs.leave.VerdictsLeave.leave.Goals as goal

pub returns : goal.returns
returns c = λ bytes text done. let (holds, stands) = c.ended.ensures bytes text done in (text, holds, stands)
