use Rattle.pieces.proofs.stream.Stream.meets_constant.Goals as goal

pub returns-clause-steps : goal.returns-clause-steps
returns-clause-steps g c s known next is = known.by_steps c.in_default.is
