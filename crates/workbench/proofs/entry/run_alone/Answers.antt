use Rattle.workbench.proofs.entry.run_alone.Goals as goal

pub returns-clause-ran : goal.returns-clause-ran
returns-clause-ran g c = (c.run.new.kept, c.run.ensures.ran)
