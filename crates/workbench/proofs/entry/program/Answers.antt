use Rattle.workbench.proofs.entry.program.Goals as goal

pub returns-in-Some-clause-ran : goal.returns-in-Some-clause-ran
returns-in-Some-clause-ran g c = rw (c.in-Some.is, ← c.deref.ensures.value) c.run_alone.ensures.ran

pub returns-in-Some-clause-nothing : goal.returns-in-Some-clause-nothing
returns-in-Some-clause-nothing g c = rw (c.in-Some.is, ← c.deref.ensures.value) c.run_alone.ensures.nothing
