use Rattle.online_nodes.proofs.answering.since_all.Goals as goal

pub since_on-requires-clause-fits_run : goal.since_on-requires-clause-fits_run
since_on-requires-clause-fits_run c = c.requires.able.4 c.args.out
