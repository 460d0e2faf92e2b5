use Rattle.workbench.proofs.top.run.Goals as goal

pub returns-clause-ran : goal.returns-clause-ran
returns-clause-ran g c = c.by_words.ensures.ran

pub returns-clause-read_due : goal.returns-clause-read_due
returns-clause-read_due g c = c.by_words.ensures.calm.read_due

pub returns-clause-write_due : goal.returns-clause-write_due
returns-clause-write_due g c = c.by_words.ensures.calm.write_due

pub returns-clause-unread : goal.returns-clause-unread
returns-clause-unread g c = c.by_words.ensures.untouched.unread

pub returns-clause-nothing : goal.returns-clause-nothing
returns-clause-nothing g c = c.by_words.ensures.untouched.nothing

pub returns-clause-quiet : goal.returns-clause-quiet
returns-clause-quiet g c = c.by_words.ensures.calm.quiet

pub returns-clause-unkept : goal.returns-clause-unkept
returns-clause-unkept g c = c.by_words.ensures.untouched.unkept

pub returns-clause-input_later : goal.returns-clause-input_later
returns-clause-input_later g c = c.by_words.ensures.calm.input_later

pub returns-clause-out_later : goal.returns-clause-out_later
returns-clause-out_later g c = c.by_words.ensures.calm.out_later

pub returns-clause-err_later : goal.returns-clause-err_later
returns-clause-err_later g c = c.by_words.ensures.calm.err_later
