use Rattle.promises.proofs.CheckPromises.{run_bound, run_form, run_bad, run_bad_due, run_refused, run_due, run_answer_due}
use Rattle.promises.proofs.CheckPromises.{run_read, run_write, run_all_read, run_answered, run_cut_off, run_said}
use Rattle.promises.proofs.laws.check_keeps_its_promises.Goals as goal

pub returns-clause-status : goal.returns-clause-status
returns-clause-status c = λ words text i o e status ask r. run_bound words ask i o e r

pub returns-clause-form : goal.returns-clause-form
returns-clause-form c = λ words text i o e status ask r. run_form words ask i o e r

pub returns-clause-formula : goal.returns-clause-formula
returns-clause-formula c = λ words text i o e status ask r. run_bad words ask i o e r

pub returns-clause-formula_due : goal.returns-clause-formula_due
returns-clause-formula_due c = λ words text i o e status ask r. run_bad_due words ask i o e r

pub returns-clause-refused : goal.returns-clause-refused
returns-clause-refused c = λ words text i o e status ask r. run_refused words ask i o e r

pub returns-clause-due : goal.returns-clause-due
returns-clause-due c = λ words text i o e status ask r. run_due words ask i o e r

pub returns-clause-answer_due : goal.returns-clause-answer_due
returns-clause-answer_due c = λ words text i o e status ask r. run_answer_due words ask i o e r

pub returns-clause-read : goal.returns-clause-read
returns-clause-read c = λ words text i o e status ask r. run_read words ask i o e r

pub returns-clause-write : goal.returns-clause-write
returns-clause-write c = λ words text i o e status ask r. run_write words ask i o e r

pub returns-clause-all_read : goal.returns-clause-all_read
returns-clause-all_read c = λ words text i o e status ask r. run_all_read words ask i o e r

pub returns-clause-answered : goal.returns-clause-answered
returns-clause-answered c = λ words text i o e status ask r. run_answered words ask i o e r

pub returns-clause-cut_off : goal.returns-clause-cut_off
returns-clause-cut_off c = λ words text i o e status ask r. run_cut_off words ask i o e r

pub returns-clause-said : goal.returns-clause-said
returns-clause-said c = λ words text i o e status ask r. run_said words ask i o e r
