use Rattle.std.proofs.Common.{inl, refl}
use Rattle.session_mux.proofs.LastLines.{behind_ends, behind_line, whole_line}
use Rattle.session_mux.proofs.recent.last_begins.Goals as goal

pub returns-in-Some-clause-ends : goal.returns-in-Some-clause-ends
returns-in-Some-clause-ends c = behind_ends c.args.text.now c.requires c.in-Some.at c.in-Some.ensures.0 c.in-Some.ensures.1

pub returns-in-Some-clause-line : goal.returns-in-Some-clause-line
returns-in-Some-clause-line c = behind_line c.args.text.now c.requires c.in-Some.at c.in-Some.ensures.0 c.in-Some.ensures.1

pub returns-in-None-clause-ends : goal.returns-in-None-clause-ends
returns-in-None-clause-ends c = inl refl

pub returns-in-None-clause-line : goal.returns-in-None-clause-line
returns-in-None-clause-line c = whole_line c.args.text.now c.requires c.in-None.ensures
