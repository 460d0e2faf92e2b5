-- The text up to its first colon.
use Rattle.std.proofs.Common.{sym}
use Rattle.trace_reader.proofs.HeadingLemmas.{colon_name, no_colon_name}
use Rattle.trace_reader.proofs.heading.cut_name.Goals as goal

pub returns-in-Some-clause-name : goal.returns-in-Some-clause-name
returns-in-Some-clause-name c = sym (colon_name c.args.field.now c.in-Some.at c.in-Some.ensures.0 c.in-Some.ensures.1)

pub returns-in-None-clause-name : goal.returns-in-None-clause-name
returns-in-None-clause-name c = sym (no_colon_name c.args.field.now c.in-None.ensures)
