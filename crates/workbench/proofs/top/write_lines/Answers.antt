use Rattle.workbench.specs.Wholes.{all_of_it, a_part}
use Rattle.workbench.proofs.top.write_lines.Goals as goal

pub returns-in-Ok-clause-written : goal.returns-in-Ok-clause-written
returns-in-Ok-clause-written g c = let (text, left, wrote) = c.in-Ok.ensures.written in (text, left, all_of_it wrote)

pub returns-in-Err-clause-written : goal.returns-in-Err-clause-written
returns-in-Err-clause-written g c = let (text, left, wrote) = c.in-Err.ensures.written in (text, left, a_part wrote)
