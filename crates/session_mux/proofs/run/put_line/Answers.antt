use Rattle.answer_lines.proofs.TextsBehind.{add_then}
use Rattle.session_mux.proofs.run.put_line.Goals as goal

pub returns : goal.returns
returns c = add_then c.put_front-end.ensures c.add_byte.ensures
