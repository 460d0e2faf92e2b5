-- The last row is that of the trace.
use Rattle.std.proofs.Common.{refl}
use Rattle.trace_reader.proofs.content.Content.pass.Goals as goal

pub returns : goal.returns
returns c = λ before r e. rw (← c.self.view_is, c.set_last.ensures before r e) refl
