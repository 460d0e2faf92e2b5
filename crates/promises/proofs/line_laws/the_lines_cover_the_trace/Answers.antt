use Rattle.promises.proofs.SureLines.{watch_text}
use Rattle.promises.proofs.line_laws.the_lines_cover_the_trace.Goals as goal

pub returns : goal.returns
returns c = λ f bytes text status a. watch_text f bytes status text a
