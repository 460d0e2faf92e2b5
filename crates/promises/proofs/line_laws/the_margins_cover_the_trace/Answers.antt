use Rattle.promises.proofs.SureMargins.{margin_text}
use Rattle.promises.proofs.line_laws.the_margins_cover_the_trace.Goals as goal

pub returns : goal.returns
returns c = λ f bytes text status a. margin_text f bytes text status a
