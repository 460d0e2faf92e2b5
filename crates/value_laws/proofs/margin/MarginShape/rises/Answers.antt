use Rattle.frac128.specs.Line.{line}
use Rattle.value_laws.proofs.MarginLemmas.{line_trend}
use Rattle.value_laws.proofs.margin.MarginShape.rises.Goals as goal

pub returns-in-Ramp : goal.returns-in-Ramp
returns-in-Ramp c = rw c.in-Ramp.is (line_trend c.rises.result (line c.in-Ramp.f) c.rises.ensures)
