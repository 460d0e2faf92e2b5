-- When an early verdict follows the rows of a trace.
use Rattle.std.specs.Prelude.{◌≡◌, Bool}
use Rattle.early_verdict.specs.Deciding.{Stands}
use Rattle.trace_stream.specs.declared.case.Case.{Case}
use Rattle.early_stream.specs.declared.deciding.Deciding.{Deciding}

-- it stands for the rows of the case, ended or not, and for its formula
pub record IsDeciding (ended : Bool) (x : Deciding) (c : Case) : Type 0 where
  pub stands : Stands x.early c.trace.rows ended
  pub nodes : x.early.nodes ≡ c.formula.nodes
  pub header : x.early.header ≡ c.trace.header
  pub digits : x.scale.time ≡ c.trace.header.scale.time
