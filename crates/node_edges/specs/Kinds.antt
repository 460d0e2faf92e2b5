-- Verdicts as a kind of part, as one record.
use Rattle.frac128.specs.Value.{value}
use Rattle.stl_syntax.specs.declared.items.Verdict.{Verdict}
use Rattle.node_edges.specs.Members.{PartOf}
use Rattle.node_edges.specs.Verdicts.{GoesOn, IsJoined}

-- a verdict as a part
abbrev pub verdict_part : PartOf Verdict
verdict_part = record { end = λ v. value v.on.to; follows = GoesOn; joined = IsJoined }
