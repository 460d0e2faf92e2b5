use Rattle.stl_grammar.proofs.LawProofs.{one_formula}
use Rattle.workload.specs.Judged.{judged, judged_formula}
use Rattle.workload.proofs.JudgedFormula.{judged_text}
use Rattle.workload.proofs.NoRefusal.{memory_alone}
use Rattle.workload.proofs.judged.judged_formula.Goals as goal

pub returns-in-Ok : goal.returns-in-Ok
returns-in-Ok c = one_formula judged c.in-Ok.formula judged_formula c.in-Ok.ensures.ok.read judged_text

pub unreachable-requires : goal.unreachable-requires
unreachable-requires c = c.in_default.not-Memory (memory_alone c.in-Err.fault c.in-Err.ensures.fault)
