-- What was refused, put beside an answer.
use Rattle.std.specs.Prelude.{Option, Some, None}
use Rattle.pl_signal.specs.declared.faults.WidePair.{WidePair}
use Rattle.pl_signal.specs.declared.faults.OpFault.{OpFault}
use Rattle.pl_signal.specs.declared.faults.OpFault.TheVariants as F

-- the fault that is told by what was put beside: want of memory where nothing was
abbrev pub told_by : {P : Type 0} → Option (WidePair P) → OpFault P
told_by None = F.Memory
told_by (Some pair) = F.Wide pair
