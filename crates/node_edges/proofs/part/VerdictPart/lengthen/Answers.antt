use Rattle.node_edges.proofs.Verdicts.{room_midway, room_of_both}
use Rattle.node_edges.proofs.part.VerdictPart.lengthen.Goals as goal

pub invariant_of-self : goal.invariant_of-self
invariant_of-self c = record { not_empty = room_midway c.requires }

pub invariant_of-self-2 : goal.invariant_of-self-2
invariant_of-self-2 c = record { not_empty = room_of_both c.requires }
