use Rattle.online_net.specs.Atoms.{HasPutAtoms}
use Rattle.online_net.proofs.atom.put_atoms.Given as goal

abbrev pub invariant-loop-i : goal.invariant-loop-i
invariant-loop-i l = HasPutAtoms l.bound l.before l.row l.operators l.i l.fn.edges l.edges
