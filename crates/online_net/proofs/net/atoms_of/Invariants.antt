use Rattle.online_net.proofs.AtomLists.{AreAtomsTo}
use Rattle.online_net.proofs.net.atoms_of.Given as goal

abbrev pub invariant-loop-i : goal.invariant-loop-i
invariant-loop-i l = AreAtomsTo l.i l.atoms.items l.operators
