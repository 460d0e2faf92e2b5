use Rattle.online_net.proofs.atom.put_atom.Goals as goal

pub returns-in-Some : goal.returns-in-Some
returns-in-Some c = rw c.in-Some.is c.put_next.ensures

pub returns-in-None : goal.returns-in-None
returns-in-None c = rw c.in-None.is c.put_first.ensures
