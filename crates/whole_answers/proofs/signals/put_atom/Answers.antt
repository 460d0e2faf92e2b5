use Rattle.whole_answers.proofs.signals.put_atom.Goals as goal

pub pieces_of_atom-requires-clause-atom : goal.pieces_of_atom-requires-clause-atom
pieces_of_atom-requires-clause-atom g c =
    let bound = c.requires.bound.atoms c.args.i c.requires.atom.0 c.requires.atom.1 in
    (bound.0, bound.1)
