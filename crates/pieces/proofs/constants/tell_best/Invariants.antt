use Rattle.pieces.proofs.constants.tell_best.Given as goal

abbrev pub ghosts-tell_counted : goal.ghosts-tell_counted
ghosts-tell_counted g a = record { name = a.blank.name; parts = a.blank.parts }
