use Rattle.pieces.proofs.levels.over_levels.Given as goal

abbrev pub ghosts-see_all : goal.ghosts-see_all
ghosts-see_all g a = record { name = a.blank.name; parts = a.blank.parts }
