use Rattle.explained_answers.proofs.json.reasons_for.Given as goal

abbrev pub ghosts-reasons_from : goal.ghosts-reasons_from
ghosts-reasons_from a = record { name = a.blank.name; parts = a.blank.parts }
