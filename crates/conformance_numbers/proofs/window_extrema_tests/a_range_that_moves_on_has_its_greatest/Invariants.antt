use Rattle.conformance_numbers.proofs.window_extrema_tests.a_range_that_moves_on_has_its_greatest.Given as goal

abbrev pub ghosts-asked : goal.ghosts-asked
ghosts-asked g a = record { name = a.blank.name; parts = a.blank.parts }
