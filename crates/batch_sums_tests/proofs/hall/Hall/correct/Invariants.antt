use Rattle.batch_sums_tests.proofs.hall.Hall.correct.Given as goal

abbrev pub ghosts-correct_counted : goal.ghosts-correct_counted
ghosts-correct_counted a = record { name = a.blank.name; parts = a.blank.parts }
