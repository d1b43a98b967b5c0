use Rattle.batch_sums_tests.proofs.tests.a_corrected_tare_reaches_10_000_packs.Given as goal

abbrev pub ghosts-corrected_totals : goal.ghosts-corrected_totals
ghosts-corrected_totals c a = record { name = a.blank.name; parts = a.blank.parts }
