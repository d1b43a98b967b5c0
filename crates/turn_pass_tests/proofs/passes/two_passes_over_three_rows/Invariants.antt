use Rattle.turn_pass_tests.proofs.passes.two_passes_over_three_rows.Given as goal

-- the two ledgers that were made here
abbrev pub ghosts-the_row-L-Ledger : goal.ghosts-the_row-L-Ledger
ghosts-the_row-L-Ledger g a = record { name = a.rows.name; parts = a.rows.parts }

abbrev pub ghosts-the_row-M-Ledger : goal.ghosts-the_row-M-Ledger
ghosts-the_row-M-Ledger g a = record { name = a.faults.name; parts = a.faults.parts }
