use Rattle.shared_book_tests.proofs.sessions.outcome.Given as goal

-- the two ledgers that are made here
abbrev pub ghosts-begin-A-Ledger : goal.ghosts-begin-A-Ledger
ghosts-begin-A-Ledger g a = record { name = a.rows.name; parts = a.rows.parts }

abbrev pub ghosts-begin-B-Ledger : goal.ghosts-begin-B-Ledger
ghosts-begin-B-Ledger g a = record { name = a.faults.name; parts = a.faults.parts }
