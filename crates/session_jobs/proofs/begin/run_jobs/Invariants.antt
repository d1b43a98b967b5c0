use Rattle.session_jobs.proofs.begin.run_jobs.Given as goal

-- the two ledgers that are made here
abbrev pub ghosts-hold_session-A-Ledger : goal.ghosts-hold_session-A-Ledger
ghosts-hold_session-A-Ledger g a = record { name = a.rows.name; parts = a.rows.parts }

abbrev pub ghosts-hold_session-B-Ledger : goal.ghosts-hold_session-B-Ledger
ghosts-hold_session-B-Ledger g a = record { name = a.faults.name; parts = a.faults.parts }
