use Rattle.shared_book.specs.Sessions.{session_of}
use Rattle.shared_book_tests.proofs.sessions.begin.Given as goal

-- the session that begins with this store and the Turn that was made here
abbrev pub ghosts-hold : goal.ghosts-hold
ghosts-hold g a = session_of g.D.Disk a.turn.table a.store
