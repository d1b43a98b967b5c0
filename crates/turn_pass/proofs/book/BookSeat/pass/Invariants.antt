use Rattle.turn_pass.proofs.book.BookSeat.pass.Given as goal
use Rattle.std.proofs.Common.{[]}

-- the pass that is made has the number that was asked for
abbrev pub ghosts-pass : goal.ghosts-pass
ghosts-pass g a = record { by = a.by; lines = []; mine = [] }
