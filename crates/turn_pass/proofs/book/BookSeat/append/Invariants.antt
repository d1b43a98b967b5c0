use Rattle.std.proofs.Common.{[], ◌∷◌}
use Rattle.turn_pass.specs.History.{appended}
use Rattle.turn_pass.proofs.book.BookSeat.append.Given as goal

-- the line that is appended
abbrev pub ghosts-append : goal.ghosts-append
ghosts-append g a = record { by = a.by; lines = appended a.by a.entry ∷ []; mine = [] }
