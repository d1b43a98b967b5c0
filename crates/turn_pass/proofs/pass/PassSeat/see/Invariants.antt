use Rattle.std.proofs.Common.{[], ◌∷◌}
use Rattle.turn_pass.specs.History.{own}
use Rattle.turn_pass.proofs.pass.PassSeat.see.Given as goal

-- the entry that becomes the pass's own
abbrev pub ghosts-see : goal.ghosts-see
ghosts-see g a = record { by = 0; lines = []; mine = own a.row a.entry ∷ [] }
