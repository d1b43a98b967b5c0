use Rattle.std.proofs.Common.{sym, subst, List, ◌∷◌, ℕ, Some}
use Rattle.book_mount.specs.Opening.{HasRead}
use Rattle.book_mount.proofs.slots.read_slot.Goals as goal

pub returns-clause-reads : goal.returns-clause-reads
returns-clause-reads g c bytes told long rows left read =
    c.in_ok-replay_row.ensures.reads rows left
    (subst (λ (row : List ℕ). HasRead rows c.args.book.now.entries (Some row ∷ left))
    (sym (c.in-Ok.ensures.slot bytes told long)) read)
