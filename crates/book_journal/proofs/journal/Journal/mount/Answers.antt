use Rattle.std.proofs.Common.{◌≡◌, ⊎_elim, false, true}
use Rattle.book_journal.specs.Journal.{HasGate}
use Rattle.book_journal.proofs.Fronts.{mounted_rows, mounted_gate}
use Rattle.book_journal.proofs.Journals.{told_on}
use Rattle.book_journal.proofs.journal.Journal.mount.Goals as goal

no_error : false ≡ true → ⊥
no_error is = cc

pub returns-in-Ok-clause-rows : goal.returns-in-Ok-clause-rows
returns-in-Ok-clause-rows g c b told rows recovers few =
    let found = c.in-Ok.found in
    record {
      has = mounted_rows g.D.Disk g.met.D.Disk.reads_image b found.kept found.count found.marked
          c.start.new.disk (c.in-Ok.ensures.mounted b told) rows recovers few;
      moments = ⊎_elim (λ keeps. keeps) (λ failed. absurd (no_error failed.0))
          (c.in-Ok.ensures.moments b told rows recovers few);
    }

pub returns-in-Ok-clause-sound : goal.returns-in-Ok-clause-sound
returns-in-Ok-clause-sound g c few = record {
  few = few;
  gate = told_on _ _ c.start.ensures.tells (HasGate c.in-Ok.found.count) (λ b told.
      mounted_gate g.D.Disk g.met.D.Disk.reads_image b c.in-Ok.found.kept c.in-Ok.found.count
      c.in-Ok.found.marked c.start.new.disk (c.in-Ok.ensures.mounted b told) few);
}
