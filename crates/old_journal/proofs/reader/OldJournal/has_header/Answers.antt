use Rattle.std.proofs.Common.{◌∙◌, sym, ap, ⊎_elim, rules}
use Rattle.old_journal.proofs.ReaderPlaces.{header_in_rows, header_in_over, header_stands}
use Rattle.old_journal.proofs.reader.OldJournal.has_header.Goals as goal

pub returns-in-Rows : goal.returns-in-Rows
returns-in-Rows c = λ taken at.
    let stage = sym (ap (λ v. v.stage) at) ∙ sym (ap (λ v. v.stage) c.self.view_is) in (
      λ _. ⊎_elim (λ is. header_in_rows taken (stage ∙ is))
          (λ is. header_in_over taken (stage ∙ is)) c.in-Rows.is,
      λ _. search rules,
    )

pub returns-in_default : goal.returns-in_default
returns-in_default c = λ taken at.
    let stage = ap (λ v. v.stage) c.self.view_is ∙ ap (λ v. v.stage) at in (
      λ is. absurd (search rules),
      λ has. absurd
          (⊎_elim (λ is. c.in_default.not-Rows (stage ∙ is))
          (λ is. c.in_default.not-Over (stage ∙ is)) (header_stands taken has)),
    )
