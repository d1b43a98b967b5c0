use Rattle.std.proofs.Common.{subst, sym, ◌∙◌}
use Rattle.book_words.specs.Answers.{IsLegal}
use Rattle.book_laws.proofs.SoundLaws.{sound_of_legal}
use Rattle.book_core.proofs.book.Book.rows.Goals as goal

pub returns-clause-sound : goal.returns-clause-sound
returns-clause-sound c =
    sound_of_legal c.new.result (subst IsLegal
    (sym (c.new.ensures ∙ c.into_entries.ensures.entries)) c.self.invariant.legal)
