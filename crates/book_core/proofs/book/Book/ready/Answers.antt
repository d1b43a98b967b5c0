use Rattle.std.proofs.Common.{◌≡◌, Option, Result, Err, subst, sym, ◌∙◌}
use Rattle.book_words.specs.declared.reply.Answered.{Answered}
use Rattle.book_core.specs.declared.types.BookError.{BookError}
use Rattle.book_core.specs.View.{BookView}
use Rattle.book_core.specs.Steps.{decision}
use Rattle.book_core.proofs.AskLemmas.{error_gives, error_least}
use Rattle.book_core.proofs.book.Book.ready.Goals as goal

pub returns-in-Err-clause-exact : goal.returns-in-Err-clause-exact
returns-in-Err-clause-exact c =
    error_gives c.args.self.now c.args.by c.args.ask.now c.args.act.now c.in-Err.error
    (subst (λ (book : BookView). ◌≡◌ {A = Result (Option Answered) BookError} (Err c.in-Err.error)
    (decision book.limit book.entries c.args.ask.now c.args.act.now)) c.self.view_is
    (sym c.in-Err.is ∙ c.decide.ensures))

pub returns-in-Err-clause-least : goal.returns-in-Err-clause-least
returns-in-Err-clause-least c =
    error_least c.args.self.now c.args.ask.now c.args.act.now c.in-Err.error
    (subst (λ (book : BookView). ◌≡◌ {A = Result (Option Answered) BookError} (Err c.in-Err.error)
    (decision book.limit book.entries c.args.ask.now c.args.act.now)) c.self.view_is
    (sym c.in-Err.is ∙ c.decide.ensures))
