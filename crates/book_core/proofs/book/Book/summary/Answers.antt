use Rattle.std.proofs.Common.{◌∙◌, ap}
use Rattle.book_words.specs.Views.{summary}
use Rattle.book_core.specs.View.{BookView}
use Rattle.book_core.proofs.book.Book.summary.Goals as goal

pub returns : goal.returns
returns c = c.summarize.ensures ∙ ap (λ (b : BookView). summary b.entries) c.self.view_is
