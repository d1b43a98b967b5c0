use Rattle.std.proofs.Common.{◌≡◌, ◌≢◌, List, Some, subst}
use Rattle.book_words.specs.declared.act.BatchState.TheVariants.{Closed}
use Rattle.book_words.specs.declared.act.Entry.{Entry}
use Rattle.book_words.specs.Acts.{state_of}
use Rattle.batch_paper.proofs.papers.replayed_paper.Goals as goal

pub returns-clause-not_closed : goal.returns-clause-not_closed
returns-clause-not_closed c state h =
    subst (λ (es : List Entry). (state_of es c.args.batch.now ≡ Some state) × (state ≢ Closed))
    c.in_ok-replay_all.ensures ((c.paper_of_book.ensures.not_closed state).0 h)
