use Rattle.std.proofs.Common.{◌∙◌}
use Rattle.book_words.specs.declared.act.BatchState.TheVariants.{Running, Ended, Drawn, Closed}
use Rattle.book_index.proofs.LegalNames.{legal_named}
use Rattle.book_index.proofs.StateCounts.{counted_is}
use Rattle.book_index.proofs.index.Index.states.Goals as goal

pub returns-clause-running : goal.returns-clause-running
returns-clause-running c entries is legal = c.count_in.ensures
    ∙ counted_is entries c.args.self.now is (legal_named entries legal) Running

pub returns-clause-ended : goal.returns-clause-ended
returns-clause-ended c entries is legal = c.count_in-2.ensures
    ∙ counted_is entries c.args.self.now is (legal_named entries legal) Ended

pub returns-clause-drawn : goal.returns-clause-drawn
returns-clause-drawn c entries is legal = c.count_in-3.ensures
    ∙ counted_is entries c.args.self.now is (legal_named entries legal) Drawn

pub returns-clause-closed : goal.returns-clause-closed
returns-clause-closed c entries is legal = c.count_in-4.ensures
    ∙ counted_is entries c.args.self.now is (legal_named entries legal) Closed
