use Rattle.std.proofs.Common.{Some, Option}
use Rattle.book_words.specs.Samples.{Sample}
use Rattle.book_samples.proofs.ListChanges.{change-past, change-written}
use Rattle.book_samples.proofs.places.put_first.Goals as goal

pub returns-then-place-drawn : goal.returns-then-place-drawn
returns-then-place-drawn c = change-written {A = Option Sample}
    (λ none. Some c.args.sample) c.args.place c.args.drawn.now
    (Some c.args.sample) c.if-place-drawn.true

pub returns-else-place-drawn : goal.returns-else-place-drawn
returns-else-place-drawn c = change-past {A = Option Sample}
    (λ none. Some c.args.sample) c.args.place c.args.drawn.now c.if-place-drawn.false
