use Rattle.std.proofs.Common.{◌∙◌, ap, set, Option}
use Rattle.book_words.specs.Samples.{Sample}
use Rattle.book_samples.specs.Changed.{with_second}
use Rattle.book_samples.proofs.ListChanges.{change-past, change-written}
use Rattle.book_samples.proofs.places.put_second.Goals as goal

pub returns-then-place-drawn : goal.returns-then-place-drawn
returns-then-place-drawn c =
    ap (λ (o : Option Sample). set c.args.drawn.now c.args.place o) c.join_second.ensures
    ∙ change-written (with_second c.args.picks) c.args.place c.args.drawn.now
    c.index-drawn-place.result c.if-place-drawn.true

pub returns-else-place-drawn : goal.returns-else-place-drawn
returns-else-place-drawn c = change-past
    (with_second c.args.picks) c.args.place c.args.drawn.now c.if-place-drawn.false
