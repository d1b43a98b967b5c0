use Rattle.std.proofs.Common.{◌∙◌, ap, Some, Option}
use Rattle.book_words.specs.Samples.{Sample}
use Rattle.book_samples.specs.Kept.{Kept}
use Rattle.book_samples.specs.Changed.{change_at}
use Rattle.std.proofs.lemmas.List.{with_items_is}
use Rattle.std.specs.Vec.{with_items}
use Rattle.book_samples.specs.contracts.samples.Samples.{the_view}
use Rattle.book_samples.proofs.SampleLemmas.{first_stands}
use Rattle.book_samples.proofs.samples.Samples.enter_first.Goals as goal

pub returns-clause-drawn : goal.returns-clause-drawn
returns-clause-drawn c =
    first_stands c.args.self.now (the_view
    (record {
      drawn = with_items c.self.inside.drawn c.put_first.new.drawn;
      measured =
          c.self.inside.measured;
    })) c.args.number c.args.sample
    (with_items_is c.self.inside.drawn c.put_first.new.drawn
    (c.put_first.auto.drawn ∙ c.deref_mut.ensures.len) ∙ c.put_first.ensures
    ∙ ap (change_at {A = Option Sample} (λ none. Some c.args.sample) c.args.number)
    (c.deref_mut.ensures.value ∙ ap (λ (k : Kept). k.samples) c.self.view_is))
    (ap (λ (k : Kept). k.measured) c.self.view_is)
