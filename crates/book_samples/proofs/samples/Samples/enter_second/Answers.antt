use Rattle.std.proofs.Common.{◌∙◌, ap}
use Rattle.book_samples.specs.Kept.{Kept}
use Rattle.book_samples.specs.Changed.{change_at, with_second}
use Rattle.std.proofs.lemmas.List.{with_items_is}
use Rattle.std.specs.Vec.{with_items}
use Rattle.book_samples.specs.contracts.samples.Samples.{the_view}
use Rattle.book_samples.proofs.SampleLemmas.{second_stands}
use Rattle.book_samples.proofs.samples.Samples.enter_second.Goals as goal

pub returns-clause-drawn : goal.returns-clause-drawn
returns-clause-drawn c =
    second_stands c.args.self.now (the_view
    (record {
      drawn = with_items c.self.inside.drawn c.put_second.new.drawn;
      measured =
          c.self.inside.measured;
    })) c.args.number c.args.picks
    (with_items_is c.self.inside.drawn c.put_second.new.drawn
    (c.put_second.auto.drawn ∙ c.deref_mut.ensures.len) ∙ c.put_second.ensures
    ∙ ap (change_at (with_second c.args.picks) c.args.number)
    (c.deref_mut.ensures.value ∙ ap (λ (k : Kept). k.samples) c.self.view_is))
    (ap (λ (k : Kept). k.measured) c.self.view_is)
