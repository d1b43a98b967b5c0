use Rattle.std.proofs.Common.{◌∙◌, ap, find, is_none}
use Rattle.book_samples.specs.Kept.{Kept, measured_in}
use Rattle.book_samples.proofs.samples.Samples.first_unmeasured.Goals as goal

pub returns : goal.returns
returns c entries stands =
    c.find_unmeasured.ensures ∙ ap
    (λ (k : Kept). find (λ pack. is_none (measured_in k.measured pack)) c.args.packs.now)
    c.self.view_is
    ∙ (λ i. find (λ pack. is_none (stands.measured pack i)) c.args.packs.now)
