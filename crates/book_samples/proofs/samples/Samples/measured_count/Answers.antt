use Rattle.std.proofs.Common.{◌∙◌, ap, count_by, is_some}
use Rattle.book_samples.specs.Kept.{Kept, measured_in}
use Rattle.book_samples.proofs.samples.Samples.measured_count.Goals as goal

pub returns : goal.returns
returns c entries stands =
    c.count_measured.ensures
    ∙ ap (λ (k : Kept). count_by (λ pack. is_some (measured_in k.measured pack))
    c.args.packs.now) c.self.view_is
    ∙ (λ i. count_by (λ pack. is_some (stands.measured pack i)) c.args.packs.now)
