use Rattle.std.proofs.Common.{◌∙◌, ap}
use Rattle.book_samples.specs.Kept.{Kept, measured_in}
use Rattle.book_samples.proofs.samples.Samples.measured.Goals as goal

pub returns : goal.returns
returns c entries stands =
    c.measured_at.ensures ∙ ap (λ (k : Kept). measured_in k.measured c.args.pack) c.self.view_is
    ∙ stands.measured c.args.pack
