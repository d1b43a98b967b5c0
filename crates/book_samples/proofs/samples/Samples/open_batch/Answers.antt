use Rattle.std.proofs.Common.{◌++◌, ◌∷◌, [], ◌∙◌, ap, None}
use Rattle.book_samples.specs.Kept.{Kept}
use Rattle.book_samples.proofs.SampleLemmas.{opened_stands}
use Rattle.book_samples.proofs.samples.Samples.open_batch.Goals as goal

pub returns-clause-opened : goal.returns-clause-opened
returns-clause-opened c =
    opened_stands c.args.self.now _
    (c.in-Ok.ensures.items ∙ ap (λ (k : Kept). k.samples ++ None ∷ []) c.self.view_is)
    (ap (λ (k : Kept). k.measured) c.self.view_is)
