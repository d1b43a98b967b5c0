use Rattle.std.proofs.Common.{slice_get, sym, ap, ◌∙◌}
use Rattle.book_index.specs.Known.{Known, names_of}
use Rattle.book_index.proofs.Zips.{names_zip}
use Rattle.book_index.proofs.LookUps.{batches_named}
use Rattle.book_index.proofs.index.Index.batch_name.Goals as goal

pub returns : goal.returns
returns c entries is =
    let index = c.self.inside in
    c.name.ensures
    ∙ ap (λ names. slice_get names c.args.number)
    (sym (names_zip index.batches.names index.batch_terms.items c.self.invariant.batches)
    ∙ ap (λ (known : Known). names_of known.batches) c.self.view_is
    ∙ batches_named entries c.args.self.now is)
