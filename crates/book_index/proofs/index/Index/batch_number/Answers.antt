use Rattle.std.proofs.Common.{sym, ap, ◌∙◌}
use Rattle.book_index.specs.Known.{Known, names_of}
use Rattle.book_words.specs.Order.{place_of}
use Rattle.book_index.proofs.Zips.{names_zip}
use Rattle.book_index.proofs.LookUps.{batches_named}
use Rattle.book_index.proofs.index.Index.batch_number.Goals as goal

pub returns-clause-place : goal.returns-clause-place
returns-clause-place c =
    let index = c.self.inside in
    c.number.ensures.number
    ∙ ap (λ names. place_of names c.args.batch.now)
    (sym (names_zip index.batches.names index.batch_terms.items c.self.invariant.batches))
    ∙ ap (λ (known : Known). place_of (names_of known.batches) c.args.batch.now) c.self.view_is

pub returns-clause-number : goal.returns-clause-number
returns-clause-number c entries is =
    let index = c.self.inside in
    c.number.ensures.number
    ∙ ap (λ names. place_of names c.args.batch.now)
    (sym (names_zip index.batches.names index.batch_terms.items c.self.invariant.batches))
    ∙ ap (λ (known : Known). place_of (names_of known.batches) c.args.batch.now) c.self.view_is
    ∙ ap (λ names. place_of names c.args.batch.now) (batches_named entries c.args.self.now is)
