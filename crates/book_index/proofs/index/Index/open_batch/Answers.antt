use Rattle.std.proofs.Common.{◌≡◌, ◌-◌, zip, true, false, is_some, ap, sym, ◌∙◌}
use Rattle.book_words.specs.Order.{place_of}
use Rattle.book_index.specs.contracts.index.Index.{the_view}
use Rattle.book_index.specs.Known.{names_of}
use Rattle.book_index.specs.Changes.{with_batch}
use Rattle.book_index.proofs.Zips.{names_zip, named_there, named_new}
use Rattle.book_index.proofs.index.Index.open_batch.Goals as goal

pub returns-then-is_some : goal.returns-then-is_some
returns-then-is_some c =
    let index = c.self.inside in
    let names = index.batches.names in
    let kept = index.batch_terms.items in
    let name = c.args.name.now in
    let terms = c.args.terms.now in
    let there : is_some (place_of (names_of (zip names kept)) name) ≡ true =
    ap (λ ns. is_some (place_of ns name)) (names_zip names kept c.self.invariant.batches)
    ∙ ap is_some (sym c.number.ensures.number) ∙ sym c.is_some.ensures ∙ c.if-is_some.true in
    (λ i. record (the_view index) {
      batches = sym (named_there name terms (zip names kept) there) i;
      spare = index.spare - 1;
    })
    ∙ ap (with_batch name terms) c.self.view_is

pub returns : goal.returns
returns c =
    let index = c.self.inside in
    let name = c.args.name.now in
    let terms = c.args.terms.now in
    let new : is_some (place_of index.batches.names name) ≡ false =
    ap is_some (sym c.number.ensures.number) ∙ sym c.is_some.ensures ∙ c.if-is_some.false in
    let put = named_new name terms index.batches.names index.batch_terms.items
    c.self.invariant.batches new _ _ c.push.ensures.names c.in-Ok.ensures.items in
    (λ i. record (the_view index) { batches = put i; spare = index.spare - 1 })
    ∙ ap (with_batch name terms) c.self.view_is
