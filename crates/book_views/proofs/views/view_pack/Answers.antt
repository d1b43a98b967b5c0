use Rattle.std.proofs.Common.{◌≡◌, true, Option, Some, None, is_some, is_none, option_map, sym, ◌∙◌, ap}
use Rattle.book_words.specs.declared.name.Name.{Name}
use Rattle.book_words.specs.Acts.{product_of}
use Rattle.book_verdicts.specs.KnownPack.{KnownPack}
use Rattle.book_views.proofs.ViewLemmas.{pack_product}
use Rattle.book_views.proofs.views.view_pack.Goals as goal

never_both : (o : Option Name) → is_some o ≡ true → is_none o ≡ true → ⊥
never_both None there none = cc
never_both (Some name) there none = cc

pub returns-in_err-terms-clause-there : goal.returns-in_err-terms-clause-there
returns-in_err-terms-clause-there c =
    let entries = c.args.state.now.entries in
    let known = c.in_ok-known.known in
    let of_batch = sym c.pack.ensures.batch
    ∙ ap (option_map (λ (pack : KnownPack). pack.batch)) c.in_ok-known.was in
    absurd (never_both (product_of entries known.batch)
    (pack_product entries c.args.number known.batch c.pack.ensures.legal of_batch)
    (sym c.terms_of.ensures.there ∙ ap is_none c.in_err-terms.was))

pub returns-clause-view : goal.returns-clause-view
returns-clause-view c =
    c.view_known.ensures c.args.state.now.entries (sym c.pack.ensures.value ∙ c.in_ok-known.was)
    (sym c.in_ok-terms.ensures.batch) c.in_ok-terms.ensures.terms
