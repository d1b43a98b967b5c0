use Rattle.std.proofs.Common.{sym, ◌∙◌}
use Rattle.book_words.proofs.NameLemmas.{same_name_is}
use Rattle.book_views.proofs.views.view_by_terms.Goals as goal

pub returns-then-is : goal.returns-then-is
returns-then-is c =
    c.view_known.ensures c.args.state.now.entries (sym c.pack.ensures.value ∙ c.in_ok-known.was)
    (same_name_is c.in_ok-known.known.batch c.args.terms.now.batch (sym c.is.ensures ∙ c.if-is.true))
    c.requires
