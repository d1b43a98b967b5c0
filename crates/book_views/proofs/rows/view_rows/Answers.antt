use Rattle.std.proofs.Common.{◌≡◌, ◌+◌, ◌≤◌, min, length, take, ◌∙◌, ap, arith}
use Rattle.book_words.specs.declared.views.TheConstants.{MAX_PAGE}
use Rattle.book_words.specs.Pages.{views_after}
use Rattle.book_views.proofs.RowLemmas.{page_is}
use Rattle.book_views.proofs.rows.view_rows.Goals as goal

pub returns : goal.returns
returns c =
    let entries = c.args.state.now.entries in
    let all = c.len-all.ensures.count in
    let before : c.min-before.result ≡ min c.args.after (length entries) =
    omega (arith, c.min-before.ensures, all) in
    let last : c.min.result ≡ min (length entries) (c.min-before.result + MAX_PAGE) =
    omega (arith, c.min.ensures, all) in
    let inside : c.min-before.result ≤ length entries = omega (arith, before) in
    let rows = page_is MAX_PAGE entries c.in_ok-acts.acts.items c.min-before.result c.min.result
    inside last c.in_ok-acts.ensures in
    λ i. record {
      before = before i;
      acts = (c.from.ensures ∙ rows ∙ ap (λ n. take MAX_PAGE (views_after n entries)) before) i;
    }
