use Rattle.std.proofs.Common.{rules, ◌≡◌, ◌+◌, ◌<◌, ◌++◌, [], List, length, refl, sym, ◌∙◌, ap, append_assoc}
use Rattle.std.specs.List.{cons_option}
use Rattle.book_words.specs.declared.views.ActView.{ActView}
use Rattle.book_words.specs.Pages.{views_after}
use Rattle.book_views.specs.RowViews.{row_view}
use Rattle.book_views.proofs.RowLemmas.{next_view, more_views}
use Rattle.book_views.proofs.rows.copy_rows.Goals as goal

pub loop-place-preserved : goal.loop-place-preserved
loop-place-preserved c =
    let here = c.loop-place in
    let entries = c.args.state.now.entries in
    let inside : here.place < length entries = search rules in
    more_views here.acts.items c.add_row.new.acts.items
    (cons_option (row_view entries (here.place + 1)) []) (views_after here.place entries)
    (views_after (here.place + 1) entries) (views_after c.args.before entries)
    c.in_ok-add_row.ensures (next_view entries here.place inside) here.invariant
