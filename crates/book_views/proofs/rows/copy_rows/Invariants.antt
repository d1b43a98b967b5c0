use Rattle.std.proofs.Common.{◌≡◌, ◌++◌}
use Rattle.book_words.specs.Pages.{views_after}
use Rattle.book_views.proofs.rows.copy_rows.Given as goal

-- what was added so far, and the rows to come, are all behind the first ones
abbrev pub invariant-loop-place : goal.invariant-loop-place
invariant-loop-place l =
    l.acts.items ++ views_after l.place l.state.entries ≡ views_after l.before l.state.entries
