use Rattle.std.proofs.Common.{◌≡◌, ◌++◌, length}
use Rattle.std.specs.List.{filter_map}
use Rattle.book_words.specs.Views.{pack_view}
use Rattle.book_views.proofs.packs.copy_packs.Given as goal

-- what was added so far, and what is told of the numbers that are left, is told of all
abbrev pub invariant-loop-number : goal.invariant-loop-number
invariant-loop-number l =
    l.packs.items ++ filter_map (pack_view l.state.entries) l.rest
    ≡ filter_map (pack_view l.state.entries) l.numbers

abbrev pub decreases-loop-number : goal.decreases-loop-number
decreases-loop-number l = length l.rest
