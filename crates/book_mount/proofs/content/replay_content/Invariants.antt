use Rattle.std.proofs.Common.{◌≡◌, ◌≤◌, ◌++◌, List, [], ℕ, Option, length}
use Rattle.book_mount.specs.Listing.{content_rows}
use Rattle.book_mount.specs.Opening.{HasRead, Grows}
use Rattle.book_mount.proofs.Walks.{content_left}
use Rattle.book_mount.proofs.content.replay_content.Given as goal

abbrev pub invariant-loop-before : goal.invariant-loop-before
invariant-loop-before l = record {
  within : l.place ≤ length l.content;
  count : length l.book.entries ≡ l.before;
  grows : Grows l.fn.book l.book;
  reads : (listed left : List (Option (List ℕ)))
      → HasRead listed [] (content_rows l.rows 1 l.content ++ left)
      → HasRead listed l.book.entries (content_left l.rows l.before l.place l.content ++ left);
}
