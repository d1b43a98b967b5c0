use Rattle.std.proofs.Common.{◌≤◌, length, take}
use Rattle.book_store.proofs.DenseContent.{IsSqueezed}
use Rattle.book_audit.proofs.beside.agree.Given as goal

abbrev pub invariant-loop-before : goal.invariant-loop-before
invariant-loop-before l = record {
  within : l.place ≤ length l.content;
  so_far : IsSqueezed l.book.entries l.before (take l.place l.content);
}
