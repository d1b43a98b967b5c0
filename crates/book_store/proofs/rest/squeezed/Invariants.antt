use Rattle.book_store.proofs.DenseContent.{IsSqueezed}
use Rattle.book_store.proofs.rest.squeezed.Given as goal

abbrev pub invariant-loop-before : goal.invariant-loop-before
invariant-loop-before l = IsSqueezed l.book.entries l.before l.content
