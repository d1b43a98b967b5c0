use Rattle.book_core.proofs.BookLemmas.{kept_on}
use Rattle.book_core.proofs.book.Book.reserve.Goals as goal

pub invariant_of-self : goal.invariant_of-self
invariant_of-self c = kept_on _ _ _ _ c.reserve.ensures.entries c.reserve.ensures.spare c.self.invariant

pub invariant_of-self-2 : goal.invariant_of-self-2
invariant_of-self-2 c = kept_on _ _ _ _ c.reserve.ensures.entries c.reserve.ensures.spare
    c.self.invariant
