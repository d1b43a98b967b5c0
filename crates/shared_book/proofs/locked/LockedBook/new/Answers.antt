use Rattle.std.proofs.Common.{sym, subst}
use Rattle.book_store.specs.declared.store.Store.{Store}
use Rattle.shared_book.specs.Locked.{KeepsSeat}
use Rattle.shared_book.proofs.AskLemmas.{seat_begins}
use Rattle.shared_book.proofs.locked.LockedBook.new.Goals as goal

pub invariant_of-result : goal.invariant_of-result
invariant_of-result g c =
    subst (λ (st : Store g.row.D.Denot). KeepsSeat g.D.Disk g.N.Session st c.args.seat)
    (sym c.new.ensures)
    (seat_begins g.D.Disk g.N.Session c.args.store c.args.seat c.requires.begins c.requires.seat)
