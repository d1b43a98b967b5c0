-- A store over a journal that was read as a book.
use Rattle.std.proofs.Common.{◌≡◌, ℕ, length, sym, subst}
use Rattle.disk_core.specs.declared.disk.Disk as disk
use Rattle.book_core.specs.View.{BookView}
use Rattle.book_journal.specs.declared.journal.Journal.{Journal}
use Rattle.book_store.specs.declared.store.Store.{Store}
use Rattle.book_store.specs.Stores.{journal_of, book_of, held_of}
use Rattle.book_mount.specs.Opening.{ReadsAs, Opened}

-- a store over what was read is opened
pub opened_over : {D : Type 0} (g : disk.Ghosts D) (journal now : Journal D) (limit : ℕ)
    (book : BookView) (store : Store D) → journal_of store ≡ now → book_of store ≡ book
    → held_of store ≡ length book.entries
    → ReadsAs g journal limit now book (length book.entries) → Opened g journal limit store
opened_over {D} g journal now limit book store of_journal of_book held reads =
    subst (λ (j : Journal D). ReadsAs g journal limit j (book_of store) (held_of store))
    (sym of_journal)
    (subst (λ (b : BookView). ReadsAs g journal limit now b (held_of store)) (sym of_book)
    (subst (λ (n : ℕ). ReadsAs g journal limit now book n) (sym held) reads))
