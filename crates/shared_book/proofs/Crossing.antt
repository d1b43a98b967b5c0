-- The book of a session may be shared among threads. A type in which a tree of the running totals
-- or of the names stands has a lemma here, since the search doesn't open all of them at once.
use denote.RattleType.{RattleType}
use denote.Param.Send.{IsSend, IsSync, sendable}
use Rattle.std.proofs.Crossing as heap
use Rattle.std.proofs.MapsCrossing as maps
use Rattle.std.specs.declared.sync.ledger.Ledger as ledger
use Rattle.balanced_tree.proofs.tree.Tree.TheLaws.TheKnot as tree
use Rattle.disk_core.specs.declared.disk.Disk as disk
use Rattle.book_index.specs.contracts.index.Index as Index
use Rattle.book_packs.specs.contracts.packs.Packs as Packs
use Rattle.book_samples.proofs.samples.Samples.TheSendSync as samples
use Rattle.book_state.specs.contracts.state.State as State
use Rattle.book_core.specs.contracts.book.Book as Book
use Rattle.book_store.specs.contracts.store.Store as Store
use Rattle.shared_book.specs.declared.session.Session as session
use Rattle.shared_book.specs.contracts.held.HeldStore as HeldStore
use Rattle.turn_pass.proofs.book.BookSeat.TheSendSync as seat
use Rattle.turn_pass.proofs.turn.Turn.TheSendSync as turn
use Rattle.shared_book.specs.contracts.locked.LockedBook as LockedBook
use Rattle.shared_book.specs.contracts.shared.Shared as Shared

index_send : IsSend Index.the_row
index_send = search (heap.crosses, tree.crosses, sendable) depth 60 fits 20000

packs_send : IsSend Packs.the_row
packs_send = search (maps.crosses, heap.crosses, tree.crosses, sendable) depth 60 fits 20000

state_send : IsSend State.the_row
state_send = search (packs_send, index_send, samples.the_send, heap.crosses, sendable) depth 60
    fits 20000

book_send : IsSend Book.the_row
book_send = search (state_send, heap.crosses, sendable) depth 60 fits 20000

store_send : (D : RattleType) → IsSend D → IsSend (Store.the_field D).row
store_send D d = search (book_send, heap.crosses, sendable) depth 60 fits 20000

held_send : (D N : RattleType) (disk : disk.Ghosts D.Denot) (session : session.Ghosts N.Denot)
    → IsSend D → IsSend N → IsSend (HeldStore.the_row D N disk session)
held_send D N disk session d n = search (store_send, heap.crosses, sendable) depth 60 fits 20000

module _ (D L M N : RattleType) (disk : disk.Ghosts D.Denot) (rows : ledger.Ghosts L.Denot)
    (faults : ledger.Ghosts M.Denot) (session : session.Ghosts N.Denot) where
  locked_send : IsSend D → IsSend L → IsSend M → IsSend N
      → IsSend (LockedBook.the_row D L M N disk rows faults session)
  locked_send d l m n = search (held_send, seat.the_send, heap.crosses, sendable) depth 60
      fits 20000

  pub shared_sync : IsSend D → IsSend L → IsSync L → IsSend M → IsSync M → IsSend N
      → IsSync (Shared.the_row D L M N disk rows faults session)
  shared_sync d l l_shared m m_shared n =
      search (locked_send, turn.the_sync, heap.crosses, sendable) depth 60 fits 20000
