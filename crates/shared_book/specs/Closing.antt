-- What a session leaves as it ends.
use Rattle.std.specs.Prelude.{◌≡◌, ◌≢◌, ℕ, ◌≤◌, List, ◌++◌, length, map, All, AllPairs, Contains}
use Rattle.std.specs.List.{sum_by}
use Rattle.device_facts.specs.Prefix.{IsPrefixOf}
use Rattle.disk_core.specs.declared.disk.Disk as disk
use Rattle.turn_pass.specs.History.{PassState}
use Rattle.book_words.specs.declared.act.Entry.{Entry}
use Rattle.book_store.specs.declared.store.Store.{Store}
use Rattle.book_store.specs.Callers.{own_rows}
use Rattle.book_store.specs.Stores.{disk_of, entries_of, Hangs}
use Rattle.shared_book.specs.declared.session.Session as session
use Rattle.shared_book.specs.Passes.{entries_in, row_of}

-- The disk's count is as it was when the session began, and nothing hangs; and where no row was
-- added the disk reads what it did.
pub record IsCalm {D N : Type 0} (disk : disk.Ghosts D) (session : session.Ghosts N)
    (store : Store D) : Type 0 where
  pub faults : disk.faults (disk_of store) ≡ session.faults
  pub settled : ¬ Hangs store
  pub still : length (entries_of store) ≤ length session.before
      → disk.reads (disk_of store) ≡ session.reads

-- The rows behind those of before are the own rows of the passes: they are as many. What each pass
-- has seen begins the rows. The rows with its number are those of before and its own, each at its
-- place. No two passes have one number, and no row behind those of before bears another.
pub record MakeRows (before rows : List Entry) (passes : List (PassState Entry)) : Type 0 where
  pub made : List Entry
  pub parts : rows ≡ before ++ made
  pub total : length made ≡ sum_by (λ (p : PassState Entry). length p.mine) passes
  pub seen : All (λ (p : PassState Entry). IsPrefixOf (before ++ entries_in p.seen) rows) passes
  pub mine : All (λ (p : PassState Entry).
      own_rows p.by rows ≡ own_rows p.by before ++ map row_of p.mine) passes
  pub apart : AllPairs (λ (p q : PassState Entry). p.by ≢ q.by) passes
  pub others :
      All (λ (e : Entry). Contains (map (λ (p : PassState Entry). p.by) passes) e.by) made
