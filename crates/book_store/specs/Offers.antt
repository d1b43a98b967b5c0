-- What offering an entry makes of a store and of its disk.
use Rattle.std.specs.Prelude.{◌≡◌, ◌⊎◌, ℕ, List, [], ◌∷◌, ◌++◌, Option, Some, None, Result, Ok, Err}
use Rattle.device_facts.specs.Count.{Counted}
use Rattle.disk_core.specs.Devices.{LeavesOnly}
use Rattle.disk_core.specs.declared.disk.Disk as disk
use Rattle.book_words.specs.declared.act.Ask.{Ask}
use Rattle.book_words.specs.declared.act.Entry.{Entry}
use Rattle.book_words.specs.declared.caller.AskError.{AskError}
use Rattle.book_words.specs.declared.caller.AskError.TheVariants as error
use Rattle.book_words.specs.declared.reply.Answered.{Answered}
use Rattle.book_words.specs.declared.reply.Refused.{Refused}
use Rattle.book_words.specs.Answers.{IsLawful}
use Rattle.book_core.specs.View.{BookView}
use Rattle.book_core.specs.Steps.{MayLackMemory}
use Rattle.book_store.specs.declared.store.Store.{Store}
use Rattle.book_store.specs.Images.{HoldsBook}
use Rattle.book_store.specs.Stores.{disk_of, entries_of, HasBook, HangsWith, HoldsOrHangs}

-- An entry was offered to the disk, and the book now has it or hasn't. A crash at any moment of the
-- call leaves the book as it was, or that and one more: the entry that hung, or the one offered. If
-- one hangs now, it is the offered one or the one that hung before.
pub record OffersEntry {D : Type 0} (disk : disk.Ghosts D) (entry : Entry)
    (old new : Store D) : Type 0 where
  pub lawful : IsLawful (entries_of old) entry
  pub has : HasBook disk new
  pub hung : (hung : Entry) → HangsWith disk new hung → (hung ≡ entry) ⊎ HangsWith disk old hung
  pub moments : LeavesOnly disk (disk_of old) (disk_of new)
      (λ c. HoldsOrHangs disk old c ⊎ HoldsBook (entries_of old ++ entry ∷ []) c)

-- the disk isn't touched: it has the book as before
pub record LeavesDisk {D : Type 0} (disk : disk.Ghosts D) (old new : Store D) : Type 0 where
  pub same : disk_of new ≡ disk_of old
  pub has : HasBook disk old → HasBook disk new
  pub hung : (hung : Entry) → HangsWith disk new hung → HangsWith disk old hung

-- what an ask offers, if anything; where it offers nothing the disk isn't touched
abbrev pub Offers : {D : Type 0} → disk.Ghosts D → Option Entry → Store D → Store D → Type 0
Offers disk (Some entry) old new = HasBook disk old → OffersEntry disk entry old new
Offers disk None old new = LeavesDisk disk old new

-- The store gives the answer that is wanted. Only where there is an entry to add may it answer that
-- the disk failed, and only where the book may lack memory that there is none.
abbrev pub GivesAnswer : BookView → ℕ → Ask → Option Entry → Result Answered AskError
    → Result Answered Refused → Type 0
GivesAnswer book by ask new (Err error.NoMemory) wanted = MayLackMemory book by ask ask.want
GivesAnswer book by ask new (Err error.DiskFault) wanted = (entry : Entry) × (new ≡ Some entry)
GivesAnswer book by ask new (Err (error.Refused refused)) wanted = Err refused ≡ wanted
GivesAnswer book by ask new (Ok answered) wanted = Ok answered ≡ wanted

-- the list behind an ask: its entry is added, unless there was no memory for it or the disk failed
abbrev pub list_behind : Result Answered AskError → List Entry → Option Entry → List Entry
list_behind (Ok answered) entries (Some entry) = entries ++ entry ∷ []
list_behind _ entries _ = entries

-- the entry that was offered, and that a crash may leave: that of an ask at which the disk failed
abbrev pub offered_behind : Result Answered AskError → Option Entry → Option Entry
offered_behind (Err error.DiskFault) new = new
offered_behind _ new = None

-- the disk's count of faults behind an ask: one more where the disk failed, and else as it was
abbrev pub CountsDiskFault : ℕ → ℕ → Result Answered AskError → Type 0
CountsDiskFault before now (Err error.DiskFault) = Counted before now 1
CountsDiskFault before now _ = now ≡ before
