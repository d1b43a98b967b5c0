-- What adopting an entry answers.
use Rattle.std.specs.Prelude.{◌≡◌, ℕ, ◌+◌, List, [], ◌∷◌, ◌++◌, length, Option, Some, None, Result, Ok, Err}
use Rattle.device_facts.specs.Count.{Counted}
use Rattle.book_words.specs.declared.act.Entry.{Entry}
use Rattle.book_words.specs.Answers.{IsLawful}
use Rattle.book_core.specs.View.{BookView}
use Rattle.book_core.specs.Steps.{HasNoRoom}
use Rattle.book_store.specs.declared.types.AdoptError.{AdoptError}
use Rattle.book_store.specs.declared.types.AdoptError.TheVariants.{Unlawful, DiskFault, NoMemory}

-- an entry that is adopted is lawful and gets the next number; one that isn't lawful is refused;
-- and there is no memory only for a lawful one, for a weighing only where no row is spare
abbrev pub Adopts : BookView → Entry → Result ℕ AdoptError → Type 0
Adopts book entry (Ok number) =
    IsLawful book.entries entry × (number ≡ length book.entries + 1)
Adopts book entry (Err Unlawful) = ¬ IsLawful book.entries entry
Adopts book entry (Err DiskFault) = IsLawful book.entries entry
Adopts book entry (Err NoMemory) = IsLawful book.entries entry × HasNoRoom book entry.act

-- the list behind it
abbrev pub list_adopted : Result ℕ AdoptError → List Entry → Entry → List Entry
list_adopted (Ok number) entries entry = entries ++ entry ∷ []
list_adopted (Err error) entries entry = entries

-- the entry that a crash may leave where it wasn't added
abbrev pub offered_adopted : Result ℕ AdoptError → Entry → Option Entry
offered_adopted (Err DiskFault) entry = Some entry
offered_adopted _ entry = None

-- the disk's count of faults behind it
abbrev pub CountsAdoptFault : ℕ → ℕ → Result ℕ AdoptError → Type 0
CountsAdoptFault before now (Err DiskFault) = Counted before now 1
CountsAdoptFault before now _ = now ≡ before
