-- Carrying the entries of another book into a book, one after another.
use Rattle.std.specs.Prelude.{◌≡◌, ◌≢◌, ◌⊎◌, ⊤, ℕ, ◌≤◌, List, [], ◌∷◌, ◌++◌, length, slice_get, Some, None, Result, Ok, Err}
use Rattle.device_facts.specs.Prefix.{IsPrefixOf}
use Rattle.book_words.specs.declared.act.Entry.{Entry}
use Rattle.book_words.specs.Answers.{IsLawful}
use Rattle.book_store.specs.Stores.{entry_numbered}
use Rattle.store_runs.specs.declared.stop.Offer.TheVariants as offering
use Rattle.store_runs.specs.declared.stop.Stop.{Stop}
use Rattle.store_runs.specs.declared.stop.Stop.TheVariants.{BadLine, DiskFault, NoMemory}

-- ---- one entry

-- the rows have this entry at its number, or have none there and this one is added
abbrev pub Carries : List Entry → List Entry → ℕ → Entry → Type 0
Carries before now number entry =
    ((entry_numbered before number ≡ Some entry) × (now ≡ before))
    ⊎ ((entry_numbered before number ≡ None) × IsLawful before entry
    × (now ≡ before ++ entry ∷ []))

-- the rows have another entry there, or have none and this one isn't lawful behind them
abbrev pub Refuses : List Entry → ℕ → Entry → Type 0
Refuses rows number entry =
    ((held : Entry) × (entry_numbered rows number ≡ Some held) × (held ≢ entry))
    ⊎ ((entry_numbered rows number ≡ None) × ¬ IsLawful rows entry)

-- an entry wasn't added: the disk failed as it was offered its row, or there was no memory
abbrev pub FailsToAdd : Entry → Stop → Type 0
FailsToAdd entry (DiskFault offer) = offer ≡ offering.Row entry
FailsToAdd entry NoMemory = ⊤
FailsToAdd entry _ = ⊥

-- how carrying stops at an entry: it is refused, or it was to be added and that failed
abbrev pub StopsAtEntry : List Entry → ℕ → Entry → Stop → Type 0
StopsAtEntry rows number entry stop =
    ((stop ≡ BadLine number) × Refuses rows number entry)
    ⊎ ((entry_numbered rows number ≡ None) × IsLawful rows entry × FailsToAdd entry stop)

-- an entry was carried, or stopped the carrying and left the rows as they were
abbrev pub CarriesEntry : {T : Type 0} → List Entry → List Entry → ℕ → Entry → Result T Stop
    → Type 0
CarriesEntry before now number entry (Ok done) = Carries before now number entry
CarriesEntry before now number entry (Err stop) =
    (now ≡ before) × StopsAtEntry before number entry stop

-- ---- many entries

-- of a book and of what was carried into it one is the beginning of the other, and the longer one
-- is left
abbrev pub IsLonger : List Entry → List Entry → List Entry → Type 0
IsLonger held carried rows =
    (IsPrefixOf carried held × (rows ≡ held)) ⊎ (IsPrefixOf held carried × (rows ≡ carried))

-- an entry may come next: it is the one that the book has at its number, or it is lawful behind all
-- that the book has
abbrev pub MayCome : ℕ → List Entry → List Entry → Entry → Type 0
MayCome number held rows entry =
    (slice_get held number ≡ Some entry) ⊎ ((length held ≤ number) × IsLawful rows entry)
