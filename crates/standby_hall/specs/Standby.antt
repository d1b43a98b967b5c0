-- What a standby has of a hall's book, whatever came of its shipments.
use Rattle.std.specs.Prelude.{◌≡◌, ◌⊎◌, ⊤, ℕ, zero, suc, ◌≤◌, true, List, length, take, Option, Some, None, Result, Ok, Err}
use Rattle.device_facts.specs.Prefix.{IsPrefixOf}
use Rattle.book_words.specs.declared.act.Entry.{Entry}
use Rattle.book_words.specs.Answers.{IsLegal}
use Rattle.book_store.specs.Images.{CanAllBeSpelled}
use Rattle.book_store.specs.Kept.{with_offered}
use Rattle.standby_hall.specs.declared.types.FollowStop.{FollowStop}
use Rattle.standby_hall.specs.declared.types.FollowStop.TheVariants.{ReadFault, Head, Gap, Row, Extra, DiskFault, NoMemory}
use Rattle.standby_hall.specs.Shipments.{shipment}
use Rattle.standby_hall.specs.Following.{Arrival, Follows}

-- the entry that a crash may leave though it wasn't added
abbrev pub offered_by : Result ℕ FollowStop → Option Entry
offered_by (Err (DiskFault entry)) = Some entry
offered_by _ = None

-- a shipment of the first rows of a book, or only the front of its bytes
pub record IsFromBook (book : List Entry) (bytes : List ℕ) : Type 0 where
  pub count : ℕ
  pub after : ℕ
  pub front : IsPrefixOf bytes (shipment after (take count book))

-- what a crash leaves at some moment of a call, or after it: the first so many of the rows and of
-- the one that was offered, and at least those that were held before
pub record IsLeftOf (held rows : List Entry) (offered : Option Entry) (now : List Entry)
    : Type 0 where
  pub count : ℕ
  pub least : length held ≤ count
  pub left : now ≡ take count (with_offered rows offered)

-- A standby that held some rows follows what came of a shipment, and then has these; or it crashes
-- at some moment of that.
pub record Receives (book held now : List Entry) : Type 0 where
  pub arrival : Arrival
  pub from_book : IsFromBook book arrival.bytes
  pub result : Result ℕ FollowStop
  pub rows : List Entry
  pub follows : Follows held rows arrival result
  pub left : (now ≡ rows) ⊎ IsLeftOf held rows (offered_by result) now

-- so many times, one after another, whichever shipments these are of
abbrev pub Reaches : List Entry → ℕ → List Entry → List Entry → Type 0
Reaches book zero held now = now ≡ held
Reaches book (suc times) held now =
    (between : List Entry) × Receives book held between × Reaches book times between now

-- the book of a hall, which a disk has: it is legal, and each entry can stand in a row
pub record IsShippable (book : List Entry) : Type 0 where
  pub legal : IsLegal book
  pub can : CanAllBeSpelled book

-- A law of standbys: a front of the hall's book stays one, and never loses a row.
abbrev pub StaysFront : Type 0
StaysFront = (book held now : List Entry) (times : ℕ) → IsShippable book
    → IsPrefixOf held book → Reaches book times held now
    → IsPrefixOf held now × IsPrefixOf now book

-- what a whole shipment of these rows may end in, where it came whole: its rows are there, unless
-- rows before them are lacking, a device failed, or there was no memory
abbrev pub HasArrived : List Entry → List Entry → Result ℕ FollowStop → Type 0
HasArrived sent rows (Ok adopted) = length sent ≤ length rows
HasArrived sent rows (Err Head) = ⊥
HasArrived sent rows (Err (Row row)) = ⊥
HasArrived sent rows (Err (Extra all)) = ⊥
HasArrived sent rows (Err why) = ⊤

-- an input brings a whole shipment: what came is its front, and all of it where the input ended
pub record BringsWhole (sent : List Entry) (after : ℕ) (arrival : Arrival) : Type 0 where
  pub front : IsPrefixOf arrival.bytes (shipment after sent)
  pub whole : arrival.ended ≡ true → arrival.bytes ≡ shipment after sent

-- A law of standbys: a whole shipment brings all of its rows.
abbrev pub WholeArrives : Type 0
WholeArrives = (book held rows : List Entry) (count after : ℕ) (arrival : Arrival)
    (result : Result ℕ FollowStop) → IsShippable book → IsPrefixOf held book
    → BringsWhole (take count book) after arrival → Follows held rows arrival result
    → HasArrived (take count book) rows result
