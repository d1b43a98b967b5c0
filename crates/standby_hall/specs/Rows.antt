-- What each row of a shipment makes of a book, and where a reader of one then stands.
use Rattle.std.specs.Prelude.{◌≡◌, ◌≢◌, ◌⊎◌, ⊤, ℕ, ◌+◌, ◌<◌, true, List, [], length, Option, Some, None}
use Rattle.std.specs.Io.KnownBytes.{Consumes, IsAtEnd}
use Rattle.book_words.specs.declared.act.Entry.{Entry}
use Rattle.book_words.specs.Answers.{IsLawful}
use Rattle.book_state.specs.Known.{entry_numbered}
use Rattle.book_snapshot.specs.declared.layout.TheConstants.{ROW_BYTES}
use Rattle.row_format.specs.Spelling.{new_layout}
use Rattle.row_format.specs.Rows.{Spells}
use Rattle.text_streams.specs.Streams.{Stream, IsCalm, HasFailed}
use Rattle.store_runs.specs.declared.stop.Stop.{Stop}
use Rattle.store_runs.specs.declared.stop.Stop.TheVariants as run
use Rattle.store_runs.specs.Carrying.{Carries, Refuses}
use Rattle.standby_hall.specs.declared.types.ShipHead.{ShipHead}
use Rattle.standby_hall.specs.declared.types.FollowStop.{FollowStop}
use Rattle.standby_hall.specs.declared.types.FollowStop.TheVariants.{ReadFault, Head, Gap, Row, Extra, DiskFault, NoMemory}
use Rattle.standby_hall.specs.declared.head.TheConstants.{HEAD_BYTES}
use Rattle.standby_hall.specs.Shipments.{head_bytes, IsHead, shipped}
use Rattle.standby_hall.specs.Following.{Arrival, HasFollowed, LacksHead}

-- so many bytes came, or fewer and then the end
pub record TakesUpTo (before now : Stream) (room : ℕ) (taken : List ℕ) : Type 0 where
  pub read : Consumes before.bytes now.bytes taken
  pub all : (length taken ≡ room) ⊎ ((length taken < room) × IsAtEnd now.bytes)
  pub calm : IsCalm before now

-- fewer came, and then the input failed
pub record FailsWithin (before now : Stream) (room : ℕ) : Type 0 where
  pub taken : List ℕ
  pub read : Consumes before.bytes now.bytes taken
  pub less : length taken < room
  pub failed : HasFailed before now

-- a row came whole, spells this entry, and it was carried
pub record FollowsRow (before now : Stream) (old new : List Entry) (number : ℕ) : Type 0 where
  pub bytes : List ℕ
  pub entry : Entry
  pub read : Consumes before.bytes now.bytes bytes
  pub calm : IsCalm before now
  pub spells : Spells new_layout bytes number entry
  pub carried : Carries old new number entry

-- a row came whole that can't be carried, or only a part of one
abbrev pub RefusesRow : Stream → List Entry → ℕ → List ℕ → Type 0
RefusesRow now rows number bytes =
    ((length bytes < ROW_BYTES) × IsAtEnd now.bytes)
    ⊎ ((length bytes ≡ ROW_BYTES) × ((entry : Entry) → Spells new_layout bytes number entry
    → Refuses rows number entry))

pub record StopsAtBad (before now : Stream) (rows : List Entry) (number : ℕ) : Type 0 where
  pub bytes : List ℕ
  pub read : Consumes before.bytes now.bytes bytes
  pub calm : IsCalm before now
  pub bad : RefusesRow now rows number bytes

-- ---- without the input

-- how following stops where an entry of this number wasn't carried
abbrev pub entry_stop : ℕ → Entry → Stop → FollowStop
entry_stop number entry (run.DiskFault offer) = DiskFault entry
entry_stop number entry run.NoMemory = NoMemory
entry_stop number entry stop = Row number

-- a slot spells an entry, which was carried
pub record CarriesSlot (old new : List Entry) (number : ℕ) (slot : List ℕ) : Type 0 where
  pub entry : Entry
  pub spells : Spells new_layout slot number entry
  pub carried : Carries old new number entry

-- a slot spells this entry, which was to be added
pub record IsNewSlot (rows : List Entry) (number : ℕ) (slot : List ℕ)
    (entry : Entry) : Type 0 where
  pub spells : Spells new_layout slot number entry
  pub lacks : entry_numbered rows number ≡ None
  pub lawful : IsLawful rows entry

-- how following stops at a slot
abbrev pub StopsSlot : List Entry → ℕ → List ℕ → FollowStop → Type 0
StopsSlot rows number slot (Row row) =
    (row ≡ number) × ((entry : Entry) → Spells new_layout slot number entry
    → Refuses rows number entry)
StopsSlot rows number slot (DiskFault entry) = IsNewSlot rows number slot entry
StopsSlot rows number slot NoMemory = (entry : Entry) × IsNewSlot rows number slot entry
StopsSlot rows number slot stop = ⊥

-- ---- with the input

-- a row came whole that spells this entry, which was to be added and wasn't
pub record StopsAtNew (before now : Stream) (rows : List Entry) (number : ℕ)
    (entry : Entry) : Type 0 where
  pub bytes : List ℕ
  pub read : Consumes before.bytes now.bytes bytes
  pub calm : IsCalm before now
  pub new : IsNewSlot rows number bytes entry

-- how following stops at a row
abbrev pub StopsInRow : Stream → Stream → List Entry → ℕ → FollowStop → Type 0
StopsInRow before now rows number ReadFault = FailsWithin before now ROW_BYTES
StopsInRow before now rows number (Row row) = (row ≡ number) × StopsAtBad before now rows number
StopsInRow before now rows number (DiskFault entry) = StopsAtNew before now rows number entry
StopsInRow before now rows number NoMemory =
    (entry : Entry) × StopsAtNew before now rows number entry
StopsInRow before now rows number stop = ⊥

-- ---- from the start of the shipment

-- a head was read
pub record HasReadHead (start now : Stream) (head : ShipHead) : Type 0 where
  pub read : Consumes start.bytes now.bytes (head_bytes head)
  pub calm : IsCalm start now

-- a good head was read, or the input ended before a byte of one came
abbrev pub FindsHead : Stream → Stream → Option ShipHead → Type 0
FindsHead start now (Some head) = HasReadHead start now head × IsHead head
FindsHead start now None = TakesUpTo start now HEAD_BYTES []

-- what came is no head, and isn't nothing
pub record ComesToNoHead (start now : Stream) : Type 0 where
  pub arrival : Arrival
  pub some : arrival.bytes ≢ []
  pub read : Consumes start.bytes now.bytes arrival.bytes
  pub at_end : arrival.ended ≡ true → IsAtEnd now.bytes
  pub calm : IsCalm start now
  pub lacks : LacksHead arrival

-- how following stops at a head
abbrev pub StopsInHead : Stream → Stream → FollowStop → Type 0
StopsInHead start now ReadFault = FailsWithin start now HEAD_BYTES
StopsInHead start now Head = ComesToNoHead start now
StopsInHead start now stop = ⊥

-- it stops behind the head
abbrev pub IsBehindHead : FollowStop → Type 0
IsBehindHead Head = ⊥
IsBehindHead stop = ⊤

-- it stops before the end of the last row
abbrev pub IsBeforeEnd : FollowStop → Type 0
IsBeforeEnd (Extra all) = ⊥
IsBeforeEnd stop = ⊤

-- behind it the rows of some entries, up to this number, which came to a book that held those
pub record HasReadRows (start now : Stream) (held rows : List Entry) (head : ShipHead)
    (before : ℕ) : Type 0 where
  pub entries : List Entry
  pub read : Consumes start.bytes now.bytes (shipped head entries)
  pub calm : IsCalm start now
  pub followed : HasFollowed held rows head entries
  pub counted : head.passed + length entries ≡ before

-- all of them
abbrev pub HasReadAll : Stream → Stream → List Entry → List Entry → ShipHead → Type 0
HasReadAll start now held rows head = HasReadRows start now held rows head head.all
