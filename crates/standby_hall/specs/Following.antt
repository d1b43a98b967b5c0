-- What a shipment makes of the book that follows it, and why it stops.
use Rattle.std.specs.Prelude.{◌≡◌, ◌⊎◌, ⊤, ℕ, ◌+◌, ◌<◌, ◌≤◌, Bool, true, List, [], ◌∷◌, ◌++◌, length, take, Option, Some, None, Result, Ok, Err}
use Rattle.std.specs.Io.KnownBytes.{Consumes, IsAtEnd}
use Rattle.device_facts.specs.Prefix.{IsPrefixOf}
use Rattle.book_words.specs.declared.act.Entry.{Entry}
use Rattle.book_words.specs.Answers.{IsLawful}
use Rattle.book_snapshot.specs.declared.layout.TheConstants.{ROW_BYTES}
use Rattle.row_format.specs.Spelling.{new_layout}
use Rattle.row_format.specs.Rows.{CanBeSpelled, Spells}
use Rattle.book_store.specs.Images.{CanAllBeSpelled}
use Rattle.text_streams.specs.Streams.{Stream, IsCalm, HasFailed}
use Rattle.store_runs.specs.declared.stop.Offer.TheVariants as offering
use Rattle.store_runs.specs.declared.stop.Stop.{Stop}
use Rattle.store_runs.specs.declared.stop.Stop.TheVariants as run
use Rattle.store_runs.specs.Carrying.{IsLonger, MayCome}
use Rattle.store_runs.specs.Runs.{FailsToKeep}
use Rattle.standby_hall.specs.declared.types.ShipHead.{ShipHead}
use Rattle.standby_hall.specs.declared.types.FollowStop.{FollowStop}
use Rattle.standby_hall.specs.declared.types.FollowStop.TheVariants.{ReadFault, Head, Gap, Row, Extra, DiskFault, NoMemory}
use Rattle.standby_hall.specs.declared.types.FollowError.{FollowError}
use Rattle.standby_hall.specs.declared.types.FollowError.TheVariants as error
use Rattle.standby_hall.specs.declared.head.TheConstants.{HEAD_BYTES}
use Rattle.standby_hall.specs.Shipments.{head_bytes, IsHead, shipped}

-- what came of a shipment: these bytes, and whether the input ended behind them
pub record Arrival : Type 0 where
  pub bytes : List ℕ
  pub ended : Bool

-- Behind a good head the rows of these entries came to a book that held those: it had all rows that
-- were passed over, and behind them these were carried into it. So of what it held and of what it
-- was told one begins the other, and the longer one is left.
pub record HasFollowed (held rows : List Entry) (head : ShipHead)
    (entries : List Entry) : Type 0 where
  pub good : IsHead head
  pub enough : head.passed ≤ length held
  pub inside : head.passed + length entries ≤ head.all
  pub can : CanAllBeSpelled entries
  pub longer : IsLonger held (take head.passed held ++ entries) rows

-- ---- each way to end

-- all rows that the head told came and nothing more, and so many were added
pub record FollowsAll (held rows : List Entry) (arrival : Arrival) (adopted : ℕ) : Type 0 where
  pub head : ShipHead
  pub entries : List Entry
  pub followed : HasFollowed held rows head entries
  pub bytes : arrival.bytes ≡ shipped head entries
  pub all : head.passed + length entries ≡ head.all
  pub ended : arrival.ended ≡ true
  pub added : length rows ≡ length held + adopted

-- the input fails within the head, or within a row or at its end
pub record FailsInRows (held rows : List Entry) (bytes : List ℕ) : Type 0 where
  pub head : ShipHead
  pub entries : List Entry
  pub part : List ℕ
  pub followed : HasFollowed held rows head entries
  pub cut : length part < ROW_BYTES
  pub parts : bytes ≡ shipped head entries ++ part

abbrev pub FailsInShipment : List Entry → List Entry → List ℕ → Type 0
FailsInShipment held rows bytes =
    ((length bytes < HEAD_BYTES) × (rows ≡ held)) ⊎ FailsInRows held rows bytes

-- the bytes begin with no head: there are as many as one has, or the input ended before
pub record LacksHead (arrival : Arrival) : Type 0 where
  pub none : (head : ShipHead) → IsHead head → ¬ IsPrefixOf (head_bytes head) arrival.bytes
  pub seen : (HEAD_BYTES ≤ length arrival.bytes) ⊎ (arrival.ended ≡ true)

-- the book has fewer rows than were passed over: this is the next one
pub record LacksRows (held : List Entry) (bytes : List ℕ) (row : ℕ) : Type 0 where
  pub head : ShipHead
  pub good : IsHead head
  pub parts : bytes ≡ head_bytes head
  pub few : length held < head.passed
  pub next : row ≡ length held + 1

-- the row behind so many is cut where the input ended, or it spells no entry that may come next
abbrev pub IsBadRow : List Entry → List Entry → ℕ → List ℕ → Bool → Type 0
IsBadRow held rows before part ended =
    ((length part < ROW_BYTES) × (ended ≡ true))
    ⊎ ((length part ≡ ROW_BYTES) × ((entry : Entry)
    → Spells new_layout part (before + 1) entry → ¬ MayCome before held rows entry))

-- the rows before this one came, and it is a bad one
pub record StopsAtRow (held rows : List Entry) (arrival : Arrival) (row : ℕ) : Type 0 where
  pub head : ShipHead
  pub entries : List Entry
  pub part : List ℕ
  pub followed : HasFollowed held rows head entries
  pub next : row ≡ head.passed + length entries + 1
  pub told : row ≤ head.all
  pub parts : arrival.bytes ≡ shipped head entries ++ part
  pub bad : IsBadRow held rows (head.passed + length entries) part arrival.ended

-- all rows came, and a byte behind them
pub record GoesOn (held rows : List Entry) (bytes : List ℕ) (all : ℕ) : Type 0 where
  pub head : ShipHead
  pub entries : List Entry
  pub byte : ℕ
  pub followed : HasFollowed held rows head entries
  pub complete : head.passed + length entries ≡ head.all
  pub told : all ≡ head.all
  pub parts : bytes ≡ shipped head entries ++ byte ∷ []

-- the rows came up to that of this entry, which the book lacks, and which was to be added
pub record ComesToNew (held rows : List Entry) (bytes : List ℕ) (entry : Entry) : Type 0 where
  pub head : ShipHead
  pub entries : List Entry
  pub followed : HasFollowed held rows head entries
  pub told : head.passed + length entries + 1 ≤ head.all
  pub can : CanBeSpelled new_layout entry
  pub parts : bytes ≡ shipped head (entries ++ entry ∷ [])
  pub lacks : length rows ≤ head.passed + length entries
  pub lawful : IsLawful rows entry

-- how each end is explained by what came, for a book that held some rows and has these now
abbrev pub Follows : List Entry → List Entry → Arrival → Result ℕ FollowStop → Type 0
Follows held rows arrival (Ok adopted) = FollowsAll held rows arrival adopted
Follows held rows arrival (Err ReadFault) = FailsInShipment held rows arrival.bytes
Follows held rows arrival (Err Head) = LacksHead arrival × (rows ≡ held)
Follows held rows arrival (Err (Gap row)) = LacksRows held arrival.bytes row × (rows ≡ held)
Follows held rows arrival (Err (Row row)) = StopsAtRow held rows arrival row
Follows held rows arrival (Err (Extra all)) = GoesOn held rows arrival.bytes all
Follows held rows arrival (Err (DiskFault entry)) = ComesToNew held rows arrival.bytes entry
Follows held rows arrival (Err NoMemory) =
    (entry : Entry) × ComesToNew held rows arrival.bytes entry

-- ---- a whole call

-- the answer where so many were added before a last step
abbrev pub result_with : {T : Type 0} → ℕ → Result T FollowStop → Result ℕ FollowStop
result_with adopted (Ok done) = Ok adopted
result_with adopted (Err stop) = Err stop

-- the input's count rises exactly where it is told to have failed
abbrev pub CountsRead : Stream → Stream → Result ℕ FollowStop → Type 0
CountsRead before now (Err ReadFault) = HasFailed before now
CountsRead before now result = IsCalm before now

-- what came of an input, and how the answer follows from it
pub record ExplainsFollow (held : List Entry) (before now : Stream) (rows : List Entry)
    (result : Result ℕ FollowStop) : Type 0 where
  pub arrival : Arrival
  pub read : Consumes before.bytes now.bytes arrival.bytes
  pub at_end : arrival.ended ≡ true → IsAtEnd now.bytes
  pub cause : CountsRead before now result
  pub follows : Follows held rows arrival result

-- ---- the same in fewer words

-- what is told of a stop to a caller
abbrev pub error_of : FollowStop → FollowError
error_of ReadFault = error.ReadFault
error_of Head = error.Head
error_of (Gap row) = error.Gap row
error_of (Row row) = error.Row row
error_of (Extra all) = error.Extra
error_of (DiskFault entry) = error.DiskFault
error_of NoMemory = error.NoMemory

abbrev pub answer_of : Result ℕ FollowStop → Result ℕ FollowError
answer_of (Ok adopted) = Ok adopted
answer_of (Err stop) = Err (error_of stop)

-- how a run stops so: at line 0 where it isn't a shipment, at the row that is bad or lacking, or at
-- the one that would come behind the last
abbrev pub shipment_stop : FollowStop → Stop
shipment_stop ReadFault = run.ReadFault
shipment_stop Head = run.BadLine 0
shipment_stop (Gap row) = run.BadLine row
shipment_stop (Row row) = run.BadLine row
shipment_stop (Extra all) = run.BadLine (all + 1)
shipment_stop (DiskFault entry) = run.DiskFault (offering.Row entry)
shipment_stop NoMemory = run.NoMemory

-- as a step of a run
abbrev pub step_behind : {T : Type 0} → Result T FollowStop → Result T Stop
step_behind (Ok done) = Ok done
step_behind (Err stop) = Err (shipment_stop stop)

-- how a run ends that followed so: where rows were added, a snapshot is kept, or that fails
abbrev pub EndsBehind : ℕ → List Entry → Result ℕ FollowStop → Stop → Type 0
EndsBehind held rows (Ok adopted) stop = (stop ≡ run.Finished) ⊎ FailsToKeep held rows stop
EndsBehind held rows (Err why) stop = stop ≡ shipment_stop why
