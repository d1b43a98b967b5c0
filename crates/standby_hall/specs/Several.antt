-- Shipments that come one right after another, and what they make of the book that follows them.
use Rattle.std.specs.Prelude.{◌≡◌, ◌≢◌, ◌⊎◌, ℕ, zero, suc, ◌+◌, ◌<◌, true, List, [], ◌++◌, length, Result, Ok, Err, IfOk}
use Rattle.std.specs.Io.KnownBytes.{Consumes, IsAtEnd}
use Rattle.disk_core.specs.declared.disk.Disk as disk
use Rattle.book_words.specs.declared.act.Entry.{Entry}
use Rattle.book_store.specs.declared.store.Store.{Store}
use Rattle.book_store.specs.Stores.{entries_of}
use Rattle.text_streams.specs.Streams.{Stream, IsCalm}
use Rattle.store_runs.specs.declared.stop.Stop.{Stop}
use Rattle.store_runs.specs.Runs.{Goes}
use Rattle.standby_hall.specs.declared.types.ShipHead.{ShipHead}
use Rattle.standby_hall.specs.declared.types.FollowError.{FollowError}
use Rattle.standby_hall.specs.declared.types.FollowStop.{FollowStop}
use Rattle.standby_hall.specs.declared.types.FollowStop.TheVariants.{Head, Extra}
use Rattle.standby_hall.specs.Following.{Arrival, Follows, CountsRead, ExplainsFollow, EndsBehind, result_with, answer_of, step_behind}
use Rattle.standby_hall.specs.Rows.{HasReadHead}

-- a shipment came whole: it was followed as one behind which the input ends
pub record IsWhole (held rows : List Entry) (bytes : List ℕ) : Type 0 where
  pub adopted : ℕ
  pub follows : Follows held rows (record { bytes = bytes; ended = true }) (Ok adopted)

-- so many came whole, one right after another: each found what those before it had left
abbrev pub AreWhole : ℕ → List Entry → List Entry → List ℕ → Type 0
AreWhole zero held rows bytes = (rows ≡ held) × (bytes ≡ [])
AreWhole (suc earlier) held rows bytes =
    (between : List Entry) × (before : List ℕ) × (last : List ℕ)
    × AreWhole earlier held between before × IsWhole between rows last × (bytes ≡ before ++ last)

-- Of at most so many shipments the earlier ones came whole, and the last one that was read is followed
-- as one that came alone. It was begun, so the end of the input behind a whole one is a good end; and
-- a byte behind it is too much only where no more may come. `Ok` tells how many rows all of them added.
pub record FollowsSeveral (most : ℕ) (held rows : List Entry) (arrival : Arrival)
    (result : Result ℕ FollowStop) : Type 0 where
  pub earlier : ℕ
  pub between : List Entry
  pub before : List ℕ
  pub last : List ℕ
  pub adopted : ℕ
  pub few : earlier < most
  pub whole : AreWhole earlier held between before
  pub follows : Follows between rows (record { bytes = last; ended = arrival.ended })
      (result_with adopted result)
  pub parts : arrival.bytes ≡ before ++ last
  pub begun : result ≡ Err Head → (earlier ≡ 0) ⊎ (last ≢ [])
  pub full : (all : ℕ) → result ≡ Err (Extra all) → earlier + 1 ≡ most
  pub added : IfOk result (λ count. length rows ≡ length held + count)

-- what came of an input, and how the answer to at most so many shipments follows from it
pub record ExplainsSeveral (most : ℕ) (held : List Entry) (before now : Stream) (rows : List Entry)
    (result : Result ℕ FollowStop) : Type 0 where
  pub arrival : Arrival
  pub read : Consumes before.bytes now.bytes arrival.bytes
  pub at_end : arrival.ended ≡ true → IsAtEnd now.bytes
  pub cause : CountsRead before now result
  pub follows : FollowsSeveral most held rows arrival result

-- A store followed one shipment, and this was answered: why, and what a crash leaves of its disk.
pub record AnswersFollow {D : Type 0} (disk : disk.Ghosts D) (old new : Store D)
    (before now : Stream) (answer : Result ℕ FollowError) : Type 0 where
  pub result : Result ℕ FollowStop
  pub told : answer ≡ answer_of result
  pub explained : ExplainsFollow (entries_of old) before now (entries_of new) result
  pub goes : Goes disk (step_behind result) old new

-- how a run ends that follows at most so many shipments
abbrev pub ExplainsFollowRun : ℕ → List Entry → Stream → Stream → List Entry → Stop → Type 0
ExplainsFollowRun most held before now rows stop =
    (result : Result ℕ FollowStop) × EndsBehind (length held) rows result stop
    × ExplainsSeveral most held before now rows result

-- ---- since the start of the first

-- so many came whole
pub record HasReadSeveral (start now : Stream) (held rows : List Entry) (earlier : ℕ) : Type 0
  where
    pub bytes : List ℕ
    pub read : Consumes start.bytes now.bytes bytes
    pub calm : IsCalm start now
    pub whole : AreWhole earlier held rows bytes

-- and behind them the head of a further one
pub record StandsAtHead (start now : Stream) (held rows : List Entry) (earlier : ℕ)
    (head : ShipHead) : Type 0 where
  pub middle : Stream
  pub several : HasReadSeveral start middle held rows earlier
  pub at_head : HasReadHead middle now head
