-- A lane as it stands behind some entries.
use Rattle.std.specs.Prelude.{◌≡◌, ◌≤ℤ◌, ℕ, pos, List, IfSome, is_none, option_map}
use Rattle.std.specs.Option.{option_and_then}
use Rattle.hall_limits.specs.declared.TheConstants.{MAX_TARE}
use Rattle.book_words.specs.declared.act.Act.{Act}
use Rattle.book_words.specs.declared.act.Act.TheVariants.{Weigh, StopLane}
use Rattle.book_words.specs.declared.act.Entry.{Entry}
use Rattle.book_words.specs.Acts.{lane_batch, newest_day}
use Rattle.book_words.specs.Order.{batch_number}
use Rattle.book_words.specs.Population.{unsettled_reading}
use Rattle.book_words.specs.Readings.{tare_of_reading}
use Rattle.book_state.specs.declared.types.LaneNow.{LaneNow}

-- what was seen of a lane: the number of its batch, the tare of that on the newest day, and the
-- lane's unsettled pack
pub record IsLaneNow (entries : List Entry) (lane : ℕ) (seen : LaneNow) : Type 0 where
  pub batch : seen.batch ≡ option_and_then (batch_number entries) (lane_batch entries lane)
  pub idle : is_none seen.batch ≡ is_none (lane_batch entries lane)
  pub tare : seen.tare ≡ tare_of_reading entries (lane_batch entries lane) (newest_day entries)
  pub range : IfSome seen.tare (λ tare. (pos 0 ≤ℤ tare) × (tare ≤ℤ MAX_TARE))
  pub unsettled : seen.unsettled
      ≡ option_map (λ reading. reading.number) (unsettled_reading entries lane)

-- it was seen of the lane on which an act weighs, or which it stops; any other act needs none
abbrev pub IsSeen : List Entry → Act → LaneNow → Type 0
IsSeen entries (Weigh lane gross prior) seen = IsLaneNow entries lane seen
IsSeen entries (StopLane lane prior) seen = IsLaneNow entries lane seen
IsSeen entries act seen = Unit {0}
