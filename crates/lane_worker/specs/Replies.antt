-- What a worker reads off a reply.
use Rattle.std.specs.Prelude.{ℕ, Option, Some, None}
use Rattle.pack_judge.specs.declared.types.Signal.TheVariants.{Pass}
use Rattle.book_words.specs.declared.act.Prior.{Prior}
use Rattle.book_words.specs.declared.reply.Reply.{Reply}
use Rattle.book_words.specs.declared.reply.Reply.TheVariants.{Judged, LaneIs}
use Rattle.lane_worker.specs.Asks.{stop_found}

-- what the stop of a lane says of the gate, where the lane is told to have a batch
abbrev pub stop_told : Reply → Option Prior
stop_told (LaneIs found) = stop_found found
stop_told _ = None

-- the number of the pack that is told to have passed
abbrev pub pack_told : Reply → Option ℕ
pack_told (Judged row Pass) = Some row
pack_told _ = None
