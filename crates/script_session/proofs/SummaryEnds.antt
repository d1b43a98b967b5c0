-- Lemmas on how a run ends whose lines are all answered.
use Rattle.std.proofs.Common.{ℕ, List, []}
use Rattle.book_words.specs.declared.act.Entry.{Entry}
use Rattle.text_streams.specs.Streams.{Stream}
use Rattle.text_streams.proofs.PrintedTexts.{wrote_nothing}
use Rattle.store_runs.specs.declared.stop.Stop.{Stop}
use Rattle.store_runs.specs.declared.stop.Stop.TheVariants.{Finished, BadLine, ReadFault, WriteFault, DiskFault, NoMemory, Spent}
use Rattle.store_runs.specs.Runs.{FailsToKeep}
use Rattle.script_session.specs.Ends.{StopsAtSummary, EndsAtSummary}

-- where no snapshot is kept nothing goes out
pub stops_unkept : (opened : ℕ) (now : Stream) (rows : List Entry) (stop : Stop)
    → FailsToKeep opened rows stop → StopsAtSummary opened now now rows [] stop
stops_unkept opened now rows (DiskFault offer) fails = (wrote_nothing now, fails)
stops_unkept opened now rows NoMemory fails = (wrote_nothing now, fails)
stops_unkept opened now rows Finished fails = absurd fails
stops_unkept opened now rows (BadLine named) fails = absurd fails
stops_unkept opened now rows ReadFault fails = absurd fails
stops_unkept opened now rows WriteFault fails = absurd fails
stops_unkept opened now rows Spent fails = absurd fails

-- a run that stops at its summary has ended so
pub ends_stopped : (opened : ℕ) (before now : Stream) (rows : List Entry) (stop : Stop)
    → StopsAtSummary opened before now rows [] stop → EndsAtSummary opened before now rows stop
ends_stopped opened before now rows WriteFault stops = stops
ends_stopped opened before now rows (DiskFault offer) stops = stops
ends_stopped opened before now rows NoMemory stops = stops
ends_stopped opened before now rows (BadLine named) stops = stops
ends_stopped opened before now rows ReadFault stops = stops
ends_stopped opened before now rows Spent stops = stops
ends_stopped opened before now rows Finished stops = absurd stops.1
