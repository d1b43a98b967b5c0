-- How the reading of an import stops before its end.
use Rattle.std.specs.Prelude.{◌≡◌}
use Rattle.text_streams.specs.Streams.{Stream}
use Rattle.text_streams.specs.declared.whole.Unread.{Unread}
use Rattle.text_streams.specs.declared.whole.Unread.TheVariants as unread
use Rattle.text_streams.specs.WholeInputs as whole
use Rattle.store_runs.specs.declared.stop.Stop.{Stop}
use Rattle.store_runs.specs.declared.stop.Stop.TheVariants.{BadLine, ReadFault, NoMemory, Spent}
use Rattle.import_table.specs.declared.types.TheConstants.{MAX_IMPORT}
use Rattle.import_table.specs.declared.types.ImportError.{ImportError}
use Rattle.import_table.specs.declared.types.ImportError.TheVariants as error

-- how an error of an import stops its run
abbrev pub import_stop : ImportError → Stop
import_stop (error.Bad number) = BadLine number
import_stop error.TooMany = Spent
import_stop error.NoMemory = NoMemory

-- how a run stops whose import wasn't read whole: too many bytes are the bad line 0
abbrev pub stop_unread : Unread → Stop
stop_unread unread.TooLong = BadLine 0
stop_unread unread.Failed = ReadFault
stop_unread unread.NoMemory = NoMemory

-- an import wasn't read whole: it has too many bytes, it failed, or there was no memory for it
abbrev pub IsUnread : Stream → Stream → Unread → Type 0
IsUnread before now unread = whole.StopsReading MAX_IMPORT before now unread

-- how the reading of an import stops
abbrev pub StopsReading : Stream → Stream → Stop → Type 0
StopsReading before now (BadLine number) = (number ≡ 0) × IsUnread before now unread.TooLong
StopsReading before now ReadFault = IsUnread before now unread.Failed
StopsReading before now NoMemory = IsUnread before now unread.NoMemory
StopsReading before now _ = ⊥
