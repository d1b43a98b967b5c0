-- How an import ends that was read whole.
use Rattle.std.specs.Prelude.{◌≡◌, ◌⊎◌, List, Some, None}
use Rattle.book_words.specs.declared.act.Entry.{Entry}
use Rattle.text_streams.specs.Streams.{Stream}
use Rattle.store_runs.specs.declared.stop.Stop.{Stop}
use Rattle.store_runs.specs.declared.stop.Stop.TheVariants.{Finished, BadLine, ReadFault, WriteFault, DiskFault, NoMemory, Spent}
use Rattle.store_runs.specs.Books.{BookState}
use Rattle.import_table.specs.declared.types.ImportError.{ImportError}
use Rattle.import_table.specs.declared.types.ImportError.TheVariants.{Bad, TooMany}
use Rattle.import_table.specs.Imports.{Import}
use Rattle.script_events.specs.Commands.{lines_asking}
use Rattle.script_session.specs.Ends.{AnswersGoOut, HasTranscript, EndsEarly}
use Rattle.import_run.specs.Answered.{alone, AreFirstAnswered, StopsAtCommand}

-- all records are commands, their transcript went out, and these rows are left
pub record IsDone (book : BookState) (before now : Stream) (rows : List Entry) (import : Import)
    : Type 0 where
  pub good : import.error ≡ None
  pub done : HasTranscript book (alone before) (alone now) rows (lines_asking import.commands)

-- all records are commands and answered, and it ended without its summary
pub record StopsAtEnd (book : BookState) (before now : Stream) (rows : List Entry)
    (import : Import) (stop : Stop) : Type 0 where
  pub good : import.error ≡ None
  pub ends : EndsEarly book (alone before) (alone now) rows stop (lines_asking import.commands)

-- it has an error: the commands before it are answered
pub record StopsAtError (book : BookState) (before now : Stream) (rows : List Entry)
    (import : Import) (error : ImportError) : Type 0 where
  pub is : import.error ≡ Some error
  pub answered : AnswersGoOut book (alone before) (alone now) rows (lines_asking import.commands)

-- How an import ends that was read whole: with its transcript; at a bad record, or at the one by
-- which it has too many; in a failed write; where the disk fails, which is offered a command's row
-- or a snapshot; or where memory is wanted, at a record, at a command or at the end.
abbrev pub EndsImport : BookState → Stream → Stream → List Entry → Import → Stop → Type 0
EndsImport book before now rows import Finished = IsDone book before now rows import
EndsImport book before now rows import (BadLine number) =
    StopsAtError book before now rows import (Bad number)
EndsImport book before now rows import ReadFault = ⊥
EndsImport book before now rows import WriteFault =
    StopsAtCommand book before now rows import.commands WriteFault
    ⊎ StopsAtEnd book before now rows import WriteFault
EndsImport book before now rows import (DiskFault offer) =
    StopsAtCommand book before now rows import.commands (DiskFault offer)
    ⊎ StopsAtEnd book before now rows import (DiskFault offer)
EndsImport book before now rows import NoMemory =
    AreFirstAnswered book before now rows import.commands
EndsImport book before now rows import Spent = StopsAtError book before now rows import TooMany
