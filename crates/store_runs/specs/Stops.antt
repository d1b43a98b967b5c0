-- How a run stops, and the row that a disk was offered as it failed.
use Rattle.std.specs.Prelude.{ℕ, Option, Some, None, Result, Ok, Err}
use Rattle.book_words.specs.declared.act.Ask.{Ask}
use Rattle.book_words.specs.declared.act.Entry.{Entry}
use Rattle.book_words.specs.declared.caller.AskError.{AskError}
use Rattle.book_words.specs.declared.caller.AskError.TheVariants as error
use Rattle.book_words.specs.declared.reply.Answered.{Answered}
use Rattle.book_words.specs.Answers.{added}
use Rattle.book_store.specs.declared.types.AdoptError.{AdoptError}
use Rattle.book_store.specs.declared.types.AdoptError.TheVariants as adopt
use Rattle.text_streams.specs.declared.reader.ReadError.{ReadError}
use Rattle.text_streams.specs.declared.reader.ReadError.TheVariants as reading
use Rattle.store_runs.specs.declared.stop.Offer.{Offer}
use Rattle.store_runs.specs.declared.stop.Offer.TheVariants as offering
use Rattle.store_runs.specs.declared.stop.Stop.{Stop}
use Rattle.store_runs.specs.declared.stop.Stop.TheVariants.{BadLine, ReadFault, DiskFault, NoMemory, Spent}
use Rattle.store_runs.specs.Books.{BookState}

-- how a run stops whose input wasn't read to its end
abbrev pub stop_of : ReadError → Stop
stop_of reading.Failed = ReadFault
stop_of reading.Spent = Spent

-- the row that was offered behind those of a book: what the ask adds there, or the row itself
abbrev pub offer_row : BookState → Offer → Option Entry
offer_row book offering.Snapshot = None
offer_row book (offering.Asked by ask) = added book.limit book.entries by ask
offer_row book (offering.Row entry) = Some entry

-- the row that was offered where a run stopped: none unless the disk failed
abbrev pub stop_row : BookState → Stop → Option Entry
stop_row book (DiskFault offer) = offer_row book offer
stop_row book _ = None

-- the same behind a step of a run
abbrev pub step_row : {T : Type 0} → BookState → Result T Stop → Option Entry
step_row book (Ok done) = None
step_row book (Err stop) = stop_row book stop

-- how a step of a run ends at an ask that the caller `by` made: it goes on where there is an answer
abbrev pub step_asked : {T : Type 0} → T → ℕ → Ask → Result Answered AskError → Result T Stop
step_asked done by ask (Ok answered) = Ok done
step_asked done by ask (Err (error.Refused refused)) = Ok done
step_asked done by ask (Err error.DiskFault) = Err (DiskFault (offering.Asked by ask))
step_asked done by ask (Err error.NoMemory) = Err NoMemory

-- how it ends at a row of another book, with this number, that is adopted
abbrev pub step_adopted : {T : Type 0} → T → ℕ → Entry → Result ℕ AdoptError → Result T Stop
step_adopted done number entry (Ok row) = Ok done
step_adopted done number entry (Err adopt.Unlawful) = Err (BadLine number)
step_adopted done number entry (Err adopt.DiskFault) = Err (DiskFault (offering.Row entry))
step_adopted done number entry (Err adopt.NoMemory) = Err NoMemory
