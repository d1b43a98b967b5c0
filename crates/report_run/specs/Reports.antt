-- What is printed of a book: reports and the register, over the list of its entries.
use Rattle.std.specs.Prelude.{◌≡◌, ℕ, List, [], ◌∷◌, ◌++◌, map, Option, Some, None, Result, Ok, Err}
use Rattle.std.specs.List.{flat_map, filter_map}
use Rattle.std.specs.Option.{option_and_then}
use Rattle.book_words.specs.declared.name.Name.{Name}
use Rattle.book_words.specs.declared.act.Entry.{Entry}
use Rattle.book_words.specs.declared.act.Question.TheVariants.{Sheet}
use Rattle.book_words.specs.declared.reply.Reply.{Reply}
use Rattle.book_words.specs.declared.reply.Reply.TheVariants.{PackIs}
use Rattle.book_words.specs.declared.reply.Answered.{Answered}
use Rattle.book_words.specs.declared.reply.Refused.{Refused}
use Rattle.book_words.specs.declared.views.PackView.{PackView}
use Rattle.book_words.specs.Acts.{said, batch_opened}
use Rattle.book_words.specs.Readings.{readings}
use Rattle.book_words.specs.Samples.{numbers_of}
use Rattle.book_words.specs.Views.{view_of_reading, question_told, summary}
use Rattle.book_words.specs.Answers.{question_answer}
use Rattle.book_core.specs.declared.types.BookError.{BookError}
use Rattle.book_state.specs.Known.{entry_numbered}
use Rattle.batch_reports.specs.Texts.{outcome_text, summary_text}
use Rattle.csv.specs.Reading.{AreRecords, default_config, strip_bom}
use Rattle.csv.specs.declared.parser.State.TheVariants.{StartRecord}
use Rattle.pack_register.specs.Register.{column_names, columns, register_text}

-- what the question for the sheet of a batch is answered: the sheet, or that there is no such batch
abbrev pub sheet_answer : List Entry → Name → Result Answered Refused
sheet_answer entries batch = question_answer entries (question_told entries (Sheet batch))

-- the sheet of a batch, or the line of its refusal
abbrev pub batch_text : List Entry → Name → List ℕ
batch_text entries batch = outcome_text (sheet_answer entries batch)

-- the sheets of all batches in order of opening
abbrev pub sheets_text : List Entry → List ℕ
sheets_text entries = flat_map (batch_text entries) (said batch_opened entries)

-- a report: the sheets of all batches in order of opening, and then the summary
abbrev pub report_text : List Entry → List ℕ
report_text entries = sheets_text entries ++ summary_text (summary entries)

-- the packs that were weighed, in order
abbrev pub weighed_packs : List Entry → List PackView
weighed_packs entries = filter_map (view_of_reading entries) (readings entries)

-- the register of a book: the header, and the record of each pack that was weighed
abbrev pub book_register : List Entry → List ℕ
book_register entries = register_text (weighed_packs entries)

-- each reading has its record, and nothing else has one: the packs have the numbers of the readings
abbrev pub HasEachReading : List Entry → Type 0
HasEachReading entries =
    map (λ pack. pack.pack) (weighed_packs entries) ≡ numbers_of (readings entries)

-- what `csv` reads of the register: the names of the columns, and then what stands in them of each
-- pack
abbrev pub IsReadBack : List Entry → Type 0
IsReadBack entries =
    AreRecords default_config StartRecord (strip_bom (book_register entries))
    (column_names ∷ map columns (weighed_packs entries))

-- the batch that the row of a number opens, where it opens one
abbrev pub opened_at : List Entry → ℕ → Option Name
opened_at entries number =
    option_and_then (λ entry. batch_opened entry.act) (entry_numbered entries number)

-- the pack that a reply tells, where it tells one
abbrev pub pack_in : Reply → Option PackView
pack_in (PackIs view) = Some view
pack_in _ = None

-- the pack that an answer tells, where it tells one
abbrev pub pack_told : Result Answered BookError → Option PackView
pack_told (Ok answered) = pack_in answered.reply
pack_told (Err error) = None

-- the text of a thing, where it is there
abbrev pub text_if_there : {A : Type 0} → (A → List ℕ) → Option A → List ℕ
text_if_there text (Some thing) = text thing
text_if_there text None = []
