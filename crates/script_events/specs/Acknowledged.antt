-- What was acknowledged stands among the rows, once.
use Rattle.std.specs.Prelude.{◌≡◌, ⊤, true, ℕ, ◌+◌, ◌-◌, List, [], length, take, flat_map, map, Option, Some, None, option_map, Result, Ok, Err, slice_get}
use Rattle.std.specs.List.{cons_option, range_with_len, AllByRecursion}
use Rattle.book_words.specs.declared.act.Act.{Act}
use Rattle.book_words.specs.declared.act.Want.{Want}
use Rattle.book_words.specs.declared.act.Want.TheVariants as want
use Rattle.book_words.specs.declared.act.Ask.{Ask}
use Rattle.book_words.specs.declared.act.Entry.{Entry}
use Rattle.book_words.specs.declared.reply.Answered.{Answered}
use Rattle.book_words.specs.declared.reply.Refused.{Refused}
use Rattle.book_words.specs.Answers.{reply_behind}
use Rattle.book_words.specs.Callers.{number_named}
use Rattle.book_words.specs.Desks.{Row, same_act}
use Rattle.book_words.specs.Signals.{recorded_signal}
use Rattle.store_runs.specs.Books.{BookState}
use Rattle.script_events.specs.Asking.{Exchange}
use Rattle.script_events.specs.Transcript.{Event, Asked, Worked, after_events}

-- the row that an exchange acknowledges, where it added an entry
abbrev pub acknowledged_row : Exchange → Option ℕ
acknowledged_row exchange = option_map (λ entry. number_named exchange.answer) exchange.added

-- the rows that an event acknowledges
abbrev pub acknowledged_rows : Event → List ℕ
acknowledged_rows (Asked exchange) = cons_option (acknowledged_row exchange) []
acknowledged_rows (Worked job) = map (λ row. row.number) job.work.rows

-- an act that adds an entry: that stands among the rows at the number that the answer tells, and
-- with the rows before it the act gets this reply, and this signal
pub record AddsRow (rows : List Entry) (entry : Entry) (answered : Answered) : Type 0 where
  pub stands : slice_get rows (answered.at - 1) ≡ Some entry
  pub reply : answered.reply ≡ reply_behind (take (answered.at - 1) rows) entry.act
  pub signal : entry.signal ≡ recorded_signal (take (answered.at - 1) rows) entry.act

-- an act that repeats a row: that row has its desk, its request and the same act, and with the rows
-- before it the act gets this reply
pub record RepeatsRow (rows : List Entry) (ask : Ask) (act : Act) (answered : Answered)
    : Type 0 where
  pub row : ℕ
  pub entry : Entry
  pub stands : slice_get rows (row - 1) ≡ Some entry
  pub desk : entry.desk ≡ ask.desk
  pub request : entry.request ≡ ask.request
  pub same : same_act entry.act act ≡ true
  pub reply : answered.reply ≡ reply_behind (take (row - 1) rows) act

-- an act that isn't refused has a row, added or repeated; a refused one adds none
abbrev pub HasRow : List Entry → Ask → Act → Option Entry → Result Answered Refused → Type 0
HasRow rows ask act (Some entry) (Ok answered) = AddsRow rows entry answered
HasRow rows ask act None (Ok answered) = RepeatsRow rows ask act answered
HasRow rows ask act None (Err refused) = ⊤
HasRow rows ask act (Some entry) (Err refused) = ⊥

-- what was acknowledged stands among the rows: each act has its row so, and a question adds none
abbrev pub StandsAmong : List Entry → Ask → Want → Option Entry → Result Answered Refused → Type 0
StandsAmong rows ask (want.Act act) new answer = HasRow rows ask act new answer
StandsAmong rows ask (want.Question question) new answer = new ≡ None

-- a row of a lane stands among all rows at its number
abbrev pub RowStands : List Entry → Row → Type 0
RowStands rows row = slice_get rows (row.number - 1) ≡ Some row.entry

-- so does what an event acknowledged
abbrev pub EventStands : List Entry → Event → Type 0
EventStands rows (Asked exchange) =
    StandsAmong rows exchange.ask exchange.ask.want exchange.added exchange.answer
EventStands rows (Worked job) = AllByRecursion (RowStands rows) job.work.rows

-- what each event acknowledged stands among the rows, and the rows that were added are those after
-- the first ones of the book, each once and in order
pub record StandOnce (book : BookState) (events : List Event) (rows : List Entry) : Type 0 where
  pub each : AllByRecursion (EventStands rows) events
  pub once : flat_map acknowledged_rows events
      ≡ range_with_len (length book.entries + 1) (length rows - length book.entries)

-- these are the rows that events leave, and what was acknowledged stands among them once
pub record AreLeft (book : BookState) (events : List Event) (rows : List Entry) : Type 0 where
  pub left : rows ≡ (after_events book events).entries
  pub once : StandOnce book events rows
