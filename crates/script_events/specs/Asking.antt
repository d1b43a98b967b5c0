-- What a command asks the book as it stands, and what it is answered.
use Rattle.std.specs.Prelude.{ℕ, List, is_some, if◌then◌else◌, Option, Some, None, Result, Ok, Err}
use Rattle.book_words.specs.declared.act.Prior.{Prior}
use Rattle.book_words.specs.declared.act.Prior.TheVariants.{Nothing, Opened}
use Rattle.book_words.specs.declared.act.Act.TheVariants as act
use Rattle.book_words.specs.declared.act.Question.TheVariants as question
use Rattle.book_words.specs.declared.act.Want.{Want}
use Rattle.book_words.specs.declared.act.Want.TheVariants as want
use Rattle.book_words.specs.declared.act.Ask.{Ask}
use Rattle.book_words.specs.declared.act.Entry.{Entry}
use Rattle.book_words.specs.declared.reply.Answered.{Answered}
use Rattle.book_words.specs.declared.reply.Refused.{Refused}
use Rattle.book_words.specs.Population.{unsettled_reading}
use Rattle.book_words.specs.Answers.{answer, added}
use Rattle.book_words.specs.Soundness.{IsAnswer, IsRefusal}
use Rattle.script_lines.specs.declared.command.Command.{Command}
use Rattle.script_lines.specs.declared.command.Verb.{Verb}
use Rattle.script_lines.specs.declared.command.Verb.TheVariants.{Day, Product, Tare, Open, Start, Weigh, Stop, Void, End, Draw, Measure, Second, Close, Sheet, Pack, Lane, Sample, Summary, Acts, Packs}
use Rattle.store_runs.specs.Books.{BookState}

-- the number that the entries of a script bear
abbrev pub script_caller : ℕ
script_caller = 0

-- what the gate did: as it is said, and else it opened where the lane has an unsettled reading
abbrev pub prior_at : List Entry → ℕ → Option Prior → Prior
prior_at entries lane (Some prior) = prior
prior_at entries lane None =
    if is_some (unsettled_reading entries lane) then Opened else Nothing

-- what a verb wants of the book
abbrev pub want_at : List Entry → Verb → Want
want_at entries (Day day) = want.Act (act.NewDay day)
want_at entries (Product name nominal unit) = want.Act (act.PutProduct name nominal unit)
want_at entries (Tare product day tare) = want.Act (act.PutTare product day tare)
want_at entries (Open batch product density) = want.Act (act.OpenBatch batch product density)
want_at entries (Start lane batch) = want.Act (act.StartLane lane batch)
want_at entries (Weigh lane gross prior) =
    want.Act (act.Weigh lane gross (prior_at entries lane prior))
want_at entries (Stop lane prior) = want.Act (act.StopLane lane (prior_at entries lane prior))
want_at entries (Void pack) = want.Act (act.Void pack)
want_at entries (End batch) = want.Act (act.EndRun batch)
want_at entries (Draw batch mode word) = want.Act (act.Draw batch mode word)
want_at entries (Measure pack gross empty) = want.Act (act.Measure pack gross empty)
want_at entries (Second batch word) = want.Act (act.DrawSecond batch word)
want_at entries (Close batch) = want.Act (act.Close batch)
want_at entries (Sheet batch) = want.Question (question.Sheet batch)
want_at entries (Pack pack) = want.Question (question.Pack pack)
want_at entries (Lane lane) = want.Question (question.Lane lane)
want_at entries (Sample batch) = want.Question (question.Sample batch)
want_at entries Summary = want.Question question.Summary
want_at entries (Acts after) = want.Question (question.Rows after)
want_at entries (Packs batch after) = want.Question (question.Packs batch after)

-- what a command asks the book
abbrev pub ask_at : List Entry → Command → Ask
ask_at entries command =
    record { desk = command.desk; request = command.request; want = want_at entries command.verb }

-- what was asked, what was answered, and the entry that was added, if any
pub record Exchange : Type 0 where
  pub ask : Ask
  pub answer : Result Answered Refused
  pub added : Option Entry

-- what a book is asked by a command, answers and adds
abbrev pub exchange_at : BookState → Command → Exchange
exchange_at book command =
    record {
      ask = ask_at book.entries command;
      answer = answer book.limit book.entries (ask_at book.entries command);
      added = added book.limit book.entries script_caller (ask_at book.entries command);
    }

-- an answer that the book gives to some ask over some legal list
abbrev pub IsTold : Result Answered Refused → Type 0
IsTold (Ok answered) = IsAnswer answered
IsTold (Err refused) = IsRefusal refused
