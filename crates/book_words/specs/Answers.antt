-- What the book answers, and which lists are legal.
use Rattle.std.specs.Prelude.{◌≡◌, ℕ, ◌+◌, ◌-◌, ◌<◌, List, [], ◌∷◌, ◌++◌, length, take, Option, Some, None, Result, Ok, Err}
use Rattle.std.specs.List.{cons_option}
use Rattle.hall_limits.specs.declared.TheConstants.{MAX_ROWS}
use Rattle.pack_judge.specs.declared.types.Signal.{Signal}
use Rattle.book_words.specs.declared.act.Act.{Act}
use Rattle.book_words.specs.declared.act.Act.TheVariants.{Close}
use Rattle.book_words.specs.declared.act.Entry.{Entry}
use Rattle.book_words.specs.declared.act.Ask.{Ask}
use Rattle.book_words.specs.declared.act.Want.{Want}
use Rattle.book_words.specs.declared.act.Want.TheVariants as want
use Rattle.book_words.specs.declared.reply.Reply.{Reply}
use Rattle.book_words.specs.declared.reply.Reply.TheVariants.{Done, Judged, Closed}
use Rattle.book_words.specs.declared.reply.Answered.{Answered}
use Rattle.book_words.specs.declared.reply.Refused.{Refused}
use Rattle.book_words.specs.declared.refusal.Refusal.{Refusal}
use Rattle.book_words.specs.Signals.{with_act, recorded_signal}
use Rattle.book_words.specs.Verdicts.{verdict_of}
use Rattle.book_words.specs.Desks.{desk_number, repeated_row}
use Rattle.book_words.specs.Refusals.{refusal_of, refusal_by_rule}
use Rattle.book_words.specs.Views.{question_told}

-- a weighing is told its row and its signal, any other act its row
abbrev pub judged_or_done : ℕ → Option Signal → Reply
judged_or_done row (Some signal) = Judged row signal
judged_or_done row None = Done row

-- what an accepted act is told behind some entries: its row; with it a weighing its signal, and a
-- closing the verdict over the list that it makes
abbrev pub reply_behind : List Entry → Act → Reply
reply_behind entries (Close batch) =
    Closed (length entries + 1) (verdict_of (with_act entries (Close batch)) batch)
reply_behind entries act = judged_or_done (length entries + 1) (recorded_signal entries act)

-- an accepted act is the next row
abbrev pub accepted : List Entry → Act → Answered
accepted entries act = record { at = length entries + 1; reply = reply_behind entries act }

-- a repeat is told again what its row was told
abbrev pub told_again : List Entry → ℕ → Act → Answered
told_again entries row act =
    record { at = length entries; reply = reply_behind (take (row - 1) entries) act }

-- a refusal speaks of the whole list
abbrev pub refused_at : List Entry → Refusal → Refused
refused_at entries refusal = record { at = length entries; refusal = refusal }

-- an act is refused where a refusal holds, and else accepted
abbrev pub new_answer : List Entry → Act → Option Refusal → Result Answered Refused
new_answer entries act (Some refusal) = Err (refused_at entries refusal)
new_answer entries act None = Ok (accepted entries act)

-- a repeat is told again; any other act is new
abbrev pub repeat_answer : List Entry → Act → Option ℕ → Option Refusal → Result Answered Refused
repeat_answer entries act (Some row) refusal = Ok (told_again entries row act)
repeat_answer entries act None refusal = new_answer entries act refusal

-- a wrong desk is refused before anything else is looked at
abbrev pub desk_answer :
    List Entry → Act → Option Refusal → Option ℕ → Option Refusal → Result Answered Refused
desk_answer entries act (Some by_desk) row by_rule = Err (refused_at entries by_desk)
desk_answer entries act None row by_rule = repeat_answer entries act row by_rule

-- an act is answered by its desk, by the row that it repeats, and by the refusals
abbrev pub act_answer : ℕ → List Entry → Ask → Act → Result Answered Refused
act_answer limit entries ask act =
    desk_answer entries act (desk_number ask act) (repeated_row entries ask act)
    (refusal_of limit entries ask act)

-- what a question is told speaks of the whole list
abbrev pub question_answer : List Entry → Result Reply Refusal → Result Answered Refused
question_answer entries (Ok reply) = Ok (record { at = length entries; reply = reply })
question_answer entries (Err refusal) = Err (refused_at entries refusal)

-- what is wanted is answered over the list as it stands
abbrev pub want_answer : ℕ → List Entry → Ask → Want → Result Answered Refused
want_answer limit entries ask (want.Act act) = act_answer limit entries ask act
want_answer limit entries ask (want.Question question) =
    question_answer entries (question_told entries question)

-- the answer to whatever is asked of a book of so many rows at most, over the list as it stands
abbrev pub answer : ℕ → List Entry → Ask → Result Answered Refused
answer limit entries ask = want_answer limit entries ask ask.want

-- the entry of an act that is asked, made for whoever asks
abbrev pub entry_for : List Entry → ℕ → Ask → Act → Entry
entry_for entries by ask act =
    record {
      by = by;
      desk = ask.desk;
      request = ask.request;
      act = act;
      signal = recorded_signal entries act;
    }

-- an act adds its entry unless it is a repeat or is refused
abbrev pub entry_unless : Option ℕ → Option Refusal → Entry → Option Entry
entry_unless None None entry = Some entry
entry_unless _ _ entry = None

-- the entry that what is wanted adds
abbrev pub want_added : ℕ → List Entry → ℕ → Ask → Want → Option Entry
want_added limit entries by ask (want.Act act) =
    entry_unless (repeated_row entries ask act) (refusal_of limit entries ask act)
    (entry_for entries by ask act)
want_added limit entries by ask (want.Question question) = None

-- the entry that an ask adds to the list, if any: that of an act that is new and accepted
abbrev pub added : ℕ → List Entry → ℕ → Ask → Option Entry
added limit entries by ask = want_added limit entries by ask ask.want

-- the list behind an ask
abbrev pub entries_after : ℕ → List Entry → ℕ → Ask → List Entry
entries_after limit entries by ask = entries ++ cons_option (added limit entries by ask) []

-- an entry as it was asked
abbrev pub ask_of : Entry → Ask
ask_of entry = record { desk = entry.desk; request = entry.request; want = want.Act entry.act }

-- an entry is lawful behind a list where there is room for it, it repeats no row, no rule refuses
-- it, and its signal is the one that the act gets
pub record IsLawful (entries : List Entry) (entry : Entry) : Type 0 where
  pub room : length entries < MAX_ROWS
  pub new : repeated_row entries (ask_of entry) entry.act ≡ None
  pub rules : refusal_by_rule entries (ask_of entry) entry.act ≡ None
  pub signal : entry.signal ≡ recorded_signal entries entry.act

-- a list is legal where each entry is lawful behind those before it
abbrev pub IsLegal : List Entry → Type 0
IsLegal entries =
    (before : List Entry) (entry : Entry) (after : List Entry)
    → entries ≡ before ++ entry ∷ after → IsLawful before entry
