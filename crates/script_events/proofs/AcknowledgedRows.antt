-- What was acknowledged stands once.
use Rattle.std.proofs.Common.{◌≡◌, ℕ, ◌+◌, ◌-◌, ◌≤◌, suc, List, [], ◌∷◌, ◌++◌, length, take, flat_map, map, Option, Some, None, IfSome, option_map, Result, Ok, Err, refl, sym, ap, ◌∙◌, subst, arith, append_assoc, append-nil, length-append}
use Rattle.std.specs.List.{slice_get, cons_option, range_with_len, AllByRecursion}
use Rattle.device_facts.specs.Prefix.{IsPrefixOf}
use Rattle.book_words.specs.declared.act.Act.{Act}
use Rattle.book_words.specs.declared.act.Question.{Question}
use Rattle.book_words.specs.declared.act.Want.{Want}
use Rattle.book_words.specs.declared.act.Want.TheVariants as want
use Rattle.book_words.specs.declared.act.Ask.{Ask}
use Rattle.book_words.specs.declared.act.Entry.{Entry}
use Rattle.book_words.specs.declared.reply.Answered.{Answered}
use Rattle.book_words.specs.declared.reply.Refused.{Refused}
use Rattle.book_words.specs.declared.refusal.Refusal.{Refusal}
use Rattle.book_words.specs.Signals.{recorded_signal}
use Rattle.book_words.specs.Desks.{Row, desk_number, request_old, request_reused, request_gap, repeated_row}
use Rattle.book_words.specs.Refusals.{first_refusal, book_full, refusals_of}
use Rattle.book_words.specs.Answers.{reply_behind, accepted, told_again, desk_answer, want_answer, entry_for, entry_unless, want_added}
use Rattle.script_lines.specs.declared.command.Command.{Command}
use Rattle.script_lines.specs.declared.command.Line.{Line}
use Rattle.script_lines.specs.declared.command.Line.TheVariants.{Nothing, Asks, Works, Bad}
use Rattle.book_words.specs.Callers.{number_named}
use Rattle.store_runs.proofs.KeptLemmas.{begins_on, begins_short}
use Rattle.store_runs.specs.Books.{BookState}
use Rattle.script_events.specs.LaneWorks.{AreNumbered}
use Rattle.script_events.specs.Asking.{script_caller, ask_at, Exchange, exchange_at}
use Rattle.script_events.specs.Transcript.{Event, Asked, Worked, entries_added, after_event, after_events, AreEventsOf}
use Rattle.script_events.specs.Acknowledged.{acknowledged_rows, AddsRow, StandsAmong, RowStands, EventStands, AreLeft}
use Rattle.script_events.proofs.RepeatLemmas.{IsToldAgain, repeat_found}

-- where an answer comes with a new entry, it tells that entry's row; and what is acknowledged stands
-- so among all rows that begin with the list
record Acknowledges (entries : List Entry) (ask : Ask) (want : Want) (new : Option Entry)
    (answer : Result Answered Refused) : Type 0 where
  row : (entry : Entry) → new ≡ Some entry → number_named answer ≡ length entries + 1
  stands : (rows : List Entry) → IsPrefixOf (entries ++ cons_option new []) rows
      → StandsAmong rows ask want new answer

-- the entry behind some entries, and these
seam : (entries more : List Entry) (entry : Entry)
    → slice_get (entries ++ entry ∷ more) (length entries) ≡ Some entry
seam [] more entry = refl
seam (x ∷ entries) more entry = seam entries more entry

front : (entries more : List Entry) (entry : Entry)
    → take (length entries) (entries ++ entry ∷ more) ≡ entries
front [] more entry = refl
front (x ∷ entries) more entry = ap (λ xs. x ∷ xs) (front entries more entry)

-- a new entry stands behind those before it
new_stands : (entries rows : List Entry) (by : ℕ) (ask : Ask) (act : Act)
    → IsPrefixOf (entries ++ entry_for entries by ask act ∷ []) rows
    → AddsRow rows (entry_for entries by ask act) (accepted entries act)
new_stands entries rows by ask act prefix =
    let entry = entry_for entries by ask act in
    let back : length entries + 1 - 1 ≡ length entries = omega arith in
    let parts : rows ≡ entries ++ entry ∷ prefix.0 = prefix.1
    ∙ append_assoc entries (entry ∷ []) prefix.0 in
    let before : take (length entries + 1 - 1) rows ≡ entries = ap (λ n. take n rows) back
    ∙ ap (take (length entries)) parts ∙ front entries prefix.0 entry in
    record {
      stands = ap (slice_get rows) back
          ∙ ap (λ (xs : List Entry). slice_get xs (length entries)) parts
          ∙ seam entries prefix.0 entry;
      reply = ap (λ (xs : List Entry). reply_behind xs act) (sym before);
      signal = ap (λ (xs : List Entry). recorded_signal xs act) (sym before);
    }

acknowledges_question : (entries : List Entry) (ask : Ask) (question : Question)
    (answer : Result Answered Refused)
    → Acknowledges entries ask (want.Question question) None answer
acknowledges_question entries ask question answer =
    record { row = λ entry is. absurd (cc); stands = λ rows prefix. refl }

acknowledges_refusal : (entries : List Entry) (ask : Ask) (act : Act) (refused : Refused)
    → Acknowledges entries ask (want.Act act) None (Err refused)
acknowledges_refusal entries ask act refused =
    record { row = λ entry is. absurd (cc); stands = λ rows prefix. tt }

acknowledges_repeat : (entries : List Entry) (ask : Ask) (act : Act) (row : ℕ)
    → IsToldAgain entries ask act row
    → Acknowledges entries ask (want.Act act) None (Ok (told_again entries row act))
acknowledges_repeat entries ask act row told =
    record {
      row = λ entry is. absurd (cc);
      stands =
          λ rows prefix. told rows (
            prefix.0,
            prefix.1
                ∙ ap (λ (xs : List Entry). xs ++ prefix.0) (append-nil entries),
          );
    }

acknowledges_act : (entries : List Entry) (by : ℕ) (ask : Ask) (act : Act) (wrong : Option Refusal)
    (row : Option ℕ) (others : List (Option Refusal)) → IfSome row (IsToldAgain entries ask act)
    → Acknowledges entries ask (want.Act act)
    (entry_unless row (first_refusal (wrong ∷ others)) (entry_for entries by ask act))
    (desk_answer entries act wrong row (first_refusal (wrong ∷ others)))
acknowledges_act entries by ask act None (Some row) others told =
    acknowledges_repeat entries ask act row told
acknowledges_act entries by ask act (Some refusal) (Some row) others told =
    acknowledges_refusal entries ask act _
acknowledges_act entries by ask act (Some refusal) None others told =
    acknowledges_refusal entries ask act _
acknowledges_act entries by ask act None None others told = by_refusal (first_refusal others)
  where
    by_refusal : (refusal : Option Refusal)
        → Acknowledges entries ask (want.Act act)
        (entry_unless None refusal (entry_for entries by ask act))
        (desk_answer entries act None None refusal)
    by_refusal (Some refusal) = acknowledges_refusal entries ask act _
    by_refusal None = record {
      row = λ entry is. refl;
      stands =
          λ rows prefix. new_stands entries rows by ask act prefix;
    }

acknowledges_want : (limit : ℕ) (entries : List Entry) (by : ℕ) (ask : Ask) (want : Want)
    → Acknowledges entries ask want (want_added limit entries by ask want)
    (want_answer limit entries ask want)
acknowledges_want limit entries by ask (want.Act act) =
    acknowledges_act entries by ask act (desk_number ask act) (repeated_row entries ask act)
    (request_old entries ask ∷ request_reused entries ask act ∷ request_gap entries ask
    ∷ book_full limit entries ∷ refusals_of entries act)
    (repeat_found entries ask act)
acknowledges_want limit entries by ask (want.Question question) =
    acknowledges_question entries ask question _

acknowledges : (book : BookState) (command : Command) (exchange : Exchange)
    → exchange ≡ exchange_at book command
    → Acknowledges book.entries exchange.ask exchange.ask.want exchange.added exchange.answer
acknowledges book command exchange is =
    let ask = ask_at book.entries command in
    subst (λ (e : Exchange). Acknowledges book.entries e.ask e.ask.want e.added e.answer) (sym is)
    (acknowledges_want book.limit book.entries script_caller ask ask.want)

-- ---- events that were done, whatever asked for them

-- an event was done at a book: a command was asked there, or a lane's rows are numbered on from it
abbrev IsDoneAt : BookState → Event → Type 0
IsDoneAt book (Asked exchange) = (command : Command) × (exchange ≡ exchange_at book command)
IsDoneAt book (Worked job) = AreNumbered (length book.entries) job.work.rows

abbrev pub AreDone : BookState → List Event → Type 0
AreDone book [] = Unit {0}
AreDone book (event ∷ events) = IsDoneAt book event × AreDone (after_event book event) events

-- the events of lines were done
pub lines_done : (book : BookState) (lines : List Line) (events : List Event)
    → AreEventsOf book lines events → AreDone book events
lines_done book [] events are = subst (AreDone book) (sym are) tt
lines_done book (Nothing ∷ lines) events are = lines_done book lines events are
lines_done book (Bad ∷ lines) [] are = absurd are
lines_done book (Bad ∷ lines) (event ∷ events) are = absurd are.0
lines_done book (Asks command ∷ lines) [] are = absurd are
lines_done book (Asks command ∷ lines) (Asked exchange ∷ events) are =
    ((command, are.0), lines_done (after_event book (Asked exchange)) lines events are.1)
lines_done book (Asks command ∷ lines) (Worked job ∷ events) are = absurd are.0
lines_done book (Works lane batch ∷ lines) [] are = absurd are
lines_done book (Works lane batch ∷ lines) (Asked exchange ∷ events) are = absurd are.0
lines_done book (Works lane batch ∷ lines) (Worked job ∷ events) are =
    (are.0.works.numbers, lines_done (after_event book (Worked job)) lines events are.1)

-- events, and then one more
pub done_more : (book : BookState) (events : List Event) (event : Event) → AreDone book events
    → AreDone (after_events book events) (event ∷ []) → AreDone book (events ++ event ∷ [])
done_more book [] event done then = then
done_more book (first ∷ events) event done then =
    (done.0, done_more (after_event book first) events event done.1 then)

-- the entries of a book stay where more events come
pub entries_stay : (book : BookState) (events : List Event)
    → IsPrefixOf book.entries (after_events book events).entries
entries_stay book [] = ([], sym (append-nil book.entries))
entries_stay book (event ∷ events) =
    begins_on book.entries (after_event book event).entries _ (entries_added event, refl)
    (entries_stay (after_event book event) events)

-- the entries of rows
abbrev entries_in : List Row → List Entry
entries_in rows = map (λ row. row.entry) rows

-- rows that are numbered on behind some entries stand so among all rows
rows_stand : (entries : List Entry) (rows : List Row) (all : List Entry)
    → AreNumbered (length entries) rows → IsPrefixOf (entries ++ entries_in rows) all
    → AllByRecursion (RowStands all) rows
rows_stand entries [] all numbered prefix = tt
rows_stand entries (row ∷ rows) all numbered prefix =
    let back : row.number - 1 ≡ length entries = omega (arith, numbered.0) in
    let parts : all ≡ entries ++ row.entry ∷ (entries_in rows ++ prefix.0) = prefix.1
    ∙ append_assoc entries (row.entry ∷ entries_in rows) prefix.0 in (
      ap (slice_get all) back ∙ ap (λ (es : List Entry). slice_get es (length entries)) parts
          ∙ seam entries (entries_in rows ++ prefix.0) row.entry,
      rows_stand (entries ++ row.entry ∷ []) rows all
          (subst (λ n. AreNumbered n rows) (sym (length-append entries (row.entry ∷ [])))
          numbered.1)
          (subst (λ (es : List Entry). IsPrefixOf es all)
          (sym (append_assoc entries (row.entry ∷ []) (entries_in rows))) prefix),
    )

each_stands : (book : BookState) (events : List Event) (rows : List Entry)
    → AreDone book events → IsPrefixOf (after_events book events).entries rows
    → AllByRecursion (EventStands rows) events
each_stands book [] rows done prefix = tt
each_stands book (Asked exchange ∷ events) rows done prefix =
    let after = after_event book (Asked exchange) in (
      (acknowledges book done.0.0 exchange done.0.1).stands rows
          (begins_on after.entries _ rows (entries_stay after events) prefix),
      each_stands after events rows done.1 prefix,
    )
each_stands book (Worked job ∷ events) rows done prefix =
    let after = after_event book (Worked job) in (
      rows_stand book.entries job.work.rows rows done.0
          (begins_on after.entries _ rows (entries_stay after events) prefix),
      each_stands after events rows done.1 prefix,
    )

-- the number of one row, before those of the others
number_before : (entries rows : List Entry) (entry : Entry) (number : ℕ) (others : List ℕ)
    → number ≡ length entries + 1 → length (entries ++ entry ∷ []) ≤ length rows
    → others ≡ range_with_len (length (entries ++ entry ∷ []) + 1)
    (length rows - length (entries ++ entry ∷ []))
    → number ∷ others ≡ range_with_len (length entries + 1) (length rows - length entries)
number_before entries rows entry number others first long is =
    let longer : length (entries ++ entry ∷ []) ≡ length entries + 1 =
    length-append entries (entry ∷ []) in
    let one : length rows - length entries ≡ suc (length rows - length (entries ++ entry ∷ [])) =
    omega arith in
    ap (λ n. n ∷ others) first
    ∙ ap (λ ns. (length entries + 1) ∷ ns)
    (is ∙ ap (λ n. range_with_len (n + 1) (length rows - length (entries ++ entry ∷ [])))
    longer)
    ∙ ap (λ n. range_with_len (length entries + 1) n) (sym one)

-- the row of one answer, before those of the others
row_before : (entries rows : List Entry) (ask : Ask) (want : Want) (new : Option Entry)
    (answer : Result Answered Refused) (others : List ℕ) → Acknowledges entries ask want new answer
    → length (entries ++ cons_option new []) ≤ length rows
    → others ≡ range_with_len (length (entries ++ cons_option new []) + 1)
    (length rows - length (entries ++ cons_option new []))
    → cons_option (option_map (λ (e : Entry). number_named answer) new) [] ++ others
    ≡ range_with_len (length entries + 1) (length rows - length entries)
row_before entries rows ask want None answer others acknowledges long is =
    is ∙ ap (λ (xs : List Entry). range_with_len (length xs + 1) (length rows - length xs))
    (append-nil entries)
row_before entries rows ask want (Some entry) answer others acknowledges long is =
    number_before entries rows entry (number_named answer) others (acknowledges.row entry refl)
    long is

-- the rows of a lane, before those of the others
lane_before : (entries all : List Entry) (rows : List Row) (others : List ℕ)
    → AreNumbered (length entries) rows → length (entries ++ entries_in rows) ≤ length all
    → others ≡ range_with_len (length (entries ++ entries_in rows) + 1)
    (length all - length (entries ++ entries_in rows))
    → map (λ (row : Row). row.number) rows ++ others
    ≡ range_with_len (length entries + 1) (length all - length entries)
lane_before entries all [] others numbered long is =
    is ∙ ap (λ (xs : List Entry). range_with_len (length xs + 1) (length all - length xs))
    (append-nil entries)
lane_before entries all (row ∷ rows) others numbered long is =
    let next = entries ++ row.entry ∷ [] in
    let parts : next ++ entries_in rows ≡ entries ++ entries_in (row ∷ rows) =
    append_assoc entries (row.entry ∷ []) (entries_in rows) in
    let least : length next ≤ length all =
    omega (arith, long, ap length parts, length-append next (entries_in rows)) in
    number_before entries all row.entry row.number _ numbered.0 least
    (lane_before next all rows others
    (subst (λ n. AreNumbered n rows) (sym (length-append entries (row.entry ∷ []))) numbered.1)
    (subst (λ (es : List Entry). length es ≤ length all) (sym parts) long)
    (subst (λ (es : List Entry). others ≡ range_with_len (length es + 1)
    (length all - length es)) (sym parts) is))

rows_once : (book : BookState) (events : List Event) (rows : List Entry)
    → AreDone book events → rows ≡ (after_events book events).entries
    → flat_map acknowledged_rows events
    ≡ range_with_len (length book.entries + 1) (length rows - length book.entries)
rows_once book [] rows done is =
    let none : length rows - length book.entries ≡ 0 = omega (arith, ap length is) in
    ap (λ n. range_with_len (length book.entries + 1) n) (sym none)
rows_once book (Asked exchange ∷ events) rows done is =
    let after = after_event book (Asked exchange) in
    let long = subst (λ (xs : List Entry). length after.entries ≤ length xs) (sym is)
    (begins_short after.entries _ (entries_stay after events)) in
    row_before book.entries rows exchange.ask exchange.ask.want exchange.added exchange.answer _
    (acknowledges book done.0.0 exchange done.0.1) long (rows_once after events rows done.1 is)
rows_once book (Worked job ∷ events) rows done is =
    let after = after_event book (Worked job) in
    let long = subst (λ (xs : List Entry). length after.entries ≤ length xs) (sym is)
    (begins_short after.entries _ (entries_stay after events)) in
    lane_before book.entries rows job.work.rows _ done.0 long
    (rows_once after events rows done.1 is)

-- the rows that events leave
pub are_left : (book : BookState) (events : List Event) (rows : List Entry)
    → AreDone book events → rows ≡ (after_events book events).entries → AreLeft book events rows
are_left book events rows done is =
    record {
      left = is;
      once = record {
        each = each_stands book events rows done ([], is ∙ sym (append-nil _));
        once = rows_once book events rows done is;
      };
    }
