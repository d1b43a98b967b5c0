-- The acts of a legal list, asked again in order, are told what they were told and leave the list.
use Rattle.std.proofs.Common.{◌≡◌, ℕ, ◌≤◌, List, [], ◌∷◌, ◌++◌, length, map, take, drop, refl, sym, ap, ◌∙◌, subst, arith, append_assoc, append-nil, length-append}
use Rattle.std.proofs.lemmas.List.{take-append-drop, map-append}
use Rattle.std.specs.List.{cons_option}
use Rattle.book_words.specs.declared.act.Entry.{Entry}
use Rattle.book_words.specs.Answers.{IsLawful, IsLegal}
use Rattle.caller_laws.specs.Alike.{unnamed, all_unnamed, AreSameButBy}
use Rattle.batch_reports.specs.Texts.{outcome_text}
use Rattle.script_lines.specs.declared.command.Command.{Command}
use Rattle.script_lines.specs.declared.command.Line.{Line}
use Rattle.script_lines.specs.declared.command.Line.TheVariants.{Asks}
use Rattle.store_runs.specs.Books.{BookState}
use Rattle.script_events.specs.Asking.{exchange_at}
use Rattle.script_events.specs.Commands.{lines_asking}
use Rattle.script_events.specs.Scripts.{every_command}
use Rattle.script_events.specs.Transcript.{Event, Asked, Worked, after_event, after_events, AreEventsOf, texts, command_event, after_command}
use Rattle.act_lines.specs.ActLines.{told_words}
use Rattle.act_lines.specs.ActViews.{view_behind, views_behind}
use Rattle.act_reads.specs.Commands.{command_of}
use Rattle.act_reads.proofs.Answered.{answers_told}
use Rattle.act_replay.specs.Replay.{AreReplayed}
use Rattle.act_columns.specs.Columns.{told_lines}
use Rattle.act_columns.proofs.Columns.{answers_first, script_third}
use Rattle.act_replay.proofs.Steps.{Accepts, accepts}

-- ---- the events of commands

abbrev events_asked : BookState → List Command → List Event
events_asked book [] = []
events_asked book (command ∷ commands) =
    command_event book command ∷ events_asked (after_command book command) commands

asked_right : (book : BookState) (commands : List Command)
    → AreEventsOf book (lines_asking commands) (events_asked book commands)
asked_right book [] = refl
asked_right book (command ∷ commands) =
    (refl, asked_right (after_command book command) commands)

-- there are no other events of them
asked_only : (book : BookState) (commands : List Command) (events : List Event)
    → AreEventsOf book (lines_asking commands) events → events ≡ events_asked book commands
asked_only book [] events are = are
asked_only book (command ∷ commands) [] are = absurd are
asked_only book (command ∷ commands) (Worked job ∷ events) are = absurd are.0
asked_only book (command ∷ commands) (Asked exchange ∷ events) are =
    let rest = asked_only (after_event book (Asked exchange)) commands events are.1
    ∙ ap (λ asked. events_asked (after_event book (Asked asked)) commands) are.0 in
    λ i. Asked (are.0 i) ∷ rest i

-- ---- one act behind another

-- a book that holds some entries, whoever brought them, where more go on to be legal and have room
record CanGoOn (book : BookState) (before rows : List Entry) : Type 0 where
  same : AreSameButBy book.entries before
  legal : IsLegal (before ++ rows)
  room : length (before ++ rows) ≤ book.limit

-- the book with an entry of a script's
abbrev with_entry : BookState → Entry → BookState
with_entry book entry =
    record { limit = book.limit; entries = book.entries ++ unnamed entry ∷ [] }

module _ (book : BookState) (before : List Entry) (entry : Entry) (rows : List Entry)
    (can : CanGoOn book before (entry ∷ rows)) where
  lawful : IsLawful before entry
  lawful = can.legal before entry rows refl

  is_next : Accepts book before entry
  is_next =
      let room = can.room in
      accepts book before entry can.same lawful
      (omega (arith, room, length-append before (entry ∷ rows)))

  leaves : after_command book (command_of entry) ≡ with_entry book entry
  leaves = λ i. record {
    limit = book.limit;
    entries = book.entries ++ cons_option (is_next.adds i) [];
  }

  told : outcome_text (exchange_at book (command_of entry)).answer
      ≡ told_words (view_behind before entry) ++ 10 ∷ []
  told = ap outcome_text is_next.answered ∙ sym (answers_told before entry lawful.signal)

  goes_on : CanGoOn (with_entry book entry) (before ++ entry ∷ []) rows
  goes_on =
      let whole = sym (append_assoc before (entry ∷ []) rows) in
      record {
        same = map-append unnamed book.entries (unnamed entry ∷ [])
            ∙ ap (λ es. es ++ unnamed entry ∷ []) can.same
            ∙ sym (map-append unnamed before (entry ∷ []));
        legal = subst IsLegal whole can.legal;
        room = subst (λ (es : List Entry). length es ≤ book.limit) whole can.room;
      }

-- ---- all of them

-- the events of the commands that ask the acts of some entries
abbrev events_of_rows : BookState → List Entry → List Event
events_of_rows book rows = events_asked book (map command_of rows)

told_all : (book : BookState) (before rows : List Entry) → CanGoOn book before rows
    → texts (events_of_rows book rows)
    ≡ told_lines (views_behind before rows)
told_all book before [] can = refl
told_all book before (entry ∷ rows) can =
    (λ i. told book before entry rows can i
    ++ texts (events_of_rows (leaves book before entry rows can i) rows))
    ∙ ap (λ (rest : List ℕ). (told_words (view_behind before entry) ++ 10 ∷ []) ++ rest)
    (told_all (with_entry book entry) (before ++ entry ∷ []) rows
    (goes_on book before entry rows can))

left_all : (book : BookState) (before rows : List Entry) → CanGoOn book before rows
    → (after_events book (events_of_rows book rows)).entries ≡ book.entries ++ all_unnamed rows
left_all book before [] can = sym (append-nil book.entries)
left_all book before (entry ∷ rows) can =
    (λ i. (after_events (leaves book before entry rows can i)
    (events_of_rows (leaves book before entry rows can i) rows)).entries)
    ∙ left_all (with_entry book entry) (before ++ entry ∷ []) rows
    (goes_on book before entry rows can)
    ∙ append_assoc book.entries (unnamed entry ∷ []) (all_unnamed rows)

-- ---- the law

lines_of_rows : (rows : List Entry)
    → map (λ entry. Asks (command_of entry)) rows ≡ lines_asking (map command_of rows)
lines_of_rows [] = refl
lines_of_rows (entry ∷ rows) =
    ap (λ (lines : List Line). Asks (command_of entry) ∷ lines) (lines_of_rows rows)

pub acts_replayed : AreReplayed
acts_replayed after rows legal fields book same room =
    let whole : take after rows ++ drop after rows ≡ rows = take-append-drop after rows in
    let can : CanGoOn book (take after rows) (drop after rows) =
    record {
      same = same;
      legal = subst IsLegal (sym whole) legal;
      room = subst (λ (es : List Entry). length es ≤ book.limit) (sym whole) room;
    } in
    record {
      events = events_of_rows book (drop after rows);
      says = λ lanes. script_third after rows legal fields (every_command lanes)
          ∙ lines_of_rows (drop after rows);
      right = asked_right book (map command_of (drop after rows));
      only = asked_only book (map command_of (drop after rows));
      answers = told_all book (take after rows) (drop after rows) can
          ∙ sym (answers_first after rows legal fields);
      left = left_all book (take after rows) (drop after rows) can;
    }
