-- Lemmas on the end of an import whose commands are all answered.
use Rattle.std.proofs.Common.{◌≡◌, inr, ℕ, List, [], ◌++◌, length, sym, ap, ◌∙◌, subst, append-nil}
use Rattle.book_words.specs.declared.act.Entry.{Entry}
use Rattle.book_words.specs.Views.{summary}
use Rattle.batch_reports.specs.Texts.{summary_text}
use Rattle.script_lines.specs.declared.command.Command.{Command}
use Rattle.text_streams.specs.Streams.{Stream, WroteAll}
use Rattle.store_runs.specs.declared.stop.Stop.{Stop}
use Rattle.store_runs.specs.declared.stop.Stop.TheVariants.{Finished, BadLine, ReadFault, WriteFault, DiskFault, NoMemory, Spent}
use Rattle.store_runs.specs.Books.{BookState}
use Rattle.import_table.specs.Imports.{Import, at_end}
use Rattle.script_events.specs.Acknowledged.{AreLeft}
use Rattle.script_events.specs.Commands.{lines_asking, AreAnswered}
use Rattle.script_session.specs.Ends.{HaveToldWorks, StopsAtSummary, EndsAtSummary}
use Rattle.script_events.specs.Transcript.{AreEventsOf, texts}
use Rattle.script_events.proofs.AcknowledgedRows.{lines_done, are_left}
use Rattle.script_session.proofs.AnsweredLines.{wrote_on, cut_on, wrote_still}
use Rattle.import_run.specs.Answered.{alone, HasAnsweredTo}
use Rattle.import_run.specs.Ends.{StopsAtEnd, EndsImport}
use Rattle.import_run.proofs.CommandsAnswered.{no_ends, works_alone}

module _ (book after : BookState) (before old now : Stream) (rows : List Entry)
    (import : Import) (has : HasAnsweredTo book before old after import at_end)
    (same : rows ≡ after.entries) where
  all_first : has.first ≡ import.commands
  all_first = sym (has.commands ∙ append-nil has.first)

  right : AreEventsOf book (lines_asking import.commands) has.answered.events
  right = subst (λ (commands : List Command). AreEventsOf book (lines_asking commands)
      has.answered.events) all_first has.answered.right

  rows_left : AreLeft book has.answered.events rows
  rows_left = are_left book has.answered.events rows
      (lines_done book (lines_asking has.first) has.answered.events has.answered.right)
      (same ∙ ap (λ (b : BookState). b.entries) has.answered.left)

  abbrev answered : AreAnswered book (lines_asking import.commands) rows
  answered = record { events = has.answered.events; right = right; rows_left = rows_left }

  worked : HaveToldWorks (alone before) (alone now) has.answered.events
  worked = works_alone before now has.answered.events
      (no_ends book import.commands has.answered.events right)

  early : (stop : Stop)
      → StopsAtSummary (length book.entries) before now rows has.answered.events stop
      → StopsAtEnd book before now rows import stop
  early stop stops = record {
    good = has.error;
    ends = record { answered = answered; stops = stops; worked = worked };
  }

  -- how it ends at the summary of these rows
  ends_so : (stop : Stop) → EndsAtSummary (length book.entries) old now rows stop
      → EndsImport book before now rows import stop
  ends_so Finished wrote = record {
    good = has.error;
    done = record {
      answered = answered;
      wrote = subst (λ (es : List Entry). WroteAll before now
          (texts has.answered.events ++ summary_text (summary es))) rows_left.left
          (wrote_on before old now (texts has.answered.events) (summary_text (summary rows))
          has.answered.wrote wrote);
      worked = worked;
    };
  }
  ends_so WriteFault stops =
      inr (early WriteFault (cut_on before old now (texts has.answered.events)
      (summary_text (summary rows)) has.answered.wrote stops))
  ends_so (DiskFault offer) stops =
      inr (early (DiskFault offer)
      (wrote_still before old now (texts has.answered.events) has.answered.wrote stops.0, stops.1))
  ends_so NoMemory stops = record {
    first = import.commands;
    others = [];
    parts = sym (append-nil import.commands);
    answered = record {
      answered = answered;
      wrote = wrote_still before old now (texts has.answered.events) has.answered.wrote stops.0;
      worked = worked;
    };
  }
  ends_so (BadLine named) stops = absurd stops.1
  ends_so ReadFault stops = absurd stops.1
  ends_so Spent stops = absurd stops.1

  pub ends_all : (opened : ℕ) → opened ≡ length book.entries → (stop : Stop)
      → EndsAtSummary opened old now after.entries stop
      → EndsImport book before now rows import stop
  ends_all opened begun stop ends =
      ends_so stop (subst (λ (n : ℕ). EndsAtSummary n old now rows stop) begun
      (subst (λ (es : List Entry). EndsAtSummary opened old now es stop) (sym same) ends))
