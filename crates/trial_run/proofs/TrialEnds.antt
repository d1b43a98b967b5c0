-- How a trial ends.
use Rattle.std.proofs.Common.{◌≡◌, ℕ, Ok, Err, List, ◌++◌, length, inl, inr, sym, ap, ◌∙◌, subst}
use Rattle.std.specs.Bool.{⊤}
use Rattle.disk_core.specs.declared.disk.Disk as disk
use Rattle.book_words.specs.declared.act.Entry.{Entry}
use Rattle.book_words.specs.Views.{summary}
use Rattle.batch_reports.specs.Texts.{summary_text}
use Rattle.script_lines.specs.declared.command.Command.{Command}
use Rattle.text_streams.specs.Streams.{Stream}
use Rattle.text_streams.proofs.PrintedTexts.{wrote_nothing}
use Rattle.store_runs.specs.declared.stop.Stop.{Stop}
use Rattle.store_runs.specs.declared.stop.Stop.TheVariants.{Finished, BadLine, ReadFault, WriteFault, DiskFault, NoMemory, Spent}
use Rattle.book_store.specs.declared.store.Store.{Store}
use Rattle.book_store.specs.Callers.{CallerView}
use Rattle.book_store.specs.Stores.{entries_of, held_of}
use Rattle.store_runs.specs.Books.{BookState, stored_book}
use Rattle.store_runs.specs.Runs.{Goes, RunGoes}
use Rattle.store_runs.proofs.StoreSteps.{goes_on}
use Rattle.script_events.specs.Commands.{lines_asking, AreAnswered}
use Rattle.script_session.specs.Ends.{EndsAtSummary}
use Rattle.script_events.specs.Transcript.{texts}
use Rattle.script_events.proofs.CommandsInTurn.{are_answered}
use Rattle.trial_run.specs.Steps.{StopsIn, Asks}
use Rattle.trial_run.specs.Trials.{StopsEarly, EndsScript, ExplainsScript, ExplainsTrial}
use Rattle.trial_run.specs.TrialScripts.{trial_commands}

-- ---- the ends

-- a run whose summary is due ends as a script does
pub ends_as_script : (opened : ℕ) (before now : Stream) (rows : List Entry) (stop : Stop)
    → EndsAtSummary opened before now rows stop → EndsScript opened before now rows stop
ends_as_script opened before now rows Finished ends = ends
ends_as_script opened before now rows WriteFault ends = ends
ends_as_script opened before now rows NoMemory ends = (ends.0, tt)
ends_as_script opened before now rows (DiskFault offer) ends = ends
ends_as_script opened before now rows (BadLine number) ends = ends
ends_as_script opened before now rows ReadFault ends = ends
ends_as_script opened before now rows Spent ends = ends

-- a run whose script was answered
pub explained_end : (book : BookState) (before now : Stream) (rows : List Entry)
    (script : List Command) (stop : Stop) → AreAnswered book (lines_asking script) rows
    → EndsScript (length book.entries) before now rows stop
    → ExplainsScript book before now rows stop script
explained_end book before now rows script Finished answered ends =
    record {
      answered = answered;
      ending = ap (λ (es : List Entry). texts answered.events ++ summary_text (summary es))
          (sym answered.rows_left.left);
      wrote = ends;
    }
explained_end book before now rows script WriteFault answered ends =
    record { answered = answered; cut = ends }
explained_end book before now rows script NoMemory answered ends =
    record { silent = ends.0; stops = inr (answered, ends.1) }
explained_end book before now rows script (DiskFault offer) answered ends =
    record { silent = ends.0; stops = inr (answered, ends.1) }
explained_end book before now rows script (BadLine number) answered ends = absurd ends.1
explained_end book before now rows script ReadFault answered ends = absurd ends.1
explained_end book before now rows script Spent answered ends = absurd ends.1

stopped_early : (book : BookState) (rows : List Entry) (script : List Command) (stop : Stop)
    → StopsIn book rows script stop → StopsEarly book rows script stop
stopped_early book rows script stop stops =
    record { stops = stops; answered = are_answered book stops.answered rows stops.left }

-- a run that stopped in its script
pub explained_stop : (book : BookState) (output : Stream) (rows : List Entry)
    (script : List Command) (stop : Stop) → StopsIn book rows script stop
    → ExplainsScript book output output rows stop script
explained_stop book output rows script Finished stops = absurd stops.may
explained_stop book output rows script WriteFault stops = absurd stops.may
explained_stop book output rows script NoMemory stops =
    record {
      silent = wrote_nothing output;
      stops = inl (stopped_early book rows script NoMemory stops);
    }
explained_stop book output rows script (DiskFault offer) stops =
    record {
      silent = wrote_nothing output;
      stops = inl (stopped_early book rows script (DiskFault offer) stops);
    }
explained_stop book output rows script (BadLine number) stops = absurd stops.may
explained_stop book output rows script ReadFault stops = absurd stops.may
explained_stop book output rows script Spent stops = absurd stops.may

-- ---- a whole trial

module _ {D : Type 0} (g : disk.Ghosts D) (old new : CallerView D) (store back : Store D) where
  pub trial_ended : (closed : Store D) (number count : ℕ) (before now : Stream) (stop : Stop)
      → old.store ≡ store → held_of store ≡ length (entries_of store)
      → Asks {T = ⊤} g (Ok tt) old new (trial_commands number count (stored_book old.store))
      → back ≡ new.store → EndsScript (held_of back) before now (entries_of back) stop
      → entries_of closed ≡ entries_of back
      → ExplainsTrial number count (stored_book store) before now (entries_of closed) stop
  trial_ended closed number count before now stop is opened asks back_is ends same =
      let rows : entries_of closed ≡ entries_of new.store =
      same ∙ ap (λ (s : Store D). entries_of s) back_is in
      let held : held_of back ≡ length (entries_of old.store) =
      ap (λ (s : Store D). held_of s) back_is ∙ asks.goes.held
      ∙ subst (λ (s : Store D). held_of s ≡ length (entries_of s)) (sym is) opened in
      let book = stored_book old.store in
      let script = trial_commands number count book in
      subst (λ (s : Store D). ExplainsTrial number count (stored_book s) before now
      (entries_of closed) stop) is
      (explained_end book before now (entries_of closed) script stop
      (are_answered book script (entries_of closed)
      (rows ∙ ap (λ (b : BookState). b.entries) asks.answered))
      (subst (λ (n : ℕ). EndsScript n before now (entries_of closed) stop) held
      (subst (λ (es : List Entry). EndsScript (held_of back) before now es stop) (sym same) ends)))

  pub trial_goes : (closed : Store D) (stop : Stop) → old.store ≡ store
      → Goes {T = ⊤} g (Ok tt) old.store new.store → back ≡ new.store → RunGoes g stop back closed
      → RunGoes g stop store closed
  trial_goes closed stop is goes back_is ends =
      subst (λ (s : Store D). RunGoes g stop s closed) is
      (goes_on g tt (Err stop) old.store new.store closed goes
      (subst (λ (s : Store D). RunGoes g stop s closed) back_is ends))

  pub trial_stopped : (number count : ℕ) (output : Stream) (stop : Stop) → old.store ≡ store
      → Asks {T = ⊤} g (Err stop) old new (trial_commands number count (stored_book old.store))
      → back ≡ new.store
      → ExplainsTrial number count (stored_book store) output output (entries_of back) stop
  trial_stopped number count output stop is asks back_is =
      let book = stored_book old.store in
      let script = trial_commands number count book in
      subst (λ (s : Store D). ExplainsTrial number count (stored_book s) output output
      (entries_of back) stop) is
      (explained_stop book output (entries_of back) script stop
      (subst (λ (s : Store D). StopsIn book (entries_of s) script stop) (sym back_is) asks.stops))
