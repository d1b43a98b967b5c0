-- What the steps of a trial make of its book: which commands they ask, and where one stops.
use Rattle.std.specs.Prelude.{◌≡◌, ◌⊎◌, ℕ, List, [], ◌∷◌, ◌++◌, Result, OnOk, IfErr}
use Rattle.disk_core.specs.declared.disk.Disk as disk
use Rattle.book_words.specs.declared.act.Entry.{Entry}
use Rattle.book_words.specs.declared.name.Name.{Name}
use Rattle.script_lines.specs.declared.command.Command.{Command}
use Rattle.book_store.specs.Callers.{CallerView}
use Rattle.book_store.specs.Stores.{entries_of}
use Rattle.store_runs.specs.declared.stop.Stop.{Stop}
use Rattle.store_runs.specs.Books.{BookState, stored_book}
use Rattle.store_runs.specs.Runs.{Goes}
use Rattle.script_events.specs.Asking.{exchange_at}
use Rattle.script_events.specs.Commands.{after_commands}
use Rattle.script_events.specs.Unanswered.{MayStopAt}
use Rattle.trial_run.specs.TrialScripts.{draw_command, sample_question}

-- the question which packs of a batch were drawn, right behind its draw
pub record AsksForSample (answered : List Command) (asked : Command) : Type 0 where
  pub batch : Name
  pub word : ℕ
  pub before : List Command
  pub drawn : answered ≡ before ++ draw_command batch word ∷ []
  pub is : asked ≡ sample_question batch

-- what is asked next: the next command, or, where a sample was drawn last, for its packs
abbrev pub IsNext : List Command → Command → List Command → Type 0
IsNext answered asked rest =
    ((more : List Command) × (rest ≡ asked ∷ more)) ⊎ AsksForSample answered asked

-- A script stopped so at a book: its first commands were answered, and these rows are left; what
-- was asked next has no answer, since the disk failed or there is no memory for it.
pub record StopsIn (book : BookState) (rows : List Entry) (script : List Command) (stop : Stop)
    : Type 0 where
  pub answered : List Command
  pub rest : List Command
  pub parts : script ≡ answered ++ rest
  pub left : rows ≡ (after_commands book answered).entries
  pub asked : Command
  pub next : IsNext answered asked rest
  pub may : MayStopAt (exchange_at (after_commands book answered) asked) stop

-- a step asked these commands, or stopped in them
pub record Asks {D T : Type 0} (disk : disk.Ghosts D) (result : Result T Stop)
    (old new : CallerView D) (commands : List Command) : Type 0 where
  pub answered : OnOk result
      (stored_book new.store ≡ after_commands (stored_book old.store) commands)
  pub stops : IfErr result (StopsIn (stored_book old.store) (entries_of new.store) commands)
  pub goes : Goes disk result old.store new.store
  pub calm : OnOk result (new.faults ≡ 0)
