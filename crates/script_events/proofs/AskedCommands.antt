-- What asking a command makes of its caller.
use Rattle.std.proofs.Common.{◌≡◌, ◌+◌, min, [], ◌∷◌, ◌++◌, Option, Result, Err, sym, ap, ◌∙◌, subst, arith, append-nil}
use Rattle.std.specs.List.{cons_option}
use Rattle.disk_core.specs.declared.disk.Disk as disk
use Rattle.book_words.specs.declared.act.Ask.{Ask}
use Rattle.book_words.specs.declared.act.Entry.{Entry}
use Rattle.book_words.specs.declared.caller.AskError.{AskError}
use Rattle.book_words.specs.declared.caller.AskError.TheVariants as error
use Rattle.book_words.specs.declared.reply.Answered.{Answered}
use Rattle.book_words.specs.declared.reply.Refused.{Refused}
use Rattle.book_words.specs.Answers.{answer as told_to, added}
use Rattle.book_words.specs.Callers.{FAULTS_END, faults_told, IsAsked}
use Rattle.store_runs.specs.Callers.{CallerView, known_of, IsReachedBy}
use Rattle.store_runs.specs.Kept.{KeepsOn}
use Rattle.store_runs.specs.Offers.{GivesAnswer, list_behind, offered_behind, CountsDiskFault}
use Rattle.store_runs.specs.Stores.{disk_of, book_of, entries_of, limit_of}
use Rattle.store_runs.proofs.CallerSteps.{refused_adds}
use Rattle.script_lines.specs.declared.command.Command.{Command}
use Rattle.store_runs.specs.Books.{BookState, stored_book}
use Rattle.store_runs.specs.Stops.{step_asked}
use Rattle.store_runs.specs.Runs.{Goes}
use Rattle.store_runs.proofs.StoreSteps.{goes_asked}
use Rattle.script_events.specs.Asking.{script_caller, ask_at}
use Rattle.script_events.specs.Transcript.{after_command}

-- a caller that speaks as the script
abbrev pub as_script : {D : Type 0} → CallerView D → CallerView D
as_script caller = record caller { by = script_caller }

-- what an ask of a caller would add, and the book behind it
abbrev added_at : {D : Type 0} → CallerView D → Ask → Option Entry
added_at caller ask = added (limit_of caller.store) (entries_of caller.store) caller.by ask

abbrev book_with : {D : Type 0} → CallerView D → Ask → BookState
book_with caller ask =
    record {
      limit = limit_of caller.store;
      entries =
          entries_of caller.store ++ cons_option (added_at caller ask) [];
    }

-- a caller turned to the script, and then asked
module _ {D : Type 0} (g : disk.Ghosts D) (old mid new : CallerView D) (ask : Ask)
    (result : Result Answered AskError) (turned : mid ≡ as_script old)
    (entries : entries_of new.store ≡ list_behind result (entries_of mid.store) (added_at mid ask))
    (reached : IsReachedBy g mid new (ask ∷ [])) where
  pub goes_with_command : {T : Type 0} (done : T) → old.faults ≡ 0
      → IsAsked (known_of mid) (known_of new) ask result
      → CountsDiskFault (g.faults (disk_of mid.store)) (g.faults (disk_of new.store)) result
      → KeepsOn g (offered_behind result (added_at mid ask)) mid.store new.store
      → Goes g (step_asked done script_caller ask result) old.store new.store
  goes_with_command done calm asked counts kept =
      let calm_then : mid.faults ≡ 0 = ap (λ (c : CallerView D). c.faults) turned ∙ calm in
      let stays = λ (none : faults_told result ≡ 0). asked.faults
      ∙ (let nothing : min (mid.faults + faults_told result) FAULTS_END ≡ 0 =
      omega (arith, calm_then, none) in nothing) in
      subst (λ (c : CallerView D). Goes g (step_asked done c.by ask result) c.store new.store) turned
      (goes_asked g done mid new ask result entries reached calm_then stays counts kept)

  -- a refused command adds nothing
  pub after_refusal : (command : Command) (refused : Refused)
      → ask ≡ ask_at (entries_of mid.store) command
      → GivesAnswer (book_of mid.store) mid.by ask (added_at mid ask) result
      (told_to (limit_of mid.store) (entries_of mid.store) ask)
      → result ≡ Err (error.Refused refused)
      → stored_book new.store ≡ after_command (stored_book old.store) command
  after_refusal command refused is gives told =
      let none = refused_adds (book_of mid.store) mid.by ask result refused gives told in
      let same = subst (λ (r : Result Answered AskError). entries_of new.store
      ≡ list_behind r (entries_of mid.store) (added_at mid ask)) told entries in
      let more : entries_of new.store ≡ entries_of mid.store ++ cons_option (added_at mid ask) [] =
      same ∙ sym (append-nil (entries_of mid.store))
      ∙ ap (λ (o : Option Entry). entries_of mid.store ++ cons_option o []) (sym none) in
      let there : stored_book new.store ≡ book_with mid ask =
      λ i. record { limit = reached.limit i; entries = more i } in
      subst (λ (c : CallerView D). stored_book new.store
      ≡ book_with c (ask_at (entries_of c.store) command)) turned
      (subst (λ (a : Ask). stored_book new.store ≡ book_with mid a) is there)
