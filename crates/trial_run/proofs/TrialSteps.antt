-- What the steps of a trial ask, one after another.
use Rattle.std.proofs.Common.{◌≡◌, ℕ, List, [], ◌∷◌, ◌++◌, Result, Ok, Err, inl, inr, ⊎_elim, refl, sym, ap, ◌∙◌, subst, append_assoc, append-nil}
use Rattle.disk_core.specs.declared.disk.Disk as disk
use Rattle.book_words.specs.declared.act.Entry.{Entry}
use Rattle.book_words.specs.declared.name.Name.{Name}
use Rattle.script_lines.specs.declared.command.Command.{Command}
use Rattle.book_store.specs.Callers.{CallerView}
use Rattle.book_store.specs.Stores.{entries_of}
use Rattle.store_runs.specs.declared.stop.Stop.{Stop}
use Rattle.store_runs.specs.declared.stop.Stop.TheVariants.{NoMemory}
use Rattle.store_runs.specs.Books.{BookState, stored_book}
use Rattle.store_runs.specs.Runs.{Goes}
use Rattle.store_runs.proofs.StoreSteps.{on_unfinished, goes_on, goes_with, goes_as, stays}
use Rattle.script_events.specs.Asking.{exchange_at}
use Rattle.script_events.specs.Commands.{after_commands}
use Rattle.script_events.specs.Transcript.{after_command}
use Rattle.script_events.specs.Unanswered.{MayStopAt}
use Rattle.script_events.proofs.CommandsInTurn.{after-append}
use Rattle.trial_run.specs.Steps.{IsNext, StopsIn, Asks}
use Rattle.trial_run.specs.TrialScripts.{draw_command, in_turn, sample_question}

-- ---- scripts in turn

-- scripts in turn, and then more
pub turns-append : {A : Type 0} (script : BookState → A → List Command) (book : BookState)
    (first more : List A) → in_turn script book (first ++ more) ≡ in_turn script book first
    ++ in_turn script (after_commands book (in_turn script book first)) more
turns-append script book [] more = refl
turns-append script book (x ∷ first) more =
    let these = script book x in
    let behind = after_commands book these in
    let rest = in_turn script behind first in
    ap (λ (cs : List Command). these ++ cs) (turns-append script behind first more)
    ∙ sym (append_assoc these rest (in_turn script (after_commands behind rest) more))
    ∙ ap (λ (b : BookState). (these ++ rest) ++ in_turn script b more)
    (sym (after-append book these rest))

-- one more in turn
pub turns-push : {A : Type 0} (script : BookState → A → List Command) (book : BookState)
    (first : List A) (x : A) → in_turn script book (first ++ x ∷ []) ≡ in_turn script book first
    ++ script (after_commands book (in_turn script book first)) x
turns-push script book first x = turns-append script book first (x ∷ [])
    ∙ ap (λ (cs : List Command). in_turn script book first ++ cs)
    (append-nil (script (after_commands book (in_turn script book first)) x))

-- ---- where a script stops

-- what is asked next is that with more answered before
next_behind : (first answered rest : List Command) (asked : Command)
    → IsNext answered asked rest → IsNext (first ++ answered) asked rest
next_behind first answered rest asked next = ⊎_elim
    (λ is. inl is)
    (λ asks. inr (record {
      batch = asks.batch;
      word = asks.word;
      before = first ++ asks.before;
      drawn = ap (λ (cs : List Command). first ++ cs) asks.drawn
          ∙ sym (append_assoc first asks.before (draw_command asks.batch asks.word ∷ []));
      is = asks.is;
    }))
    next

-- it stops behind commands that were answered
pub stops_behind : (book between : BookState) (rows : List Entry) (first more : List Command)
    (stop : Stop) → between ≡ after_commands book first → StopsIn between rows more stop
    → StopsIn book rows (first ++ more) stop
stops_behind book between rows first more stop is stops =
    let s = subst (λ (b : BookState). StopsIn b rows more stop) is stops in
    let on = after-append book first s.answered in
    record {
      answered = first ++ s.answered;
      rest = s.rest;
      parts = ap (λ (cs : List Command). first ++ cs) s.parts
          ∙ sym (append_assoc first s.answered s.rest);
      left = s.left ∙ ap (λ (b : BookState). b.entries) (sym on);
      asked = s.asked;
      next = next_behind first s.answered s.rest s.asked s.next;
      may = subst (λ (b : BookState). MayStopAt (exchange_at b s.asked) stop) (sym on) s.may;
    }

-- it stops with more commands to come
pub stops_before : (book : BookState) (rows : List Entry) (first more : List Command) (stop : Stop)
    → StopsIn book rows first stop → StopsIn book rows (first ++ more) stop
stops_before book rows first more stop s =
    record {
      answered = s.answered;
      rest = s.rest ++ more;
      parts = ap (λ (cs : List Command). cs ++ more) s.parts
          ∙ append_assoc s.answered s.rest more;
      left = s.left;
      asked = s.asked;
      next = ⊎_elim
          (λ is. inl (is.0 ++ more, ap (λ (cs : List Command). cs ++ more) is.1))
          (λ is. inr is)
          s.next;
      may = s.may;
    }

-- ---- steps, one after another

module _ {D : Type 0} (g : disk.Ghosts D) where
  -- nothing was asked
  pub asks_nothing : {T : Type 0} (done : T) (caller : CallerView D) → caller.faults ≡ 0
      → Asks g (Ok done) caller caller []
  asks_nothing done caller calm =
      record {
        answered = refl;
        stops = tt;
        goes = stays g (Ok done) caller.store refl (λ is. absurd (on_unfinished done is));
        calm = calm;
      }

  -- a command was asked
  pub asked_one : {T U : Type 0} (done : T) (other : U) (old new : CallerView D) (command : Command)
      → stored_book new.store ≡ after_command (stored_book old.store) command
      → Goes g (Ok done) old.store new.store → new.faults ≡ 0
      → Asks g (Ok other) old new (command ∷ [])
  asked_one done other old new command is goes calm =
      record {
        answered = is;
        stops = tt;
        goes = goes_with g done (Ok other) old.store new.store goes goes.cause
            (λ finished. absurd (on_unfinished other finished));
        calm = calm;
      }

  -- a command has no answer
  pub stopped_one : {T U : Type 0} (stop : Stop) (old new : CallerView D) (command : Command)
      → stored_book new.store ≡ stored_book old.store
      → MayStopAt (exchange_at (stored_book old.store) command) stop
      → Goes {T = T} g (Err stop) old.store new.store
      → Asks {T = U} g (Err stop) old new (command ∷ [])
  stopped_one stop old new command same may goes =
      record {
        answered = tt;
        stops = record {
          answered = [];
          rest = command ∷ [];
          parts = refl;
          left = ap (λ (b : BookState). b.entries) same;
          asked = command;
          next = inl ([], refl);
          may = may;
        };
        goes = goes_as g stop old.store new.store goes;
        calm = tt;
      }

  -- commands were asked, and then more
  pub asks_on : {T U : Type 0} (done : T) (result : Result U Stop) (old between new : CallerView D)
      (first more : List Command) → Asks g (Ok done) old between first
      → Asks g result between new more → Asks g result old new (first ++ more)
  asks_on done (Ok more_done) old between new first more before then =
      record {
        answered = then.answered
            ∙ ap (λ (b : BookState). after_commands b more) before.answered
            ∙ sym (after-append (stored_book old.store) first more);
        stops = tt;
        goes = goes_on g done (Ok more_done) old.store between.store new.store before.goes
            then.goes;
        calm = then.calm;
      }
  asks_on done (Err stop) old between new first more before then =
      record {
        answered = tt;
        stops = stops_behind (stored_book old.store) (stored_book between.store)
            (entries_of new.store) first more stop before.answered then.stops;
        goes = goes_on g done (Err stop) old.store between.store new.store before.goes then.goes;
        calm = tt;
      }

  -- a step that went on, with another answer
  pub asks_with : {T U : Type 0} (done : T) (other : U) (old new : CallerView D)
      (commands : List Command) → Asks g (Ok done) old new commands
      → Asks g (Ok other) old new commands
  asks_with done other old new commands asks =
      record {
        answered = asks.answered;
        stops = tt;
        goes = goes_with g done (Ok other) old.store new.store asks.goes asks.goes.cause
            (λ is. absurd (on_unfinished other is));
        calm = asks.calm;
      }

  -- a step that stopped, with more commands to come
  pub asks_stopped : {T U : Type 0} (stop : Stop) (old new : CallerView D)
      (commands more : List Command) → Asks {T = T} g (Err stop) old new commands
      → Asks {T = U} g (Err stop) old new (commands ++ more)
  asks_stopped stop old new commands more asks =
      record {
        answered = tt;
        stops = stops_before (stored_book old.store) (entries_of new.store) commands more stop
            asks.stops;
        goes = goes_as g stop old.store new.store asks.goes;
        calm = tt;
      }

  -- a step that stopped in all that it was to ask
  pub asks_ended : {T U : Type 0} (stop : Stop) (old new : CallerView D) (commands : List Command)
      → Asks {T = T} g (Err stop) old new commands → Asks {T = U} g (Err stop) old new commands
  asks_ended {T} {U} stop old new commands asks =
      subst (λ (cs : List Command). Asks {T = U} g (Err stop) old new cs) (append-nil commands)
      (asks_stopped {T = T} {U = U} stop old new commands [] asks)

  -- the same of commands by another name
  pub asks_same : {T : Type 0} (result : Result T Stop) (old new : CallerView D)
      (commands others : List Command) → commands ≡ others → Asks g result old new commands
      → Asks g result old new others
  asks_same result old new commands others same asks =
      subst (λ (cs : List Command). Asks g result old new cs) same asks

  -- a step behind others stopped, and more was to come
  pub stopped_behind : {T U V : Type 0} (done : T) (stop : Stop) (old between new : CallerView D)
      (first next more all : List Command) → all ≡ (first ++ next) ++ more
      → Asks g (Ok done) old between first → Asks {T = U} g (Err stop) between new next
      → Asks {T = V} g (Err stop) old new all
  stopped_behind done stop old between new first next more all is before stopped =
      asks_same (Err stop) old new _ all (sym is)
      (asks_stopped stop old new (first ++ next) more
      (asks_on done (Err stop) old between new first next before stopped))

  -- ---- commands in three parts

  module _ (old one two new : CallerView D) (a b c : List Command) where
    pub first_of_three : {T U : Type 0} (stop : Stop) → Asks {T = T} g (Err stop) old new a
        → Asks {T = U} g (Err stop) old new ((a ++ b) ++ c)
    first_of_three {T} {U} stop first =
        asks_stopped {T = U} {U = U} stop old new (a ++ b) c
        (asks_stopped {T = T} {U = U} stop old new a b first)

    pub second_of_three : {S T U : Type 0} (done : S) (stop : Stop)
        → Asks g (Ok done) old one a → Asks {T = T} g (Err stop) one new b
        → Asks {T = U} g (Err stop) old new ((a ++ b) ++ c)
    second_of_three done stop first second = asks_stopped stop old new (a ++ b) c
        (asks_on done (Err stop) old one new a b first second)

    pub third_of_three : {R S T U : Type 0} (done : R) (more : S) (stop : Stop)
        → Asks g (Ok done) old one a → Asks g (Ok more) one two b
        → Asks {T = T} g (Err stop) two new c → Asks {T = U} g (Err stop) old new ((a ++ b) ++ c)
    third_of_three done more stop first second third = asks_ended stop old new ((a ++ b) ++ c)
        (asks_on more (Err stop) old two new (a ++ b) c
        (asks_on done (Ok more) old one two a b first second) third)

    pub all_three : {R S T U : Type 0} (done : R) (more : S) (last : T) (other : U)
        → Asks g (Ok done) old one a → Asks g (Ok more) one two b → Asks g (Ok last) two new c
        → Asks g (Ok other) old new ((a ++ b) ++ c)
    all_three done more last other first second third =
        asks_with last other old new ((a ++ b) ++ c)
        (asks_on more (Ok last) old two new (a ++ b) c
        (asks_on done (Ok more) old one two a b first second) third)

  -- a sample was drawn last, and there is no memory for its packs
  pub stopped_drawn : {T : Type 0} (done : T) (stop : Stop) (old new : CallerView D)
      (batch : Name) (word : ℕ) (before drawn : List Command)
      → drawn ≡ before ++ draw_command batch word ∷ [] → stop ≡ NoMemory
      → Asks g (Ok done) old new drawn → Asks {T = T} g (Err stop) old new drawn
  stopped_drawn {T} done stop old new batch word before drawn last is asks =
      subst (λ (s : Stop). Asks {T = T} g (Err s) old new drawn) (sym is) (record {
        answered = tt;
        stops = record {
          answered = drawn;
          rest = [];
          parts = sym (append-nil drawn);
          left = ap (λ (b : BookState). b.entries) asks.answered;
          asked = sample_question batch;
          next = inr (record {
            batch = batch;
            word = word;
            before = before;
            drawn = last;
            is = refl;
          });
          may = refl;
        };
        goes = goes_on g done (Err NoMemory) old.store new.store new.store asks.goes
            (stays g (Err NoMemory) new.store refl (λ finished. absurd (cc (finished))));
        calm = tt;
      })

  -- ---- steps of scripts in turn

  module _ {A : Type 0} (script : BookState → A → List Command) (old : CallerView D) where
    abbrev turns : List A → List Command
    turns xs = in_turn script (stored_book old.store) xs

    -- what one more asks is what its script asks at the book that the others leave
    turn_at : {T : Type 0} (done : T) (between : CallerView D) (first : List A) (x : A)
        → Asks g (Ok done) old between (turns first)
        → turns first ++ script (stored_book between.store) x ≡ turns (first ++ x ∷ [])
    turn_at done between first x before =
        ap (λ (b : BookState). turns first ++ script b x) before.answered
        ∙ sym (turns-push script (stored_book old.store) first x)

    pub turn_on : {T U V : Type 0} (done : T) (next_done : U) (other : V)
        (between new : CallerView D) (first all : List A) (x : A) → all ≡ first ++ x ∷ []
        → Asks g (Ok done) old between (turns first)
        → Asks g (Ok next_done) between new (script (stored_book between.store) x)
        → Asks g (Ok other) old new (turns all)
    turn_on done next_done other between new first all x is before next =
        asks_same (Ok other) old new _ _
        (turn_at done between first x before ∙ ap (λ (xs : List A). turns xs) (sym is))
        (asks_with next_done other old new _
        (asks_on done (Ok next_done) old between new _ _ before next))

    pub turn_stopped : {T U V : Type 0} (done : T) (stop : Stop) (between new : CallerView D)
        (first rest all : List A) (x : A) → all ≡ (first ++ x ∷ []) ++ rest
        → Asks g (Ok done) old between (turns first)
        → Asks {T = U} g (Err stop) between new (script (stored_book between.store) x)
        → Asks {T = V} g (Err stop) old new (turns all)
    turn_stopped done stop between new first rest all x is before stopped =
        let parts = ap (λ (xs : List A). turns xs) is
        ∙ turns-append script (stored_book old.store) (first ++ x ∷ []) rest in
        stopped_behind done stop old between new (turns first)
        (script (stored_book between.store) x) _ (turns all)
        (parts ∙ ap (λ (cs : List Command). cs
        ++ in_turn script (after_commands (stored_book old.store) (turns (first ++ x ∷ []))) rest)
        (sym (turn_at done between first x before))) before stopped
