-- What the steps of a run make of its store, one after another.
use Rattle.std.proofs.Common.{◌≡◌, ◌≢◌, ◌⊎◌, ◌≤◌, Bool, true, false, inl, inr, ⊎_elim, ℕ, [], ◌∷◌, ◌++◌, length, Option, None, Result, Ok, Err, OnOk, IfErr, refl, sym, ap, ◌∙◌, subst, arith, length-append}
use Rattle.std.proofs.lemmas.Bool.{cases_lt}
use Rattle.disk_core.specs.declared.disk.Disk as disk
use Rattle.book_words.specs.declared.act.Ask.{Ask}
use Rattle.book_words.specs.declared.act.Entry.{Entry}
use Rattle.book_words.specs.declared.caller.AskError.{AskError}
use Rattle.book_words.specs.declared.caller.AskError.TheVariants as error
use Rattle.book_words.specs.declared.reply.Answered.{Answered}
use Rattle.book_words.specs.Answers.{IsLawful, added}
use Rattle.book_words.specs.Callers.{faults_told}
use Rattle.book_store.specs.declared.store.Store.{Store}
use Rattle.book_store.specs.declared.types.AdoptError.{AdoptError}
use Rattle.book_store.specs.declared.types.AdoptError.TheVariants as adopt
use Rattle.book_store.specs.declared.types.RestError.{RestError}
use Rattle.book_store.specs.Adopting.{Adopts, list_adopted, CountsAdoptFault, offered_adopted}
use Rattle.book_store.specs.Callers.{CallerView, IsReachedBy}
use Rattle.book_store.specs.Kept.{KeepsOn}
use Rattle.book_store.specs.Offers.{OffersEntry, LeavesDisk, list_behind, offered_behind, CountsDiskFault}
use Rattle.book_store.specs.Resting.{HasNothingToKeep, HoldsOwnSnapshot}
use Rattle.book_store.specs.Stores.{BookView, disk_of, book_of, entries_of, limit_of, held_of, Hangs, HasBook, ImagesHoldBook, KeepsBook}
use Rattle.book_store.proofs.KeptLemmas.{same_begins, begins_on, begins_short, adopted_begins, kept_adopted, kept_rested, keeps_offered}
use Rattle.store_runs.specs.declared.stop.Stop.{Stop}
use Rattle.store_runs.specs.declared.stop.Stop.TheVariants.{Finished}
use Rattle.store_runs.specs.Books.{BookState, stored_book}
use Rattle.store_runs.specs.Stops.{step_row, step_asked, step_adopted}
use Rattle.store_runs.specs.Runs.{HasAddedRows, LeavesSnapshot, CountsStep, SparesDisk, Goes}

-- a step that goes on isn't the end of a run
pub on_unfinished : {T : Type 0} (done : T) → Ok done ≢ Err Finished
on_unfinished done is = absurd (cc)

-- nor is one that stopped otherwise
pub stop_unfinished : {T : Type 0} (stop : Stop) (result : Result T Stop) → stop ≢ Finished → result ≡ Err stop → result ≢ Err Finished
stop_unfinished stop result other is finished = other (let same : stop ≡ Finished = cc (is, finished) in same)

-- a step that goes on, and then another
pub goes_on : {D T U : Type 0} (g : disk.Ghosts D) (done : T) (result : Result U Stop) (a b c : Store D) → Goes g (Ok done) a b → Goes g result b c → Goes g result a c
goes_on g done result a b c first second =
    let longer = begins_short (entries_of b) (entries_of c) second.begins in
    record {
      limit = second.limit ∙ first.limit;
      held = second.held ∙ first.held;
      begins = begins_on (entries_of a) (entries_of b) (entries_of c) first.begins second.begins;
      kept = λ held start has. second.kept held start (first.kept held start has);
      cause = subst (λ (n : ℕ). CountsStep n (g.faults (disk_of c)) result) first.cause second.cause;
      calm = λ quiet hung. first.calm tt (second.calm quiet hung);
      still = λ quiet few small.
          second.still quiet (omega (arith, few, first.held, begins_short (entries_of a) (entries_of b) first.begins)) small
          ∙ first.still tt few (λ grown. small (omega (arith, grown, second.held, longer)));
      snapshot = second.snapshot;
    }

-- a step that goes on, by another answer that counts so
pub goes_with : {D T U : Type 0} (g : disk.Ghosts D) (done : T) (result : Result U Stop) (a b : Store D) → Goes g (Ok done) a b → CountsStep (g.faults (disk_of a)) (g.faults (disk_of b)) result
    → (result ≡ Err Finished → LeavesSnapshot g b) → Goes g result a b
goes_with g done result a b goes counts snapshot =
    record {
      limit = goes.limit;
      held = goes.held;
      begins = goes.begins;
      kept = keeps_offered g (step_row (stored_book b) result) a b goes.kept;
      cause = counts;
      calm = λ quiet hung. goes.calm tt hung;
      still = λ quiet few small. goes.still tt few small;
      snapshot = snapshot;
    }

-- the store is as it was
pub stays : {D T : Type 0} (g : disk.Ghosts D) (result : Result T Stop) (store : Store D) → CountsStep (g.faults (disk_of store)) (g.faults (disk_of store)) result
    → (result ≡ Err Finished → LeavesSnapshot g store) → Goes g result store store
stays g result store counts snapshot =
    goes_with {T = Unit {0}} g tt result store store
    (record {
      limit = refl;
      held = refl;
      begins = same_begins (entries_of store) (entries_of store) refl;
      kept = λ held start has. has;
      cause = refl;
      calm = λ quiet hung. hung;
      still = λ quiet few small. refl;
      snapshot = λ is. absurd (on_unfinished tt is);
    })
    counts snapshot

-- the store is as it was, said of a store that is the same
pub stays_same : {D T : Type 0} (g : disk.Ghosts D) (result : Result T Stop) (a b : Store D) → b ≡ a → CountsStep (g.faults (disk_of a)) (g.faults (disk_of a)) result → result ≢ Err Finished → Goes g result a b
stays_same g result a b same counts unfinished =
    subst (λ (s : Store _). Goes g result a s) (sym same) (stays g result a counts (λ finished. absurd (unfinished finished)))

-- how a run stops, whatever its steps answer
pub goes_as : {D T U : Type 0} (g : disk.Ghosts D) (stop : Stop) (a b : Store D) → Goes {T = T} g (Err stop) a b → Goes {T = U} g (Err stop) a b
goes_as g stop a b goes =
    record {
      limit = goes.limit;
      held = goes.held;
      begins = goes.begins;
      kept = goes.kept;
      cause = goes.cause;
      calm = goes.calm;
      still = goes.still;
      snapshot = λ is. let same : stop ≡ Finished = cc (is) in goes.snapshot (ap (λ (s : Stop). Err s) same);
    }

module _ {D T : Type 0} (g : disk.Ghosts D) (done : T) where
  -- ---- an ask

  ask_unfinished : (by : ℕ) (ask : Ask) (result : Result Answered AskError) → step_asked done by ask result ≢ Err Finished
  ask_unfinished by ask (Ok answered) is = absurd (cc)
  ask_unfinished by ask (Err (error.Refused refused)) is = absurd (cc)
  ask_unfinished by ask (Err error.DiskFault) is = absurd (cc)
  ask_unfinished by ask (Err error.NoMemory) is = absurd (cc)

  ask_counts : (by : ℕ) (ask : Ask) (before now : ℕ) (result : Result Answered AskError) → CountsDiskFault before now result → CountsStep before now (step_asked done by ask result)
  ask_counts by ask before now (Ok answered) counts = counts
  ask_counts by ask before now (Err (error.Refused refused)) counts = counts
  ask_counts by ask before now (Err error.DiskFault) counts = counts
  ask_counts by ask before now (Err error.NoMemory) counts = counts

  ask_offers : (by : ℕ) (ask : Ask) (old new : Store D) (result : Result Answered AskError)
      → entries_of new ≡ list_behind result (entries_of old) (added (limit_of old) (entries_of old) by ask) → limit_of new ≡ limit_of old
      → step_row (stored_book new) (step_asked done by ask result) ≡ offered_behind result (added (limit_of old) (entries_of old) by ask)
  ask_offers by ask old new (Ok answered) is limit = refl
  ask_offers by ask old new (Err (error.Refused refused)) is limit = refl
  ask_offers by ask old new (Err error.DiskFault) is limit = λ i. added (limit i) (is i) by ask
  ask_offers by ask old new (Err error.NoMemory) is limit = refl

  -- a caller that was answered no fault before is answered none where the disk is spared
  none_told : (by : ℕ) (ask : Ask) (result : Result Answered AskError) → IfErr (step_asked done by ask result) SparesDisk → faults_told result ≡ 0
  none_told by ask (Ok answered) spares = refl
  none_told by ask (Err (error.Refused refused)) spares = refl
  none_told by ask (Err error.DiskFault) spares = absurd spares
  none_told by ask (Err error.NoMemory) spares = refl

  pub goes_asked : (old new : CallerView D) (ask : Ask) (result : Result Answered AskError)
      → entries_of new.store ≡ list_behind result (entries_of old.store) (added (limit_of old.store) (entries_of old.store) old.by ask)
      → IsReachedBy g old new (ask ∷ []) → old.faults ≡ 0 → (faults_told result ≡ 0 → new.faults ≡ 0) → CountsDiskFault (g.faults (disk_of old.store)) (g.faults (disk_of new.store)) result
      → KeepsOn g (offered_behind result (added (limit_of old.store) (entries_of old.store) old.by ask)) old.store new.store
      → Goes g (step_asked done old.by ask result) old.store new.store
  goes_asked old new ask result is reached none stay counts kept =
      record {
        limit = reached.limit;
        held = reached.held;
        begins = reached.begins;
        kept = subst (λ (o : Option Entry). KeepsOn g o old.store new.store) (sym (ask_offers old.by ask old.store new.store result is reached.limit)) kept;
        cause = ask_counts old.by ask _ _ result counts;
        calm = λ quiet hung.
            let still = stay (none_told old.by ask result quiet) in
            ⊎_elim (λ was. was) (λ rose. absurd (omega (arith, rose, none, still))) (reached.hangs hung);
        still = λ quiet few small.
            let stays = stay (none_told old.by ask result quiet) in
            reached.still (omega (arith, few, small_rows reached.held small)) (omega (arith, none, stays));
        snapshot = λ finished. absurd (ask_unfinished old.by ask result finished);
      }
    where
      small_rows : held_of new.store ≡ held_of old.store → ¬ HasAddedRows new.store → length (entries_of new.store) ≤ held_of old.store
      small_rows held small = ⊎_elim
          (λ grown. absurd (small grown)) (λ few. omega (arith, held, few)) (cases_lt (held_of new.store) (length (entries_of new.store)))

  -- ---- a row of another book

  adopt_unfinished : (number : ℕ) (entry : Entry) (result : Result ℕ AdoptError) → step_adopted done number entry result ≢ Err Finished
  adopt_unfinished number entry (Ok row) is = absurd (cc)
  adopt_unfinished number entry (Err adopt.Unlawful) is = absurd (cc)
  adopt_unfinished number entry (Err adopt.DiskFault) is = absurd (cc)
  adopt_unfinished number entry (Err adopt.NoMemory) is = absurd (cc)

  adopt_counts : (number : ℕ) (entry : Entry) (before now : ℕ) (result : Result ℕ AdoptError) → CountsAdoptFault before now result → CountsStep before now (step_adopted done number entry result)
  adopt_counts number entry before now (Ok row) counts = counts
  adopt_counts number entry before now (Err adopt.Unlawful) counts = counts
  adopt_counts number entry before now (Err adopt.DiskFault) counts = counts
  adopt_counts number entry before now (Err adopt.NoMemory) counts = counts

  adopt_offers : (number : ℕ) (entry : Entry) (book : BookState) (result : Result ℕ AdoptError) → step_row book (step_adopted done number entry result) ≡ offered_adopted result entry
  adopt_offers number entry book (Ok row) = refl
  adopt_offers number entry book (Err adopt.Unlawful) = refl
  adopt_offers number entry book (Err adopt.DiskFault) = refl
  adopt_offers number entry book (Err adopt.NoMemory) = refl

  adopt_calm : (number : ℕ) (entry : Entry) (old new : Store D) (result : Result ℕ AdoptError) → IfErr (step_adopted done number entry result) SparesDisk → (result ≡ Err adopt.DiskFault) ⊎ Hangs old → Hangs old
  adopt_calm number entry old new (Ok row) quiet hangs = ⊎_elim (λ is. absurd (cc)) (λ was. was) hangs
  adopt_calm number entry old new (Err adopt.Unlawful) quiet hangs = ⊎_elim (λ is. absurd (cc)) (λ was. was) hangs
  adopt_calm number entry old new (Err adopt.DiskFault) quiet hangs = absurd quiet
  adopt_calm number entry old new (Err adopt.NoMemory) quiet hangs = ⊎_elim (λ is. absurd (cc)) (λ was. was) hangs

  -- a store with one more row than one that had all rows of its disk has a new one
  grows : (entry : Entry) (old new : Store D) → entries_of new ≡ entries_of old ++ entry ∷ [] → held_of new ≡ held_of old → held_of old ≤ length (entries_of old) → HasAddedRows new
  grows entry old new is held few = omega (arith, held, few, ap length is, length-append (entries_of old) (entry ∷ []))

  adopt_still : (number : ℕ) (entry : Entry) (old new : Store D) (result : Result ℕ AdoptError) → IfErr (step_adopted done number entry result) SparesDisk → entries_of new ≡ list_adopted result (entries_of old) entry
      → (result ≡ Err adopt.Unlawful → LeavesDisk g old new) → (result ≡ Err adopt.NoMemory → LeavesDisk g old new) → held_of new ≡ held_of old → held_of old ≤ length (entries_of old) → ¬ HasAddedRows new → disk_of new ≡ disk_of old
  adopt_still number entry old new (Ok row) quiet is leaves lacks held few small = absurd (small (grows entry old new is held few))
  adopt_still number entry old new (Err adopt.Unlawful) quiet is leaves lacks held few small = (leaves refl).same
  adopt_still number entry old new (Err adopt.DiskFault) quiet is leaves lacks held few small = absurd quiet
  adopt_still number entry old new (Err adopt.NoMemory) quiet is leaves lacks held few small = (lacks refl).same

  pub goes_adopted : (number : ℕ) (old new : Store D) (entry : Entry) (result : Result ℕ AdoptError) → entries_of new ≡ list_adopted result (entries_of old) entry → Adopts (book_of old) entry result
      → (IsLawful (entries_of old) entry → HasBook g old → OffersEntry g entry old new) → (result ≡ Err adopt.Unlawful → LeavesDisk g old new) → (result ≡ Err adopt.NoMemory → LeavesDisk g old new)
      → OnOk result (¬ Hangs new) → ImagesHoldBook g new → (Hangs new → (result ≡ Err adopt.DiskFault) ⊎ Hangs old) → limit_of new ≡ limit_of old → held_of new ≡ held_of old
      → CountsAdoptFault (g.faults (disk_of old)) (g.faults (disk_of new)) result → Goes g (step_adopted done number entry result) old new
  goes_adopted number old new entry result is adopts offers leaves lacks settled images hangs limit held counts =
      record {
        limit = limit;
        held = held;
        begins = adopted_begins result (entries_of old) (entries_of new) entry is;
        kept = subst (λ (o : Option Entry). KeepsOn g o old new) (sym (adopt_offers number entry (stored_book new) result)) (kept_adopted g old new entry result is adopts offers leaves lacks settled images);
        cause = adopt_counts number entry _ _ result counts;
        calm = λ quiet hung. adopt_calm number entry old new result quiet (hangs hung);
        still = λ quiet few small. adopt_still number entry old new result quiet is leaves lacks held few small;
        snapshot = λ finished. absurd (adopt_unfinished number entry result finished);
      }

-- ---- a snapshot

pub goes_rested : {D T : Type 0} (g : disk.Ghosts D) (old new : Store D) (given : Result T Stop) → book_of new ≡ book_of old → held_of new ≡ held_of old → HasAddedRows old
    → (HasBook g old → KeepsBook g old new) → ImagesHoldBook g new → (Hangs new → Hangs old) → step_row (stored_book new) given ≡ None
    → CountsStep (g.faults (disk_of old)) (g.faults (disk_of new)) given → given ≢ Err Finished → Goes g given old new
goes_rested g old new given same held grown keeps images hangs none counts unfinished =
    let entries : entries_of new ≡ entries_of old = ap (λ (b : BookView). b.entries) same in
    record {
      limit = ap (λ (b : BookView). b.limit) same;
      held = held;
      begins = same_begins (entries_of old) (entries_of new) entries;
      kept = subst (λ (o : Option Entry). KeepsOn g o old new) (sym none) (kept_rested g old new same keeps images);
      cause = counts;
      calm = λ quiet hung. hangs hung;
      still = λ quiet few small. absurd (small (omega (arith, grown, held, ap length entries)));
      snapshot = λ finished. absurd (unfinished finished);
    }

-- what keeping a snapshot leaves, by what it answered
pub leaves_snapshot : {D : Type 0} (g : disk.Ghosts D) (old new : Store D) (result : Result Bool RestError) (kept : Bool) → result ≡ Ok kept → book_of new ≡ book_of old → (Hangs old → Hangs new) → HasAddedRows old
    → (result ≡ Ok false → HasNothingToKeep old) → (result ≡ Ok true → HoldsOwnSnapshot g new) → LeavesSnapshot g new
leaves_snapshot g old new result true is same hangs grown idle holds = λ more calm. holds is
leaves_snapshot g old new result false is same hangs grown idle holds = λ more calm. nothing calm (idle is)
  where
    nothing : {A : Type 0} → ¬ Hangs new → HasNothingToKeep old → A
    nothing calm (inl empty) = absurd (omega (arith, grown, ap length empty))
    nothing calm (inr hung) = absurd (calm (hangs hung))
