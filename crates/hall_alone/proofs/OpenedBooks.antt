-- Lemmas on a command over a disk that was opened as a book.
use Rattle.std.proofs.Common.{◌≡◌, ◌⊎◌, ℕ, ◌≤◌, List, [], ◌∷◌, ◌++◌, length, take, Option, Some, Err, refl, sym, ap, ◌∙◌, subst, arith, length-append}
use Rattle.disk_core.specs.Disk.{WhereTold}
use Rattle.disk_core.specs.Devices.{IsUnmoved}
use Rattle.disk_core.specs.declared.disk.Disk as disk
use Rattle.book_words.specs.declared.act.Entry.{Entry}
use Rattle.book_words.specs.Answers.{IsLegal}
use Rattle.book_journal.specs.Rows.{FitsSnapshot}
use Rattle.book_journal.specs.Mounting.{KeepsFromSync}
use Rattle.book_store.specs.declared.store.Store.{Store}
use Rattle.book_mount.specs.declared.types.MountError.{MountError}
use Rattle.book_store.specs.Images.{HoldsBook}
use Rattle.book_store.specs.Kept.{with_offered, CrashLeaves, HasKept}
use Rattle.book_mount.specs.Listing.{IsOpenedAs}
use Rattle.book_mount.specs.Mounting.{HasHeld, IsCauseOf, IsPassing}
use Rattle.book_store.specs.Stores.{disk_of, entries_of, limit_of, held_of, Hangs}
use Rattle.book_store.specs.Resting.{HoldsSnapshotOf}
use Rattle.book_mount.proofs.MountedStores.{kept_mounted}
use Rattle.store_runs.specs.declared.stop.Stop.{Stop}
use Rattle.store_runs.specs.Books.{BookState, stored_book}
use Rattle.text_streams.specs.Streams.{Stream}
use Rattle.script_run.specs.Outside.{LogView, Outside, Devices, Call}
use Rattle.store_runs.specs.Runs.{HasAddedRows, CountsStop, SparesDisk}
use Rattle.store_runs.specs.Stops.{stop_row}
use Rattle.hall_alone.specs.declared.ended.Outcome.{Outcome}
use Rattle.call_endings.specs.declared.ending.Ending.TheVariants.{Unopened}
use Rattle.hall_alone.specs.Calls.{KeepsRows, LanesRest, IsOpened, IsUnopened, CommandDone}

-- a call that began with these devices
abbrev pub call_from : {S : Type 0} → Devices S → Devices S → List Entry → Call S
call_from before now rows = record { before = before; now = now; rows = rows }

-- a call in which no lane was worked
pub lanes_rest : (here : Outside) (now : Stream) (log : LogView) → log ≡ here.log
    → LanesRest here (record { output = now; lanes = here.lanes; log = log })
lanes_rest here now log same =
    ap (λ (l : LogView). record { output = now; lanes = here.lanes; log = l }) same

-- the front of a list that begins with another
pub front_of : (first more : List Entry) → take (length first) (first ++ more) ≡ first
front_of [] more = refl
front_of (entry ∷ first) more = ap (λ (es : List Entry). entry ∷ es) (front_of first more)

-- what is left of a disk that held these entries
pub keeps_rows : {D : Type 0} (g : disk.Ghosts D) (held : List Entry) (before : D)
    (offered : Option Entry) (store last : Store D) (left : D) (opened : ℕ) (rows : List Entry)
    → HasHeld g before held store → HasKept g held before offered last
    → left ≡ disk_of last → rows ≡ entries_of last → take opened rows ≡ entries_of store
    → KeepsRows g held offered before left opened rows
keeps_rows g held before offered store last left opened rows has kept disk_left same front =
    record {
      same = front ∙ has.same;
      moments = subst (λ (d : _). KeepsFromSync g before d (CrashLeaves held
          (with_offered rows offered))) (sym disk_left)
          (subst (λ (es : List Entry). KeepsFromSync g before (disk_of last) (CrashLeaves held
          (with_offered es offered))) (sym same) kept.moments);
      end = λ c image.
          subst (λ (es : List Entry). HoldsBook es c ⊎ HoldsBook (with_offered es offered) c) (sym same)
          (kept.images c (subst (λ (d : _). g.image d c) disk_left image));
    }

-- a command that was done over a store that a disk was mounted as
pub is_opened : {S D : Type 0} (g : disk.Ghosts D) (counts_now : (d : D) (t : ℕ) (c : List ℕ)
    → t ≤ g.time d → g.image d c → g.since d t c) (limit : ℕ) (Explains : BookState → Call S
    → Stop → Type 0) (before : D) (store : Store D) (outcome : Outcome D) (call : Call S)
    → limit_of store ≡ limit → held_of store ≡ length (entries_of store) → ¬ Hangs store
    → g.faults (disk_of store) ≡ g.faults before
    → WhereTold (g.reads before) (λ bytes. IsOpenedAs bytes (entries_of store))
    → WhereTold (g.reads before) (λ bytes. (held : List Entry) → HoldsBook held bytes
    → IsLegal held → HasHeld g before held store)
    → WhereTold (g.reads before) (λ bytes. (rows size : ℕ) → FitsSnapshot rows size bytes
    → g.reads (disk_of store) ≡ Some bytes)
    → CommandDone g Explains store outcome call
    → IsOpened g limit Explains before outcome call
is_opened g counts_now limit Explains before store outcome call limit_is count calm faults opened
    held unwritten done =
    let begins = done.goes.begins in
    let front : take outcome.held outcome.rows ≡ entries_of store =
    ap (λ n. take n outcome.rows) done.held ∙ ap (take (length (entries_of store))) (done.rows
    ∙ begins.1) ∙ front_of (entries_of store) begins.0 in
    record {
      few = omega (
        arith,
        done.held,
        ap length (done.rows ∙ begins.1),
        length-append
            (entries_of store) begins.0,
      );
      opened = λ bytes told. subst (IsOpenedAs bytes) (sym front) (opened bytes told);
      stop = done.stop;
      ending = done.ending;
      explained = subst (λ (b : BookState). Explains b call done.stop)
          (λ i. record { limit = limit_is i; entries = (sym front) i }) done.explained;
      cause = subst (λ (d : _). CountsStop (g.faults before) (g.faults d) done.stop)
          (sym done.disk_left)
          (subst (λ (n : ℕ). CountsStop n (g.faults (disk_of done.last)) done.stop) faults
          done.goes.cause);
      kept = λ bytes told rows holds legal.
          let has = held bytes told rows holds legal in
          let left : BookState = record { limit = limit; entries = outcome.rows } in
          let book : stored_book done.last ≡ left = λ i. record {
            limit = (done.goes.limit
                ∙ limit_is) i;
            entries = (sym done.rows) i;
          } in
          let kept = subst (λ (b : BookState). HasKept g rows before
          (stop_row b done.stop) done.last) book (done.goes.kept rows before
          (kept_mounted g counts_now rows before store has calm)) in
          keeps_rows g rows before (stop_row left done.stop) store done.last outcome.disk
          outcome.held outcome.rows has kept done.disk_left done.rows front;
      snapshot = λ finished grown.
          let new : HasAddedRows done.last = omega (
            arith,
            grown,
            ap length done.rows,
            done.goes.held,
            count,
            done.held,
          ) in
          let none : ¬ Hangs done.last = λ hung. calm (done.goes.calm (subst SparesDisk
          (sym finished) tt) hung) in
          let holds = done.goes.snapshot (ap (λ (s : Stop). Err s) finished) new none in
          subst (λ (d : _). HoldsSnapshotOf g outcome.rows d) (sym done.disk_left)
          (subst (λ (es : List Entry). HoldsSnapshotOf g es (disk_of done.last)) (sym done.rows) holds);
      unwritten = λ unfailing small bytes told rows size fits.
          let still = done.goes.still unfailing (omega (arith, count)) (λ new. small (omega
          (arith, new, ap length done.rows, done.goes.held, count, done.held))) in
          ap g.reads (done.disk_left ∙ still) ∙ unwritten bytes told rows size fits;
    }

-- a disk that wasn't opened as a book
pub is_unopened : {S D : Type 0} (g : disk.Ghosts D) (before left : D) (why : MountError)
    (outcome : Outcome D) (call : Call S)
    → IsCauseOf g why before left
    → WhereTold (g.reads before) (λ bytes. (held : List Entry) → HoldsBook held bytes
    → IsLegal held → IsPassing why × (KeepsFromSync g before left
    (HoldsBook held) ⊎ IsUnmoved g before left))
    → call.now.source ≡ call.before.source → call.now.outside ≡ call.before.outside
    → call.rows ≡ [] → outcome.disk ≡ left → outcome.held ≡ 0 → outcome.ending ≡ Unopened why
    → IsUnopened g before outcome call
is_unopened g before left why outcome call cause kept unread quiet rows same held ending =
    record {
      why = why;
      ending = ending;
      cause = subst (λ (d : _). IsCauseOf g why before d) (sym same) cause;
      nothing = record { unread = unread; quiet = quiet; none = rows };
      none = held;
      kept = subst (λ (d : _). WhereTold (g.reads before) (λ bytes. (held : List Entry)
          → HoldsBook held bytes → IsLegal held → IsPassing why × (KeepsFromSync g before d
          (HoldsBook held) ⊎ IsUnmoved g before d))) (sym same) kept;
    }
