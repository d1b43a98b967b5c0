-- Lemmas on a serve over a disk that was opened as a book.
use Rattle.std.proofs.Common.{◌≡◌, ◌⊎◌, ℕ, ◌≤◌, List, [], length, take, Some, None, refl, sym, ap, ◌∙◌, subst, arith, length-append, append-nil}
use Rattle.device_facts.specs.Prefix.{IsPrefixOf}
use Rattle.disk_core.specs.Disk.{WhereTold}
use Rattle.disk_core.specs.declared.disk.Disk as disk
use Rattle.book_words.specs.declared.act.Entry.{Entry}
use Rattle.book_words.specs.Answers.{IsLegal}
use Rattle.book_words.specs.Callers.{Known}
use Rattle.book_journal.specs.Mounting.{KeepsFromSync}
use Rattle.book_journal.specs.Rows.{FitsSnapshot}
use Rattle.book_store.specs.declared.store.Store.{Store}
use Rattle.book_store.specs.Images.{HoldsBook}
use Rattle.book_store.specs.Kept.{HasKept}
use Rattle.book_mount.specs.Listing.{IsOpenedAs}
use Rattle.book_mount.specs.Mounting.{HasHeld}
use Rattle.book_store.specs.Stores.{disk_of, entries_of, limit_of, held_of, Hangs}
use Rattle.book_store.specs.Resting.{HoldsSnapshotOf}
use Rattle.book_mount.proofs.MountedStores.{kept_mounted}
use Rattle.lane_worker.specs.Works as lanes
use Rattle.office_door.specs.Doors as doors
use Rattle.serve_run.specs.Sessions.{KeepsRun, LeavesAtEnd, LeavesFrom}
use Rattle.store_runs.specs.Books.{BookState, stored_book}
use Rattle.store_runs.specs.Runs.{HasGrown}
use Rattle.store_runs.specs.Stops.{stop_row}
use Rattle.text_streams.specs.Streams.{Stream}
use Rattle.job_reports.specs.declared.stop.ServeStop.{ServeStop}
use Rattle.job_reports.specs.declared.stop.ServeStop.TheVariants.{BadPlan, Early, Ran}
use Rattle.job_reports.specs.declared.stop.JobsStop.TheVariants.{Finished}
use Rattle.serve_run.specs.Jobs.{Handed}
use Rattle.serve_run.specs.Keeping.{ServeGoes}
use Rattle.serve_run.specs.Serving.{moment, ExplainsServe, CountsServe, SparesServe}
use Rattle.hall_alone.specs.declared.ended.Ended.{Ended}
use Rattle.hall_top.specs.Serving.{handed_of, KeepsAll, KeepsServed, IsServed, ServeDone}
use Rattle.hall_top.proofs.DoneLemmas.{serve_done}
use Rattle.hall_alone.proofs.OpenedBooks.{front_of, keeps_rows}

module _ {D : Type 0} (g : disk.Ghosts D) where
  -- a serve leaves the rows that it began with, before all others
  serve_begins : (old left : Store D) (stop : ServeStop) → ServeGoes g old left stop
      → IsPrefixOf (entries_of old) (entries_of left)
  serve_begins old left BadPlan same =
      ([], ap (λ (s : Store D). entries_of s) same ∙ sym (append-nil (entries_of old)))
  serve_begins old left (Early stop) goes = goes.begins
  serve_begins old left (Ran stop) over = over.begins

  -- the disk's count behind it
  serve_counts : (old left : Store D) (stop : ServeStop) → ServeGoes g old left stop
      → CountsServe (g.faults (disk_of old)) (g.faults (disk_of left)) stop
  serve_counts old left BadPlan same = ap (λ (s : Store D). g.faults (disk_of s)) same
  serve_counts old left (Early stop) goes = goes.cause
  serve_counts old left (Ran stop) over = over.cause

  -- what is left of a disk that held these entries, where jobs ran
  keeps_all : (held : List Entry) (before : D) (store last : Store D) (left : D) (opened : ℕ)
      (limit : ℕ) (rows : List Entry) → limit_of last ≡ limit → HasHeld g before held store → KeepsRun g held before last
      → left ≡ disk_of last → rows ≡ entries_of last → take opened rows ≡ entries_of store
      → KeepsAll g held before left opened (record { limit = limit; entries = rows })
  keeps_all held before store last left opened limit rows limit_is has run disk_left same front =
      record {
        same = front ∙ has.same;
        moments = subst (λ (d : _). KeepsFromSync g before d (LeavesFrom held rows))
            (sym disk_left)
            (subst (λ (es : List Entry). KeepsFromSync g before (disk_of last)
            (LeavesFrom held es)) (sym same) run.moments);
        end = subst (λ (d : _). LeavesAtEnd g limit rows before d) (sym disk_left)
            (subst (λ (es : List Entry). LeavesAtEnd g limit es before (disk_of last)) (sym same)
            (subst (λ (n : ℕ). LeavesAtEnd g n (entries_of last) before (disk_of last)) limit_is
            run.end));
      }

  -- the same as it stopped
  serve_kept : (limit : ℕ) (held : List Entry) (before : D) (store last : Store D) (left : D)
      (opened : ℕ) (rows : List Entry) (stop : ServeStop) → limit_of store ≡ limit
      → g.faults (disk_of store) ≡ g.faults before
      → HasHeld g before held store → HasKept g held before None store
      → ServeGoes g store last stop
      → left ≡ disk_of last → rows ≡ entries_of last → take opened rows ≡ entries_of store
      → KeepsServed g held before left opened (record { limit = limit; entries = rows }) stop
  serve_kept limit held before store last left opened rows BadPlan limit_is faults has kept same
      disk_left rows_are front =
      keeps_rows g held before None store last left opened rows has
      (subst (λ (s : Store D). HasKept g held before None s) (sym same) kept) disk_left rows_are
      front
  serve_kept limit held before store last left opened rows (Early stop) limit_is faults has kept
      goes disk_left rows_are front =
      let now : BookState = record { limit = limit; entries = rows } in
      let book : stored_book last ≡ now = λ i. record {
        limit = (goes.limit ∙ limit_is) i;
        entries = (sym rows_are) i;
      } in
      keeps_rows g held before (stop_row now stop) store last left opened rows has
      (subst (λ (b : BookState). HasKept g held before (stop_row b stop) last) book
      (goes.kept held before kept)) disk_left rows_are front
  serve_kept limit held before store last left opened rows (Ran stop) limit_is faults has kept over
      disk_left rows_are front =
      keeps_all held before store last left opened limit rows (over.limit ∙ limit_is) has
      (over.kept held before faults kept) disk_left rows_are front

  -- a serve that is done and added rows left a snapshot of them
  serve_snapshot : (store last : Store D) (left : D) (opened : ℕ) (rows : List Entry)
      (stop : ServeStop) → held_of store ≡ opened → ServeGoes g store last stop
      → left ≡ disk_of last → rows ≡ entries_of last → stop ≡ Ran Finished
      → HasGrown opened rows → HoldsSnapshotOf g rows left
  serve_snapshot store last left opened rows stop held goes disk_left same finished grown =
      let over = subst (λ (s : ServeStop). ServeGoes g store last s) finished goes in
      let new : HasGrown (held_of store) (entries_of last) = omega (
        arith,
        grown,
        held,
        ap length same,
      ) in
      subst (λ (d : _). HoldsSnapshotOf g rows d) (sym disk_left)
      (subst (λ (es : List Entry). HoldsSnapshotOf g es (disk_of last)) (sym same)
      (over.snapshot refl new))

  -- a serve that added no row, where the disk didn't fail, left what the disk reads
  serve_still : (store last : Store D) (stop : ServeStop) → ServeGoes g store last stop
      → held_of store ≡ length (entries_of store)
      → SparesServe (g.faults (disk_of store)) (g.faults (disk_of last)) stop
      → ¬ HasGrown (held_of store) (entries_of last)
      → g.reads (disk_of last) ≡ g.reads (disk_of store)
  serve_still store last BadPlan same held spares small =
      ap (λ (s : Store D). g.reads (disk_of s)) same
  serve_still store last (Early stop) goes held spares small =
      ap g.reads (goes.still spares (omega (arith, held))
      (subst (λ (n : ℕ). ¬ HasGrown n (entries_of last)) (sym goes.held) small))
  serve_still store last (Ran stop) over held spares small =
      over.still spares (omega (arith, held)) small

  -- a serve over a store that a disk was mounted as
  pub is_served : {L O : Type 0} (counts_now : (d : D) (t : ℕ) (c : List ℕ)
      → t ≤ g.time d → g.image d c → g.since d t c) (lane_at : Known → L → lanes.Site)
      (door_at : Known → O → doors.Site) (limit : ℕ) (before : D) (store : Store D)
      (input output : Stream) (handed : Handed L O) (input_now now : Stream) (ended : Ended D L O)
      → limit_of store ≡ limit → held_of store ≡ length (entries_of store) → ¬ Hangs store
      → g.faults (disk_of store) ≡ g.faults before
      → WhereTold (g.reads before) (λ bytes. IsOpenedAs bytes (entries_of store))
      → WhereTold (g.reads before) (λ bytes. (held : List Entry) → HoldsBook held bytes
      → IsLegal held → HasHeld g before held store)
      → WhereTold (g.reads before) (λ bytes. (rows size : ℕ) → FitsSnapshot rows size bytes
      → g.reads (disk_of store) ≡ Some bytes)
      → ServeDone g lane_at door_at store (moment input output (g.faults (disk_of store)) handed)
      input_now now ended
      → IsServed g lane_at door_at limit before (moment input output (g.faults before) handed)
      input_now now ended
  is_served counts_now lane_at door_at limit before store input output handed input_now now ended
      limit_is count calm faults opened held unwritten done =
      let begins = serve_begins store done.left done.stop done.goes in
      let front : take ended.held ended.rows ≡ entries_of store =
      ap (λ n. take n ended.rows) done.held ∙ ap (take (length (entries_of store))) (done.rows
      ∙ begins.1) ∙ front_of (entries_of store) begins.0 in
      record {
        few = omega (
          arith,
          done.held,
          ap length (done.rows ∙ begins.1),
          length-append (entries_of store) begins.0,
        );
        opened = λ bytes told. subst (IsOpenedAs bytes) (sym front) (opened bytes told);
        stop = done.stop;
        said = done.said;
        explained =
            subst (λ (b : BookState). ExplainsServe lane_at door_at b
            (moment input output (g.faults before) handed)
            (moment input_now done.said (g.faults ended.disk) (handed_of ended)) ended.rows
            done.stop) (λ i. record { limit = limit_is i; entries = (sym front) i })
            (subst (λ (n : ℕ). ExplainsServe lane_at door_at (stored_book store)
            (moment input output n handed)
            (moment input_now done.said (g.faults ended.disk) (handed_of ended)) ended.rows
            done.stop) faults
            (subst (λ (d : _). ExplainsServe lane_at door_at (stored_book store)
            (moment input output (g.faults (disk_of store)) handed)
            (moment input_now done.said (g.faults d) (handed_of ended)) ended.rows
            done.stop) (sym done.disk_left)
            (subst (λ (es : List Entry). ExplainsServe lane_at door_at (stored_book store)
            (moment input output (g.faults (disk_of store)) handed)
            (moment input_now done.said (g.faults (disk_of done.left)) (handed_of ended)) es
            done.stop) (sym done.rows) done.explained)));
        cause = subst (λ (d : _). CountsServe (g.faults before) (g.faults d) done.stop)
            (sym done.disk_left)
            (subst (λ (n : ℕ). CountsServe n (g.faults (disk_of done.left)) done.stop) faults
            (serve_counts store done.left done.stop done.goes));
        kept = λ bytes told rows holds legal.
            let has = held bytes told rows holds legal in
            serve_kept limit rows before store done.left ended.disk ended.held ended.rows done.stop
            limit_is faults has (kept_mounted g counts_now rows before store has calm) done.goes
            done.disk_left done.rows front;
        snapshot = serve_snapshot store done.left ended.disk ended.held ended.rows done.stop
            (count ∙ sym done.held) done.goes done.disk_left done.rows;
        unwritten = λ spares small bytes told rows size fits.
            ap g.reads done.disk_left
            ∙ (serve_still store done.left done.stop done.goes count
            (subst (λ (n : ℕ). SparesServe n (g.faults (disk_of done.left)) done.stop) (sym faults)
            (subst (λ (d : _). SparesServe (g.faults before) (g.faults d) done.stop) done.disk_left
            spares))
            (λ grown. small (omega (arith, grown, ap length done.rows, count, done.held)))
            ∙ unwritten bytes told rows size fits);
        last = done.last;
        done = serve_done lane_at door_at (stored_book store)
            (moment input output (g.faults (disk_of store)) handed)
            (moment input_now done.said (g.faults (disk_of done.left)) (handed_of ended))
            (entries_of done.left) done.stop now ended.status done.explained done.last;
      }
