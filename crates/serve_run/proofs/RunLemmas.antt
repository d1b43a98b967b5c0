-- What a whole run keeps, from its mount to the end of its jobs.
use Rattle.std.specs.Prelude.{⊤}
use Rattle.std.proofs.Common.{◌≡◌, ◌⊎◌, inl, inr, ⊎_elim, ℕ, ◌+◌, ◌<◌, ◌≤◌, min, List, [], ◌∷◌, ◌++◌, length, take, Bool, true, false, Option, Some, None, Result, Ok, refl, sym, ap, ◌∙◌, subst, arith, length-append}
use Rattle.std.proofs.lemmas.List.{take_min}
use Rattle.device_facts.specs.Count.{Counted}
use Rattle.device_facts.specs.Prefix.{IsPrefixOf}
use Rattle.disk_core.specs.declared.disk.Disk as disk
use Rattle.book_words.specs.declared.act.Entry.{Entry}
use Rattle.book_journal.specs.Mounting.{KeepsFromSync}
use Rattle.book_store.specs.declared.store.Store.{Store}
use Rattle.book_store.specs.Images.{HoldsBook}
use Rattle.book_store.specs.Kept.{CrashLeaves, HasKept}
use Rattle.book_store.specs.Stores.{disk_of, entries_of, held_of, limit_of, Hangs, HangsWith, HasBook}
use Rattle.book_store.proofs.KeptLemmas.{same_begins}
use Rattle.store_runs.specs.declared.stop.Stop.{Stop}
use Rattle.store_runs.specs.declared.stop.Stop.TheVariants as stops
use Rattle.store_runs.specs.Runs.{CountsStop, FailsToKeep, Goes}
use Rattle.store_runs.proofs.StoreSteps.{on_unfinished}
use Rattle.session_jobs.specs.Sessions.{HoldsOrOneMore, LeavesFrom, KeepsRun, RestsOnDisk}
use Rattle.job_reports.specs.declared.stop.JobsStop.TheVariants as jobs_stop
use Rattle.serve_run.specs.Plans.{unkept, CountsRest}

-- a crash that leaves the first so many rows leaves no more than there are
leaves : (held rows : List Entry) → length held ≤ length rows → (c : List ℕ)
    → CrashLeaves held rows c → LeavesFrom held rows c
leaves held rows short c crash = record {
  count = min crash.count (length rows);
  least = let l = crash.least in omega arith;
  most = omega arith;
  holds = inl (subst (λ (es : List Entry). HoldsBook es c) (sym (take_min crash.count rows))
      crash.holds);
}

module _ {D : Type 0} (g : disk.Ghosts D) (held : List Entry) (start : D) (store : Store D)
    (kept : HasKept g held start None store) where
  none_hangs : (entry : Entry) → HangsWith g store entry → ⊥
  none_hangs entry hangs =
      absurd (let never : None ≡ Some entry = kept.hung entry hangs in cc)

  -- of a store over which nothing was offered that isn't there a crash leaves the book
  pub rests_kept : RestsOnDisk g store
  rests_kept = record {
    has = kept.has;
    images = λ c image. ⊎_elim (λ holds. holds) (λ holds. holds) (kept.images c image);
  }

  short : length held ≤ length (entries_of store)
  short = let begins = kept.begins in
      omega (arith, ap length begins.1, length-append held begins.0)

  -- and a whole run over it has kept its rows
  pub run_kept : g.faults (disk_of store) ≡ g.faults start → KeepsRun g held start store
  run_kept same =
      let rows = entries_of store in
      record {
        has = kept.has;
        begins = kept.begins;
        faults = inl same;
        hung = λ entry hangs. absurd (none_hangs entry hangs);
        moments = record {
          synced = kept.moments.synced;
          after = kept.moments.after;
          before = kept.moments.before;
          each = λ c was. leaves held rows short c (kept.moments.each c was);
          handed_in = λ c was. ⊎_elim (λ is. inl is)
              (λ crash. inr (leaves held rows short c crash)) (kept.moments.handed_in c was);
          earlier = λ t c less was. ⊎_elim (λ is. inl is)
              (λ crash. inr (leaves held rows short c crash)) (kept.moments.earlier t c less was);
        };
        end = record {
          hanging = None;
          cause = tt;
          images = λ c image. inl (rests_kept.images c image);
        };
      }

-- a store for whose rows room was made goes on as it is
pub reserved : {D : Type 0} (g : disk.Ghosts D) (old new : Store D)
    → entries_of new ≡ entries_of old → limit_of new ≡ limit_of old → held_of new ≡ held_of old
    → disk_of new ≡ disk_of old → (Hangs new → Hangs old) → (HasBook g old → HasBook g new)
    → ((entry : Entry) → HangsWith g new entry → HangsWith g old entry)
    → Goes {T = Unit {0}} g (Ok tt) old new
reserved {D} g old new rows limit held same_disk hangs book hung =
    record {
      limit = limit;
      held = held;
      begins = same_begins (entries_of old) (entries_of new) rows;
      kept = λ first start has. record {
        has = book has.has;
        begins = subst (λ (es : List Entry). IsPrefixOf first es) (sym rows) has.begins;
        hung = λ entry hangs_so. has.hung entry (hung entry hangs_so);
        moments = subst (λ (d : D). KeepsFromSync g start d (CrashLeaves first (entries_of new)))
            (sym same_disk)
            (subst (λ (es : List Entry). KeepsFromSync g start (disk_of old) (CrashLeaves first es))
            (sym rows) has.moments);
        images = λ c image. subst (λ (es : List Entry). HoldsBook es c ⊎ HoldsBook es c) (sym rows)
            (has.images c (subst (λ (d : D). g.image d c) same_disk image));
      };
      cause = ap (λ (d : D). g.faults d) same_disk;
      calm = λ quiet hung_now. hangs hung_now;
      still = λ quiet few small. same_disk;
      snapshot = λ finished. absurd (on_unfinished tt finished);
    }

-- a disk is untouched where nothing was kept, and something was kept only where no job failed and
-- none lacked memory
pub unless_kept : {A G : Type 0} (failed : ℕ) (lack : Bool) → failed ≡ 0 → lack ≡ false
    → (¬ G → A) → (0 < failed) ⊎ ((lack ≡ true) ⊎ (¬ G)) → A
unless_kept failed lack none has idle (inl some) = absurd (omega (arith, some, none))
unless_kept failed lack none has idle (inr (inl lacks)) =
    absurd (let never : true ≡ false = sym lacks ∙ has in cc)
unless_kept failed lack none has idle (inr (inr small)) = idle small

-- ---- no snapshot was kept

-- a stop at which one may fail to be kept, and the disk's count there
module _ (opened : ℕ) (rows : List Entry) (before now : ℕ) where
  -- the count stayed, or one more was counted
  pub unkept_count : (stop : Stop) → FailsToKeep opened rows stop → CountsStop before now stop
      → (now ≡ before) ⊎ Counted before now 1
  unkept_count (stops.DiskFault offer) fails counts = inr counts
  unkept_count stops.NoMemory fails counts = inl counts
  unkept_count stops.Finished fails counts = absurd fails
  unkept_count (stops.BadLine line) fails counts = absurd fails
  unkept_count stops.ReadFault fails counts = absurd fails
  unkept_count stops.WriteFault fails counts = absurd fails
  unkept_count stops.Spent fails counts = absurd fails

  pub unkept_rests : (failed : ℕ) (lack : Bool) (stop : Stop) → FailsToKeep opened rows stop
      → CountsStop before now stop → failed ≡ 0 → CountsRest before now failed lack (unkept stop)
  unkept_rests failed lack (stops.DiskFault offer) fails counts none = inr counts
  unkept_rests failed lack stops.NoMemory fails counts none = (counts, none)
  unkept_rests failed lack stops.Finished fails counts none = absurd fails
  unkept_rests failed lack (stops.BadLine line) fails counts none = absurd fails
  unkept_rests failed lack stops.ReadFault fails counts none = absurd fails
  unkept_rests failed lack stops.WriteFault fails counts none = absurd fails
  unkept_rests failed lack stops.Spent fails counts none = absurd fails

-- jobs don't finish so
pub unfinished : (stop : Stop) → unkept stop ≡ jobs_stop.Finished → ⊥
unfinished (stops.DiskFault offer) is = absurd (cc)
unfinished stops.NoMemory is = absurd (cc)
unfinished stops.Finished is = absurd (cc)
unfinished (stops.BadLine line) is = absurd (cc)
unfinished stops.ReadFault is = absurd (cc)
unfinished stops.WriteFault is = absurd (cc)
unfinished stops.Spent is = absurd (cc)
