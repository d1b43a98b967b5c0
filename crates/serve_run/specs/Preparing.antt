-- What comes before the jobs of a plan.
use Rattle.std.specs.Prelude.{◌≡◌, ◌⊎◌, ⊤, ℕ, ◌≤◌, List, Ok}
use Rattle.disk_core.specs.declared.disk.Disk as disk
use Rattle.book_words.specs.declared.act.Entry.{Entry}
use Rattle.book_store.specs.declared.store.Store.{Store}
use Rattle.book_store.specs.Stores.{entries_of, spare_of, IsSound}
use Rattle.hall_plan.specs.declared.types.Plan.{Plan}
use Rattle.hall_plan.specs.Limits.{IsWithinLimits}
use Rattle.setup_run.specs.declared.planning.NoPlan.{NoPlan}
use Rattle.setup_run.specs.declared.planning.NoPlan.TheVariants as no_plan
use Rattle.setup_run.specs.PlanReading.{ReadsPlan, ReadsNoPlan}
use Rattle.setup_run.specs.Setups.{IsSetUp, StopsInSetup}
use Rattle.store_runs.specs.declared.stop.Stop.TheVariants as stops
use Rattle.store_runs.specs.declared.stop.Stop.{Stop}
use Rattle.store_runs.specs.Books.{BookState, stored_book}
use Rattle.store_runs.specs.Runs.{Goes, RunGoes}
use Rattle.text_streams.specs.Streams.{Stream}
use Rattle.serve_run.specs.declared.prepare.Prepared.{Prepared}
use Rattle.serve_run.specs.declared.prepare.Unprepared.{Unprepared}
use Rattle.job_reports.specs.declared.stop.ServeStop.{ServeStop}
use Rattle.job_reports.specs.declared.stop.ServeStop.TheVariants.{BadPlan, Early, Ran}
use Rattle.serve_run.specs.Serving.{IsStoppedEarly}
use Rattle.serve_run.specs.Keeping.{ServeGoes}

-- how it stops where there is no plan
abbrev pub unplanned_stop : NoPlan → ServeStop
unplanned_stop no_plan.BadPlan = BadPlan
unplanned_stop no_plan.ReadFault = Early stops.ReadFault
unplanned_stop no_plan.NoMemory = Early stops.NoMemory

-- the setup of a plan was asked over a store, which is sound and goes on, and has room for as many
-- rows as the plan reserves; and here are its lanes
pub record IsSetUpFor {D : Type 0} (disk : disk.Ghosts D) (store : Store D) (plan : Plan)
    (prepared : Prepared D) : Type 0 where
  pub asked : IsSetUp (stored_book store) plan.setup (entries_of prepared.store)
  pub lanes : prepared.lanes ≡ plan.lanes
  pub goes : Goes {T = ⊤} disk (Ok tt) store prepared.store
  pub sound : IsSound disk prepared.store
  pub room : plan.reserve ≤ spare_of prepared.store

-- a plan was read whole, and its setup was asked
pub record IsPreparedFor {D : Type 0} (disk : disk.Ghosts D) (store : Store D) (count : ℕ)
    (before now : Stream) (prepared : Prepared D) : Type 0 where
  pub plan : Plan
  pub read : ReadsPlan count before now plan
  pub limits : IsWithinLimits count plan
  pub set_up : IsSetUpFor disk store plan prepared

-- the setup of a plan stopped, or there was no room for its rows
abbrev pub StopsPlan : {D : Type 0} → disk.Ghosts D → Store D → Plan → Store D → ServeStop → Type 0
StopsPlan disk store plan left (Early stop) = RunGoes disk stop store left
    × (((stop ≡ stops.NoMemory) × IsSetUp (stored_book store) plan.setup (entries_of left))
    ⊎ StopsInSetup (stored_book store) plan.setup (entries_of left) stop)
StopsPlan disk store plan left _ = ⊥

-- why nothing was prepared, as it is told by how it stopped
abbrev pub WhyUnprepared : BookState → ℕ → Stream → Stream → List Entry → ServeStop → Type 0
WhyUnprepared book count before now rows BadPlan =
    (rows ≡ book.entries) × ReadsNoPlan count before now no_plan.BadPlan
WhyUnprepared book count before now rows (Early stop) =
    IsStoppedEarly book count before now rows stop
WhyUnprepared book count before now rows (Ran stop) = ⊥

-- nothing was prepared: no job is to run over the store that is left
pub record IsUnpreparedFor {D : Type 0} (disk : disk.Ghosts D) (store : Store D) (count : ℕ)
    (before now : Stream) (unprepared : Unprepared D) : Type 0 where
  pub goes : ServeGoes disk store unprepared.store unprepared.stop
  pub why : WhyUnprepared (stored_book store) count before now (entries_of unprepared.store)
      unprepared.stop
