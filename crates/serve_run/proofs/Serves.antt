-- A whole `serve`, from what comes before its jobs and from what these come to.
use Rattle.std.proofs.Common.{◌≡◌, ◌⊎◌, inl, inr, ⊎_elim, ℕ, ◌+◌, ◌<◌, ◌≤◌, Bool, List, length, Option, None, Ok, Err, refl, sym, ap, ◌∙◌, subst, arith, length-append}
use Rattle.std.proofs.lemmas.Bool.{cases_lt}
use Rattle.device_facts.specs.Count.{counted, Counted}
use Rattle.device_facts.specs.Prefix.{IsPrefixOf}
use Rattle.disk_core.specs.declared.disk.Disk as disk
use Rattle.book_words.specs.declared.act.Entry.{Entry}
use Rattle.book_words.specs.Callers.{Known}
use Rattle.book_store.proofs.KeptLemmas.{begins_on}
use Rattle.book_store.specs.declared.store.Store.{Store}
use Rattle.book_store.specs.Stores.{disk_of, entries_of, held_of, limit_of, spare_of, Hangs}
use Rattle.hall_plan.specs.declared.types.Plan.{Plan}
use Rattle.hall_plan.specs.declared.types.PlannedLane.{PlannedLane}
use Rattle.lane_worker.specs.Works as lanes
use Rattle.office_door.specs.Doors as doors
use Rattle.office_door.specs.Doors.{FailedSoOften}
use Rattle.session_history.specs.Histories.{OneHistory}
use Rattle.session_jobs.specs.declared.begin.JobsEnd.{JobsEnd}
use Rattle.session_jobs.specs.Runs.{HaveRun}
use Rattle.session_jobs.specs.Sessions.{KeepsRun, RestsOnDisk}
use Rattle.setup_run.specs.declared.planning.NoPlan.{NoPlan}
use Rattle.setup_run.specs.declared.planning.NoPlan.TheVariants as no_plan
use Rattle.setup_run.specs.PlanReading.{ReadsNoPlan, ReadsPlan}
use Rattle.setup_run.specs.Setups.{IsSetUp}
use Rattle.store_runs.specs.declared.stop.Stop.{Stop}
use Rattle.store_runs.specs.declared.stop.Stop.TheVariants as stops
use Rattle.store_runs.specs.Books.{BookState, stored_book}
use Rattle.store_runs.specs.Runs.{CountsStep, Goes, HasAddedRows, HasGrown}
use Rattle.store_runs.proofs.StoreSteps.{goes_with, stays}
use Rattle.text_streams.specs.Streams.{Stream}
use Rattle.serve_run.specs.declared.prepare.Prepared.{Prepared}
use Rattle.serve_run.specs.declared.prepare.Unprepared.{Unprepared}
use Rattle.serve_run.specs.declared.serve.ServeEnd.{ServeEnd}
use Rattle.job_reports.specs.declared.stop.JobsStop.{JobsStop}
use Rattle.job_reports.specs.declared.stop.ServeStop.{ServeStop}
use Rattle.job_reports.specs.declared.stop.ServeStop.TheVariants.{BadPlan, Early, Ran}
use Rattle.serve_run.specs.Jobs.{Handed, jobs_of}
use Rattle.serve_run.specs.Keeping.{RanOver, ServeGoes}
use Rattle.serve_run.specs.Plans.{EndsPlan, IsFinished, RunsPlan, end_handed}
use Rattle.serve_run.specs.Preparing.{IsPreparedFor, IsUnpreparedFor, StopsPlan, WhyUnprepared, unplanned_stop}
use Rattle.serve_run.specs.Serving.{CountsJobs, ExplainsServe, HasRunPlan, Moment, SaysJobs, SparesJobs, moment, serve_text, some_lack}
use Rattle.serve_run.proofs.RunLemmas.{rests_kept, run_kept}
use Rattle.serve_run.proofs.ServeLemmas.{at_least, counts_jobs, finished, rests, says_jobs, spared}

-- a plan whose setup stopped, or for which there was no room
pub unprepared : {D : Type 0} (g : disk.Ghosts D) (store left : Store D) (plan : Plan) (count : ℕ)
    (before now : Stream) → ReadsPlan count before now plan → (stop : ServeStop)
    → StopsPlan g store plan left stop
    → IsUnpreparedFor g store count before now (record { store = left; stop = stop })
unprepared g store left plan count before now read BadPlan stops = absurd stops
unprepared g store left plan count before now read (Ran stop) stops = absurd stops
unprepared g store left plan count before now read (Early stop) stops = record {
  goes = stops.0;
  why = ⊎_elim
      (λ none. inr (inr (none.0, record { plan = plan; read = read; asked = none.1 })))
      (λ set_up. inr (inl (record { plan = plan; read = read; stops = set_up }))) stops.1;
}

-- an input that gives no plan
pub planless : {D : Type 0} (g : disk.Ghosts D) (store : Store D) (count : ℕ) (before now : Stream)
    (why : NoPlan) → ReadsNoPlan count before now why
    → IsUnpreparedFor g store count before now (record { store = store; stop = unplanned_stop why })
planless g store count before now no_plan.BadPlan reads =
    record { goes = refl; why = (refl, reads) }
planless g store count before now no_plan.ReadFault reads = record {
  goes = stays {T = Unit {0}} g (Err stops.ReadFault) store refl
      (λ finished. absurd (let never : Err stops.ReadFault ≡ Err stops.Finished = finished in cc));
  why = inl (reads, refl);
}
planless g store count before now no_plan.NoMemory reads = record {
  goes = stays {T = Unit {0}} g (Err stops.NoMemory) store refl
      (λ finished. absurd (let never : Err stops.NoMemory ≡ Err stops.Finished = finished in cc));
  why = inl (reads, refl);
}

module _ {L O : Type 0} (lane_at : Known → L → lanes.Site) (door_at : Known → O → doors.Site)
  where
    -- where no job ran, nothing went out
    pub explains_early : (book : BookState) (before now : Moment L O) (rows : List Entry)
        (stop : ServeStop) → now.output ≡ before.output → now.handed ≡ before.handed
        → WhyUnprepared book (length before.handed.lanes) before.input now.input rows stop
        → ExplainsServe lane_at door_at book before now rows stop
    explains_early book before now rows BadPlan silent idle why =
        (record { silent = silent; idle = idle }, why.0, why.1)
    explains_early book before now rows (Early stop) silent idle why =
        (record { silent = silent; idle = idle }, why)
    explains_early book before now rows (Ran stop) silent idle why = absurd why

    module _ {D : Type 0} (g : disk.Ghosts D) (store : Store D) (given : Handed L O) (before now : Stream)
        (prepared : Prepared D)
        (is : IsPreparedFor g store (length given.lanes) before now prepared) where
      abbrev left : Store D
      left = prepared.store

      -- nothing failed until then
      same_faults : g.faults (disk_of left) ≡ g.faults (disk_of store)
      same_faults = is.set_up.goes.cause

      limits : limit_of left ≡ limit_of store
      limits = is.set_up.goes.limit

      module _ (out_before out_now : Stream) (end : ServeEnd D L O) where
        abbrev moment_before : Moment L O
        moment_before = moment before out_before (g.faults (disk_of store)) given

        abbrev moment_now : Moment L O
        moment_now = moment now out_now (g.faults (disk_of end.store)) (end_handed end)

        runs_whole : (stop : JobsStop)
            → RunsPlan g lane_at door_at left prepared.lanes given out_before out_now end stop
            → HasRunPlan lane_at door_at (stored_book store) moment_before moment_now
            (entries_of end.store) stop
        runs_whole stop ran =
            let plan = is.plan in
            let rows = entries_of end.store in
            record {
              plan = plan;
              read = is.read;
              set_up = entries_of left;
              asked = is.set_up.asked;
              spare = spare_of left;
              room = is.set_up.room;
              jobs = ran.jobs;
              failed = ran.failed;
              ran = subst (λ (n : ℕ). HaveRun lane_at door_at n (spare_of left) (entries_of left) rows
                  ran.failed (jobs_of plan.lanes given.lanes given.doors) ran.jobs) limits
                  (subst (λ (ps : List PlannedLane). HaveRun lane_at door_at (limit_of left)
                  (spare_of left) (entries_of left) rows ran.failed (jobs_of ps given.lanes given.doors) ran.jobs)
                  is.set_up.lanes ran.ran);
              history = subst (λ (n : ℕ). OneHistory lane_at door_at n (spare_of left)
                  (entries_of left) rows ran.failed
                  (jobs_of plan.lanes given.lanes given.doors) ran.jobs) limits
                  (subst (λ (ps : List PlannedLane). OneHistory lane_at door_at (limit_of left)
                  (spare_of left) (entries_of left) rows ran.failed (jobs_of ps given.lanes given.doors) ran.jobs)
                  is.set_up.lanes ran.history);
              back = ran.back;
              faults = subst (λ (n : ℕ). counted n ran.failed ≤ g.faults (disk_of end.store))
                  same_faults ran.faults;
              says = ran.says;
            }

        pub explains_jobs : (stop : ServeStop)
            → EndsPlan g lane_at door_at left prepared.lanes given out_before out_now end stop
            → ExplainsServe lane_at door_at (stored_book store) moment_before moment_now
            (entries_of end.store) stop
        explains_jobs BadPlan ends = absurd ends
        explains_jobs (Early stop) ends = explains_early (stored_book store) moment_before moment_now
            (entries_of end.store) (Early stop) ends.silent ends.handed
            (inr (inr (
              ends.why,
              record {
                plan = is.plan;
                read = is.read;
                asked = subst (λ (s : Store D). IsSetUp (stored_book store) is.plan.setup (entries_of s))
                    (sym ends.store_left) is.set_up.asked;
              },
            )))
        explains_jobs (Ran stop) ends = runs_whole stop ends

        pub goes_jobs : (stop : ServeStop)
            → EndsPlan g lane_at door_at left prepared.lanes given out_before out_now end stop
            → ServeGoes g store end.store stop
        goes_jobs BadPlan ends = absurd ends
        goes_jobs (Early stop) ends =
            subst (λ (s : Store D). Goes {T = Unit {0}} g (Err stop) store s) (sym ends.store_left)
            (subst (λ (s : Stop). Goes {T = Unit {0}} g (Err s) store left) (sym ends.why)
            (goes_with g tt (Err stops.NoMemory) store left is.set_up.goes is.set_up.goes.cause
            (λ finished. absurd (let never : Err stops.NoMemory ≡ Err stops.Finished = finished in cc))))
        goes_jobs (Ran stop) ends =
            let over = ends.over in
            let goes = is.set_up.goes in
            record {
              limit = over.limit ∙ limits;
              begins = begins_on (entries_of store) (entries_of left) (entries_of end.store)
                  goes.begins over.begins;
              cause = subst (λ (n : ℕ). CountsJobs n (g.faults (disk_of end.store)) stop) same_faults
                  over.cause;
              kept = λ held start same has.
                  over.kept held start (same_faults ∙ same) (goes.kept held start has);
              snapshot = λ finished grown. over.snapshot finished
                  (subst (λ (n : ℕ). HasGrown n (entries_of end.store)) (sym goes.held) grown);
              still = λ spares many small.
                  let before_jobs : length (entries_of left)
                  ≡ length (entries_of store) + length goes.begins.0 =
                  ap length goes.begins.1 ∙ length-append (entries_of store) goes.begins.0 in
                  let at_end : length (entries_of end.store)
                  ≡ length (entries_of left) + length over.begins.0 =
                  ap length over.begins.1 ∙ length-append (entries_of left) over.begins.0 in
                  over.still
                  (subst (λ (n : ℕ). SparesJobs n (g.faults (disk_of end.store)) stop)
                  (sym same_faults) spares)
                  (omega (arith, goes.held, many, before_jobs))
                  (subst (λ (n : ℕ). ¬ HasGrown n (entries_of end.store)) (sym goes.held) small)
                  ∙ ap g.reads (goes.still tt many
                  (λ added. small (omega (arith, added, goes.held, at_end))));
            }

no_more : (opened rows before : ℕ) → ¬ (opened < rows) → opened ≤ before → rows ≤ before
no_more opened rows before few many = ⊎_elim
    (λ grown. absurd (few grown)) (λ least. omega (arith, least, many)) (cases_lt opened rows)

-- the jobs of a plan, from their run to what is said behind them
module _ {D L O : Type 0} (g : disk.Ghosts D) (lane_at : Known → L → lanes.Site)
    (door_at : Known → O → doors.Site) (store : Store D) (planned : List PlannedLane)
    (given : Handed L O) (before now : Stream) (end : ServeEnd D L O) (jobs : JobsEnd D L O)
    (held : held_of jobs.store ≡ held_of store) (fin : IsFinished g jobs before now end)
    (ran : HaveRun lane_at door_at (limit_of store) (spare_of store) (entries_of store)
    (entries_of jobs.store) jobs.faults (jobs_of planned given.lanes given.doors) jobs.jobs.items)
    (history : OneHistory lane_at door_at (limit_of store) (spare_of store) (entries_of store)
    (entries_of jobs.store) jobs.faults (jobs_of planned given.lanes given.doors) jobs.jobs.items)
    (often : FailedSoOften (g.faults (disk_of store)) (g.faults (disk_of jobs.store)) jobs.faults)
    (settled : jobs.faults ≡ 0 → ¬ Hangs jobs.store) (limit : limit_of jobs.store ≡ limit_of store)
    (kept : RestsOnDisk g store → (held : List Entry) (start : D)
    → KeepsRun g held start store → KeepsRun g held start jobs.store)
    (stays : jobs.faults ≡ 0 → length (entries_of jobs.store) ≤ length (entries_of store)
    → g.reads (disk_of jobs.store) ≡ g.reads (disk_of store)) where
  abbrev first : ℕ
  first = g.faults (disk_of store)

  abbrev old : ℕ
  old = g.faults (disk_of jobs.store)

  abbrev new : ℕ
  new = g.faults (disk_of end.store)

  abbrev lack : Bool
  lack = some_lack (end_handed end)

  abbrev text : List ℕ
  text = serve_text jobs.jobs.items (entries_of jobs.store)

  rests_in : (new ≡ old) ⊎ Counted old new 1
  rests_in = rests old new jobs.faults lack before now text fin.kept fin.rests.counts first often

  runs_over : RanOver g store end.store fin.stop
  runs_over = record {
    limit = fin.rests.limit ∙ limit;
    begins = subst (λ (es : List Entry). IsPrefixOf (entries_of store) es) (sym fin.rests.same)
        ran.begins;
    cause = counts_jobs old new jobs.faults lack before now text fin.kept fin.rests.counts first
        often fin.stop fin.says;
    kept = λ held start same has. fin.rests.kept held start
        (kept (rests_kept g held start store has) held start
        (run_kept g held start store has same));
    snapshot = λ finished_so grown.
        let all = finished old new jobs.faults lack before now text fin.kept fin.rests.counts first
        often fin.stop fin.says finished_so in
        fin.rests.snapshot all.0 (settled all.1)
        (subst (λ (es : List Entry). HasGrown (held_of jobs.store) es) fin.rests.same
        (subst (λ (n : ℕ). HasGrown n (entries_of end.store)) (sym held) grown));
    still = λ spares many small.
        let few : ¬ HasAddedRows jobs.store =
        λ grown. small (subst (λ (n : ℕ). HasGrown n (entries_of end.store)) held
        (subst (λ (es : List Entry). HasGrown (held_of jobs.store) es) (sym fin.rests.same) grown)) in
        ap g.reads (fin.rests.untouched (inr (inr few)))
        ∙ stays (spared old new jobs.faults lack before now text fin.kept fin.rests.counts first
        often fin.stop fin.says spares)
        (no_more (held_of jobs.store) (length (entries_of jobs.store)) (length (entries_of store)) few
        (omega (arith, many, held)));
  }

  pub runs_plan : RunsPlan g lane_at door_at store planned given before now end fin.stop
  runs_plan = record {
    jobs = jobs.jobs.items;
    failed = jobs.faults;
    ran = subst (λ (es : List Entry). HaveRun lane_at door_at (limit_of store) (spare_of store)
        (entries_of store) es jobs.faults (jobs_of planned given.lanes given.doors) jobs.jobs.items)
        (sym fin.rests.same) ran;
    history = subst (λ (es : List Entry). OneHistory lane_at door_at (limit_of store)
        (spare_of store) (entries_of store) es jobs.faults (jobs_of planned given.lanes given.doors)
        jobs.jobs.items) (sym fin.rests.same) history;
    back = fin.back;
    faults = at_least old new jobs.faults lack before now text fin.kept fin.rests.counts first often
        jobs.faults often rests_in;
    says = subst (λ (es : List Entry). SaysJobs before now (serve_text jobs.jobs.items es)
        jobs.faults (end_handed end) fin.stop) (sym fin.rests.same)
        (says_jobs old new jobs.faults lack before now text fin.kept fin.rests.counts
        (end_handed end) refl fin.stop fin.says);
    over = runs_over;
  }
