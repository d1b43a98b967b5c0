-- The steps behind the jobs of a plan, put together.
use Rattle.std.proofs.Common.{zero, suc, ◌≡◌, ◌⊎◌, inl, inr, ⊎_elim, ℕ, ◌<◌, ◌≤◌, Bool, List, sym, ◌∙◌, subst, arith}
use Rattle.device_facts.specs.Count.{Calm, Counted, counted, Rose}
use Rattle.office_door.specs.Doors.{FailedSoOften}
use Rattle.text_streams.specs.Streams.{Stream}
use Rattle.job_reports.specs.declared.stop.JobsStop.{JobsStop}
use Rattle.job_reports.specs.declared.stop.JobsStop.TheVariants.{Finished, WriteFault, DiskFault, NoMemory}
use Rattle.serve_run.specs.Jobs.{Handed}
use Rattle.serve_run.specs.Plans.{CountsRest, Says}
use Rattle.serve_run.specs.Serving.{CountsJobs, SaysJobs, SparesJobs, some_lack}

-- all was said behind jobs that stopped so
module _ (old new failed : ℕ) (lack : Bool) (before now : Stream) (text : List ℕ)
    (kept : JobsStop) (counts : CountsRest old new failed lack kept) where
  -- where it went out, it stops as was kept
  as_kept : (stop : JobsStop) → stop ≡ kept → CountsRest old new failed lack stop
  as_kept stop same = subst (CountsRest old new failed lack) (sym same) counts

  pub says_jobs : {L O : Type 0} (handed : Handed L O) → lack ≡ some_lack handed
      → (stop : JobsStop) → Says before now text kept stop
      → SaysJobs before now text failed handed stop
  says_jobs handed lacks Finished says =
      let is = as_kept Finished says.1 in (says.0, is.1, sym lacks ∙ is.2)
  says_jobs handed lacks WriteFault says = says
  says_jobs handed lacks DiskFault says = says.0
  says_jobs handed lacks NoMemory says = (says.0, (as_kept NoMemory says.1).1)

  -- ---- the disk's count: as the jobs began, behind them, and at the end

  module _ (first : ℕ) (often : FailedSoOften first old failed) where
    -- where no caller was answered a fault it stayed
    calm_jobs : (n : ℕ) → FailedSoOften first old n → n ≡ 0 → old ≡ first
    calm_jobs zero same none = same
    calm_jobs (suc n) rises none = absurd (omega (arith, none))

    -- and else it rose
    rose_jobs : (n : ℕ) → FailedSoOften first old n → 0 < n → Rose first old
    rose_jobs zero same some = absurd (omega (arith, some))
    rose_jobs (suc n) rises some = omega (arith, rises)

    -- as often as they were answered one, it failed at least
    pub at_least : (n : ℕ) → FailedSoOften first old n → (new ≡ old) ⊎ Counted old new 1
        → counted first n ≤ new
    at_least zero same rests =
        ⊎_elim (λ is. omega (arith, same, is)) (λ is. omega (arith, same, is)) rests
    at_least (suc n) rises rests =
        ⊎_elim (λ is. omega (arith, rises, is)) (λ is. omega (arith, rises, is)) rests

    rose_by : Counted old new 1 → (n : ℕ) → FailedSoOften first old n → Rose first new
    rose_by rises zero same = omega (arith, same, rises)
    rose_by rises (suc n) more = omega (arith, more, rises)

    rose_then : Counted old new 1 → Rose first new
    rose_then rises = rose_by rises failed often

    rests_of : (k : JobsStop) → CountsRest old new failed lack k → (new ≡ old) ⊎ Counted old new 1
    rests_of Finished is = inl is.0
    rests_of WriteFault is = absurd is
    rests_of DiskFault is = ⊎_elim (λ some. inl some.1) (λ rises. inr rises) is
    rests_of NoMemory is = inl is.0

    pub rests : (new ≡ old) ⊎ Counted old new 1
    rests = rests_of kept counts

    rose_at : CountsRest old new failed lack DiskFault → Rose first new
    rose_at is = ⊎_elim
        (λ some. subst (Rose first) (sym some.1) (rose_jobs failed often some.0)) rose_then is

    stays_or_rose : (k : JobsStop) → CountsRest old new failed lack k
        → (new ≡ first) ⊎ Rose first new
    stays_or_rose Finished is = inl (is.0 ∙ calm_jobs failed often is.1)
    stays_or_rose WriteFault is = absurd is
    stays_or_rose DiskFault is = inr (rose_at is)
    stays_or_rose NoMemory is = inl (is.0 ∙ calm_jobs failed often is.1)

    -- so the stop tells it
    pub counts_jobs : (stop : JobsStop) → Says before now text kept stop
        → CountsJobs first new stop
    counts_jobs Finished says =
        let is = as_kept Finished says.1 in is.0 ∙ calm_jobs failed often is.1
    counts_jobs WriteFault says = stays_or_rose kept counts
    counts_jobs DiskFault says = rose_at (as_kept DiskFault says.1)
    counts_jobs NoMemory says =
        let is = as_kept NoMemory says.1 in is.0 ∙ calm_jobs failed often is.1

    -- where the disk didn't fail, no caller was answered that it did
    rests_spared : (k : JobsStop) → CountsRest old new failed lack k → Calm first new
        → failed ≡ 0
    rests_spared Finished is calm = is.1
    rests_spared WriteFault is calm = absurd is
    rests_spared DiskFault is calm = absurd (let rose : Rose first new = rose_at is in
        omega (arith, rose, calm))
    rests_spared NoMemory is calm = is.1

    pub spared : (stop : JobsStop) → Says before now text kept stop → SparesJobs first new stop
        → failed ≡ 0
    spared Finished says spares = (as_kept Finished says.1).1
    spared WriteFault says spares = rests_spared kept counts spares
    spared DiskFault says spares = absurd spares
    spared NoMemory says spares = (as_kept NoMemory says.1).1

    -- at a whole end all was done, and nothing was answered by a fault
    pub finished : (stop : JobsStop) → Says before now text kept stop → stop ≡ Finished
        → (kept ≡ Finished) × (failed ≡ 0)
    finished Finished says same =
        let is = as_kept Finished says.1 in (sym says.1, is.1)
    finished WriteFault says same = absurd (let no_so : WriteFault ≡ Finished = same in cc)
    finished DiskFault says same = absurd (let no_so : DiskFault ≡ Finished = same in cc)
    finished NoMemory says same = absurd (let no_so : NoMemory ≡ Finished = same in cc)
