-- Jobs that ran at once over a legal book make one history.
use Rattle.std.proofs.Common.{◌≡◌, ◌≢◌, ℕ, ◌+◌, min, List, length, map, drop, All, AllPairs, Contains, sum_by, sym, ◌∙◌, ap, subst}
use Rattle.std.proofs.lemmas.List.Elements.{All-weaker}
use Rattle.disk_core.specs.declared.source.Source as source
use Rattle.disk_core.specs.declared.door.Door as door
use Rattle.book_words.specs.declared.act.Entry.{Entry}
use Rattle.book_words.specs.Answers.{IsLegal}
use Rattle.book_words.specs.Callers.{Known, FAULTS_END}
use Rattle.book_words.specs.Desks.{Row}
use Rattle.book_laws.proofs.MoveLaws.{balanced}
use Rattle.book_laws.proofs.VerdictLaws.{verdicts_stay}
use Rattle.lane_worker.specs.declared.cell.Cell as cell
use Rattle.lane_worker.specs.declared.gate.Gate as gate
use Rattle.lane_worker.specs.Works as lanes
use Rattle.office_door.specs.Doors as doors
use Rattle.session_jobs.specs.declared.work.Work.{Work}
use Rattle.session_jobs.specs.Runs.{HaveRun, Run}
use Rattle.session_jobs.specs.Works.{door_site, lane_site, number_of}
use Rattle.session_history.specs.Deeds.{Share, DidSo, OfEach, caller_of, faults_of}
use Rattle.session_history.specs.Histories.{OneHistory}
use Rattle.session_history.specs.Gates.{OpensRight}
use Rattle.session_history.specs.Replies.{RepliesRight, NamesWhatWasSeen, TellsVerdicts}
use Rattle.session_history.specs.Rows.{AddsActs, AddsItsRows, HaveOwnNumbers, NobodyElse, StandsIn, acknowledged, rows_added}
use Rattle.session_history.proofs.JobShares.{AreShares, IsHeldShare, shares_of}
use Rattle.session_history.proofs.ManyLists.{all_flat, length_flat, map_twice, pairs_flat, pairs_of_map, sum_map, sum_same, sum_up_to}
use Rattle.session_history.proofs.OwnRows.{StandsAs, added_apart, added_stand, apart_by}
use Rattle.book_store.specs.Callers.{own_rows}

module _ {L O : Type 0} (weighs : cell.Ghosts L) (lifts : gate.Ghosts L) (reads : source.Ghosts O)
    (comes : door.Ghosts O) (limit spare : ℕ) (before rows : List Entry) (failed : ℕ)
    (was now : List (Work L O)) where
  abbrev lane_at : Known → L → lanes.Site
  lane_at = lane_site weighs lifts

  abbrev door_at : Known → O → doors.Site
  door_at = door_site reads comes

  module _ (apart : AllPairs (λ (v w : Work L O). number_of v ≢ number_of w) was)
      (ran : HaveRun lane_at door_at limit spare before rows failed was now) (legal : IsLegal rows) where
    made : AreShares weighs lifts reads comes limit spare before rows legal
        ran.runs
    made = shares_of weighs lifts reads comes limit spare before rows legal
        ran.runs ran.each

    abbrev IsHere : Share L O → Type 0
    IsHere = IsHeldShare weighs lifts reads comes limit spare before rows legal

    -- what follows of each share
    of_each : (K : Share L O → Type 0) → ((s : Share L O) → IsHere s → K s) → All K made.shares
    of_each K from = All-weaker IsHere K from made.shares made.held

    jobs_before : map (λ (s : Share L O). s.run.was) made.shares ≡ was
    jobs_before = sym (map_twice (λ (r : Run L O). r.was) (λ (s : Share L O). s.run) made.shares)
        ∙ (ap (map (λ (r : Run L O). r.was)) made.runs_are ∙ ran.jobs_before)

    jobs_behind : map (λ (s : Share L O). s.run.now) made.shares ≡ now
    jobs_behind = sym (map_twice (λ (r : Run L O). r.now) (λ (s : Share L O). s.run) made.shares)
        ∙ (ap (map (λ (r : Run L O). r.now)) made.runs_are ∙ ran.jobs_behind)

    callers : map caller_of made.shares ≡ map number_of was
    callers = sym (map_twice number_of (λ (s : Share L O). s.run.was) made.shares)
        ∙ ap (map number_of) jobs_before

    -- a sum over runs is that over shares
    sum_runs : (f : Run L O → ℕ)
        → sum_by f ran.runs ≡ sum_by (λ (s : Share L O). f s.run) made.shares
    sum_runs f = ap (sum_by f) (sym made.runs_are)
        ∙ sum_map f (λ (s : Share L O). s.run) made.shares

    -- ---- rows

    others : NobodyElse before rows made.shares
    others = subst
        (λ (bys : List ℕ). All (λ (e : Entry). Contains bys e.by) (drop (length before) rows))
        (sym callers) ran.others

    own : OfEach (AddsItsRows before rows) made.shares
    own = of_each (λ s. AddsItsRows before rows (caller_of s) s.did) (λ s h. h.own)

    callers_apart : AllPairs (λ (s t : Share L O). caller_of s ≢ caller_of t) made.shares
    callers_apart = pairs_of_map (λ (v w : Work L O). number_of v ≢ number_of w)
        (λ (s : Share L O). s.run.was) made.shares
        (subst (AllPairs (λ (v w : Work L O). number_of v ≢ number_of w)) (sym jobs_before) apart)

    stands_as : (s : Share L O) → AddsItsRows before rows (caller_of s) s.did
        → All (StandsAs rows (caller_of s)) (rows_added s.did)
    stands_as s is = added_stand (caller_of s) rows (own_rows (caller_of s) before)
        (rows_added s.did) is

    stand : All (StandsIn rows) (acknowledged made.shares)
    stand = all_flat (StandsIn rows) (λ (s : Share L O). rows_added s.did) made.shares
        (of_each (λ s. All (StandsIn rows) (rows_added s.did))
        (λ s h. All-weaker (StandsAs rows (caller_of s)) (StandsIn rows) (λ r is. is.stands)
        (rows_added s.did) (stands_as s h.own)))

    once : HaveOwnNumbers (acknowledged made.shares)
    once = pairs_flat (λ (r s : Row). r.number ≢ s.number)
        (λ (s t : Share L O). caller_of s ≢ caller_of t)
        (λ (s : Share L O). AddsItsRows before rows (caller_of s) s.did)
        (λ (s : Share L O). rows_added s.did)
        (λ s t one two differ k d inside j e within.
        apart_by rows (caller_of s) (caller_of t) differ _ _ (stands_as s one k d inside)
        (stands_as t two j e within))
        made.shares own
        (of_each (λ s. AllPairs (λ (r s : Row). r.number ≢ s.number) (rows_added s.did))
        (λ s h. added_apart (caller_of s) rows (own_rows (caller_of s) before) (rows_added s.did)
        h.own))
        callers_apart

    total : length rows ≡ length before + length (acknowledged made.shares)
    total = ran.total
        ∙ ap (λ n. length before + n)
        (sum_runs (λ r. length r.known.mine)
        ∙ (sum_same (λ (s : Share L O). length s.run.known.mine)
        (λ (s : Share L O). length (rows_added s.did)) made.shares
        (of_each (λ s. length s.run.known.mine ≡ length (rows_added s.did))
        (λ s h. ap length h.mine))
        ∙ sym (length_flat (λ (s : Share L O). rows_added s.did) made.shares)))

    faults : failed ≡ min (sum_by (λ (s : Share L O). faults_of s.did) made.shares) FAULTS_END
    faults = ran.faults
        ∙ (ap (λ n. min n FAULTS_END) (sum_runs (λ r. r.known.faults))
        ∙ sum_up_to (λ (s : Share L O). s.run.known.faults)
        (λ (s : Share L O). faults_of s.did) FAULTS_END made.shares
        (of_each (λ s. min s.run.known.faults FAULTS_END ≡ min (faults_of s.did) FAULTS_END)
        (λ s h. h.counted)))

    -- Jobs that ran at once, each with a number of its own, over rows that are legal, make one
    -- history of them.
    pub one_history : OneHistory lane_at door_at limit spare before rows failed was now
    one_history =
        record {
          shares = made.shares;
          jobs_before = jobs_before;
          jobs_behind = jobs_behind;
          deeds = of_each (DidSo lane_at door_at limit before) (λ s h. h.done);
          legal = legal;
          begins = ran.begins;
          own = own;
          acts = of_each (λ s. AddsActs before rows (caller_of s) s.did) (λ s h. h.acts);
          others = others;
          replies = of_each
              (λ s. RepliesRight limit (spare + length before) rows (caller_of s) s.did)
              (λ s h. h.replies);
          places = of_each (λ s. NamesWhatWasSeen before rows (caller_of s) s.did)
              (λ s h. h.places);
          stand = stand;
          once = once;
          total = total;
          piles = balanced rows;
          verdicts = verdicts_stay rows legal;
          closings = of_each (λ s. TellsVerdicts rows (caller_of s) s.did) (λ s h. h.closings);
          gates = of_each (λ s. OpensRight rows (caller_of s) s.did) (λ s h. h.gates);
          faults = faults;
        }
