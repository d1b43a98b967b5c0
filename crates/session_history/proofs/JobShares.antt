-- What each job did, and that all of it is so in the rows that the session leaves.
use Rattle.std.proofs.Common.{◌≡◌, ℕ, ◌+◌, min, List, [], ◌∷◌, ◌++◌, length, map, All, Option, Some, None, refl, sym, ◌∙◌, ap, arith}
use Rattle.std.specs.List.{sum_by}
use Rattle.std.proofs.lemmas.List.Elements.{All-cons, All-head, All-nil, All-tail}
use Rattle.device_facts.specs.Prefix.{IsPrefixOf}
use Rattle.hall_limits.specs.declared.TheConstants.{MAX_LANE}
use Rattle.disk_core.specs.declared.source.Source as source
use Rattle.disk_core.specs.declared.door.Door as door
use Rattle.book_words.specs.declared.name.Name.{Name}
use Rattle.book_words.specs.declared.act.Entry.{Entry}
use Rattle.book_words.specs.Answers.{IsLegal}
use Rattle.book_words.specs.Callers.{Known, FAULTS_END}
use Rattle.book_laws.proofs.VerdictLaws.{verdicts_stay}
use Rattle.book_store.specs.Callers.{own_rows}
use Rattle.lane_worker.specs.declared.cell.Cell as cell
use Rattle.lane_worker.specs.declared.gate.Gate as gate
use Rattle.lane_worker.specs.declared.ending.LaneStop.TheVariants as stop
use Rattle.lane_worker.specs.Endings.{faults_at}
use Rattle.lane_worker.specs.Works as lanes
use Rattle.lane_worker.specs.Works.{IsWork}
use Rattle.lane_changes.specs.declared.types.Next.TheVariants.{Waits}
use Rattle.lane_changes.specs.Changes.{HasChanged}
use Rattle.lane_changes.specs.Stints.{first_refused, weights_in}
use Rattle.office_door.specs.Doors as doors
use Rattle.office_door.specs.Doors.{all_exchanges}
use Rattle.office_door.specs.Exchanges.{disk_faults, places_of}
use Rattle.office_door.proofs.Prefixes.{prefix_itself}
use Rattle.session_jobs.specs.declared.work.DoorJob.{DoorJob}
use Rattle.session_jobs.specs.declared.work.LaneJob.{LaneJob}
use Rattle.session_jobs.specs.declared.work.Work.{Work}
use Rattle.session_jobs.specs.declared.work.Work.TheVariants.{Lane, Door}
use Rattle.session_jobs.specs.Runs.{BrokeBefore, BrokeBetween, HasRun, IsDoneBesideOthers, Run, AnyAsks, AnyBetween, newcomer}
use Rattle.session_jobs.specs.Works.{IsDoorDone, IsLaneDone, IsWorkedFor, door_site, lane_site, number_of}
use Rattle.session_history.specs.Deeds.{Deed, Worked, Changed, Served, DoorDeed, Share, HasDone, faults_of}
use Rattle.session_history.specs.Gates.{OpensRight}
use Rattle.session_history.specs.Replies.{RepliesRight, NamesWhatWasSeen, TellsVerdicts}
use Rattle.session_history.specs.Rows.{AddsActs, AddsItsRows, rows_added}
use Rattle.session_history.proofs.GrownAnswers.{all_answered_on, fall_on, prefix_short}
use Rattle.session_history.proofs.LaneWorks.{StartsAt, faults_told, stints_held, work_held}
use Rattle.session_history.proofs.ToldVerdicts.{all_told}

module _ {L O : Type 0} (weighs : cell.Ghosts L) (lifts : gate.Ghosts L) (reads : source.Ghosts O)
    (comes : door.Ghosts O) (limit spare : ℕ) (before rows : List Entry)
    (legal : IsLegal rows) where
  abbrev room : ℕ
  room = spare + length before

  abbrev lane_at : Known → L → lanes.Site
  lane_at = lane_site weighs lifts

  abbrev door_at : Known → O → doors.Site
  door_at = door_site reads comes

  -- all that a history says of one share
  pub record IsHeld (known : Known) (was now : Work L O) (did : Deed) : Type 0 where
    pub done : HasDone lane_at door_at (newcomer limit before (number_of was)) known was now did
    pub own : AddsItsRows before rows (number_of was) did
    pub acts : AddsActs before rows (number_of was) did
    pub replies : RepliesRight limit room rows (number_of was) did
    pub places : NamesWhatWasSeen before rows (number_of was) did
    pub closings : TellsVerdicts rows (number_of was) did
    pub gates : OpensRight rows (number_of was) did
    pub mine : known.mine ≡ rows_added did
    pub counted : min known.faults FAULTS_END ≡ min (faults_of did) FAULTS_END

  module _ (known : Known) (seen : IsPrefixOf known.seen rows) where
    module _ (was now : LaneJob L)
        (done : IsLaneDone AnyAsks
        (BrokeBefore AnyAsks room (newcomer limit before was.number) known) AnyBetween
        (BrokeBetween room) lane_at (newcomer limit before was.number) known was now)
        (own : own_rows was.number rows ≡ own_rows was.number before ++ known.mine) where
      abbrev first_site : lanes.Site
      first_site = lane_at (newcomer limit before was.number) was.lane

      abbrev last_site : lanes.Site
      last_site = lane_at known now.lane

      starts : StartsAt limit room before rows legal was.number first_site
      starts = record { begins = prefix_itself before; most = refl; by = refl; calm = refl }

      -- a lane was worked for the batch of its job
      worked : (batch : Name) → was.batch ≡ Some batch
          → IsWork AnyAsks (BrokeBefore AnyAsks room (newcomer limit before was.number) known)
          first_site last_site was.number batch done.end
          → (did : Deed) × IsHeld known (Lane was) (Lane now) did
      worked batch is_batch is =
          let one = work_held limit room before rows legal was.number first_site last_site batch
          done.end is starts seen in (
            Worked (record { batch = batch; work = is.work; end = done.end }),
            record {
              done = record {
                number = done.number;
                batch = is_batch;
                end = done.ended;
                given = one.devices.given;
                opened = one.devices.opened;
                done = one.devices.done;
              };
              own = own ∙ ap (λ added. own_rows was.number before ++ added) one.mine;
              acts = one.acts;
              replies = one.replies;
              places = one.places;
              closings = tt;
              gates = one.gates;
              mine = one.mine;
              counted = ap (λ n. min n FAULTS_END) one.faults
                  ∙ (let same : min (min (0 + faults_at done.end.stop) FAULTS_END) FAULTS_END
                  ≡ min (faults_at done.end.stop) FAULTS_END = omega arith in same);
            },
          )

      -- or it changed its batch
      changed : was.batch ≡ None
          → HasChanged AnyAsks AnyBetween (BrokeBetween room) first_site last_site was.number done.end
          → (did : Deed) × IsHeld known (Lane was) (Lane now) did
      changed no_batch is =
          let all = stints_held limit room before rows legal was.number Waits first_site is.stints
          last_site is.next is.course is.did (λ more. starts) seen in
          let told = faults_told stop.Done (first_refused is.stints) (sum_by weights_in is.stints)
          Waits is.stints is.next is.course (λ more. refl) in (
            Changed (record { stints = is.stints; next = is.next; end = done.end }),
            record {
              done = record {
                number = done.number;
                batch = no_batch;
                end = done.ended;
                course = is.course;
                ended = is.ended;
                devices = all.devices;
                opened = is.opened;
                stop = is.stop;
              };
              own = own ∙ ap (λ added. own_rows was.number before ++ added) all.mine;
              acts = all.acts;
              replies = all.replies;
              places = (all.places, all.stand);
              closings = tt;
              gates = all.gates;
              mine = all.mine;
              counted = all.faults
                  ∙ ap (λ n. min n FAULTS_END) (told ∙ ap faults_at (sym is.stop));
            },
          )

      lane_did : (batch : Option Name) → was.batch ≡ batch
          → IsWorkedFor AnyAsks (BrokeBefore AnyAsks room (newcomer limit before was.number) known)
          AnyBetween (BrokeBetween room) first_site last_site was.number batch done.end
          → (did : Deed) × IsHeld known (Lane was) (Lane now) did
      lane_did (Some batch) is_batch is = worked batch is_batch is
      lane_did None no_batch is = changed no_batch is

      pub lane_held : (did : Deed) × IsHeld known (Lane was) (Lane now) did
      lane_held = lane_did was.batch refl done.works

    module _ (was now : DoorJob O)
        (done : IsDoorDone AnyAsks door_at
        (newcomer limit before (MAX_LANE + was.number)) known was now)
        (own : own_rows (MAX_LANE + was.number) rows
        ≡ own_rows (MAX_LANE + was.number) before ++ known.mine) where
      abbrev door_deed : DoorDeed
      door_deed = record { visits = done.serves.visits; end = done.end }

      pub door_held : IsHeld known (Door was) (Door now) (Served door_deed)
      door_held =
          let is = done.serves in
          let exchanges = all_exchanges is.visits in
          let right = all_answered_on limit (MAX_LANE + was.number) known.seen rows seen exchanges
          is.has.answered.right in
          record {
            done = record {
              number = done.number;
              end = done.ended;
              behind = is.connections;
              visited = is.has.visits_are;
              stops = is.stops;
              served = is.has.served_is;
              links = is.has.links_are;
              faults = is.faults;
              missed = is.missed;
            };
            own = own ∙ ap (λ added. own_rows (MAX_LANE + was.number) before ++ added)
                is.has.answered.mine;
            acts = tt;
            replies = record { served = is.has.each; right = right };
            places = fall_on (length before) (length known.seen) (length rows)
                (places_of exchanges) (prefix_short known.seen rows seen) is.has.answered.places;
            closings = all_told limit (MAX_LANE + was.number) rows (verdicts_stay rows legal) exchanges
                right;
            gates = tt;
            mine = is.has.answered.mine;
            counted = is.has.answered.faults
                ∙ (let same : min (0 + disk_faults exchanges) FAULTS_END
                ≡ min (disk_faults exchanges) FAULTS_END = omega arith in same);
          }

    held : (was now : Work L O)
        → IsDoneBesideOthers room lane_at door_at (newcomer limit before (number_of was)) known was now
        → own_rows (number_of was) rows ≡ own_rows (number_of was) before ++ known.mine
        → (did : Deed) × IsHeld known was now did
    held (Lane was) (Lane now) done own = lane_held was now done own
    held (Lane was) (Door now) done own = absurd done
    held (Door was) (Lane now) done own = absurd done
    held (Door was) (Door now) done own =
        (Served (door_deed was now done own), door_held was now done own)

  -- ---- all of them

  abbrev pub IsHeldShare : Share L O → Type 0
  IsHeldShare share = IsHeld share.run.known share.run.was share.run.now share.did

  -- the shares of some runs
  pub record AreShares (runs : List (Run L O)) : Type 0 where
    pub shares : List (Share L O)
    pub runs_are : map (λ (s : Share L O). s.run) shares ≡ runs
    pub held : All IsHeldShare shares

  pub shares_of : (runs : List (Run L O))
      → All (HasRun lane_at door_at limit spare before rows) runs → AreShares runs
  shares_of [] each = record { shares = []; runs_are = refl; held = All-nil IsHeldShare }
  shares_of (run ∷ runs) each =
      let one = All-head (HasRun lane_at door_at limit spare before rows) run runs each in
      let did = held run.known one.seen run.was run.now one.done one.own in
      let rest = shares_of runs
      (All-tail (HasRun lane_at door_at limit spare before rows) run runs each) in
      let share : Share L O = record { run = run; did = did.0 } in
      record {
        shares = share ∷ rest.shares;
        runs_are = ap (λ (more : List (Run L O)). run ∷ more) rest.runs_are;
        held = All-cons IsHeldShare share rest.shares did.1 rest.held;
      }
