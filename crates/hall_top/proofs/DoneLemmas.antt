-- Lemmas on a serve that ends with status 0.
use Rattle.std.proofs.Common.{◌≡◌, ◌⊎◌, ℕ, ◌+◌, min, Bool, true, false, List, [], ◌∷◌, map, All, sum_by, nat_lt, Option, Some, None, inl, inr, refl, sym, ap, ◌∙◌, subst, length, arith}
use Rattle.std.proofs.lemmas.Bool.Decides.{nat_tests}
use Rattle.std.specs.List.{cons_option, filter_map, list_any}
use Rattle.std.proofs.lemmas.Bool.{or_parts}
use Rattle.std.proofs.lemmas.List.Elements.{All-cons, All-head, All-nil, All-tail}
use Rattle.std.proofs.lemmas.List.Sums.{sum_by-cons}
use Rattle.book_words.specs.declared.act.Entry.{Entry}
use Rattle.book_words.specs.Callers.{Known, FAULTS_END}
use Rattle.lane_worker.specs.declared.ending.LaneEnd.{LaneEnd}
use Rattle.lane_worker.specs.declared.ending.LaneStop.{LaneStop}
use Rattle.lane_worker.specs.declared.ending.LaneStop.TheVariants as lane
use Rattle.lane_worker.specs.Endings.{faults_at}
use Rattle.lane_worker.specs.Works as lanes
use Rattle.office_door.specs.declared.ending.DoorEnd.{DoorEnd}
use Rattle.office_door.specs.declared.ending.DoorStop.{DoorStop}
use Rattle.office_door.specs.declared.ending.DoorStop.TheVariants as door
use Rattle.office_door.specs.Doors as doors
use Rattle.script_lines.specs.declared.command.Line.{Line}
use Rattle.script_lines.specs.declared.command.Line.TheVariants as line
use Rattle.serve_run.specs.Deeds.{Deed, DidSo, HasDone, Served as served, Share, Worked, Changed, faults_of}
use Rattle.serve_run.specs.Works.{Work, Lane, Door}
use Rattle.serve_run.specs.Setups.{MayStopAtLine, after_lines}
use Rattle.store_runs.specs.Books.{BookState}
use Rattle.store_runs.specs.declared.stop.Stop.TheVariants as stops
use Rattle.text_streams.specs.Streams.{Stream}
use Rattle.hall_alone.specs.Outside.{all_said}
use Rattle.job_reports.specs.declared.stop.JobsStop.TheVariants as jobs
use Rattle.job_reports.specs.declared.stop.ServeStop.{ServeStop}
use Rattle.job_reports.specs.declared.stop.ServeStop.TheVariants as serve
use Rattle.serve_run.specs.Jobs.{lane_end_of}
use Rattle.serve_run.specs.Serving.{ExplainsServe, HasRunPlan, IsStoppedEarly, Moment, door_lacks, lane_lacks}
use Rattle.call_endings.specs.declared.ending.Ending.TheVariants.{Served}
use Rattle.call_endings.specs.Endings.{early_status, least_status, is_cut, is_cut_stop, is_early, is_early_stop, is_full, is_full_stop, is_spent, is_spent_stop, status_of_serve, SaysLast}
use Rattle.hall_top.specs.Serving.{AllEndDone}
use Rattle.call_endings.proofs.EndingLemmas.{IsEarly, None_is, Lane_is, Door_is, Spent_is, is_early_status}

no : {A : Type 0} → true ≡ false → A
no clash = absurd (cc)

-- ---- lanes and doors that have no status of their own

-- where no item of a list passes a test, the test is false of each
none_passes : {X : Type 0} (test : X → Bool) (xs : List X) → list_any test xs ≡ false
    → All (λ (x : X). test x ≡ false) xs
none_passes test [] none = All-nil (λ x. test x ≡ false)
none_passes test (x ∷ xs) none =
    let parts = or_parts (test x) (list_any test xs) none in
    All-cons (λ y. test y ≡ false) x xs parts.0 (none_passes test xs parts.1)

lane_done : (stop : LaneStop) → is_early_stop stop ≡ false → is_spent_stop stop ≡ false
    → lane_lacks stop ≡ false → faults_at stop ≡ 0 → stop ≡ lane.Done
lane_done lane.Done early spent lack calm = refl
lane_done (lane.Change batch line) early spent lack calm = no early
lane_done (lane.Idle weights) early spent lack calm = no early
lane_done lane.Cell early spent lack calm = no early
lane_done lane.Gate early spent lack calm = no early
lane_done (lane.Bad line) early spent lack calm = no early
lane_done (lane.Refused refused) early spent lack calm = no early
lane_done lane.DiskFault early spent lack calm = absurd (omega (arith, calm))
lane_done lane.NoMemory early spent lack calm = no lack
lane_done lane.Turns early spent lack calm = no spent

door_done : (stop : DoorStop) → is_cut_stop stop ≡ false → is_full_stop stop ≡ false
    → door_lacks stop ≡ false → stop ≡ door.Done
door_done door.Done cut full lack = refl
door_done door.Door cut full lack = no cut
door_done door.NoMemory cut full lack = no lack
door_done door.Turns cut full lack = no full

no_links : (links : ℕ) → nat_lt 0 links ≡ false → links ≡ 0
no_links links none = grind (arith, nat_tests, none)

-- the disk failed at no ask of this lane
abbrev IsCalm : LaneEnd → Type 0
IsCalm end = faults_at end.stop ≡ 0

are_done : (lanes : List LaneEnd) (doors : List DoorEnd)
    → list_any is_early lanes ≡ false → list_any is_spent lanes ≡ false
    → list_any (λ (end : LaneEnd). lane_lacks end.stop) lanes ≡ false → All IsCalm lanes
    → list_any is_cut doors ≡ false → list_any is_full doors ≡ false
    → list_any (λ (end : DoorEnd). door_lacks end.stop) doors ≡ false
    → AllEndDone lanes doors
are_done lanes doors early spent lack calm cut full lacking =
    let none_early = none_passes is_early lanes early in
    let none_spent = none_passes is_spent lanes spent in
    let none_lack = none_passes (λ (end : LaneEnd). lane_lacks end.stop) lanes lack in
    let none_cut = none_passes is_cut doors cut in
    let none_full = none_passes is_full doors full in
    let none_lacking = none_passes (λ (end : DoorEnd). door_lacks end.stop) doors lacking in
    record {
      lanes = λ k d less. lane_done _ (none_early k d less) (none_spent k d less)
          (none_lack k d less) (calm k d less);
      doors = λ k d less. door_done _ (or_parts _ _ (none_cut k d less)).0 (none_full k d less)
          (none_lacking k d less);
      links = λ k d less. no_links _ (or_parts _ _ (none_cut k d less)).1;
    }

-- without such a status no test holds
no_test_holds : (early cut spent : Bool) → least_status early cut spent ≡ None
    → (early ≡ false) × (cut ≡ false) × (spent ≡ false)
no_test_holds true cut spent is = absurd (cc)
no_test_holds false true spent is = absurd (cc)
no_test_holds false false true is = absurd (cc)
no_test_holds false false false is = (refl, refl, refl)

-- ---- lanes whose asks never failed

module _ {L O : Type 0} (lane_at : Known → L → lanes.Site) (door_at : Known → O → doors.Site) where
  one_calm : (first last : Known) (was now : Work L O) (did : Deed)
      → HasDone lane_at door_at first last was now did → faults_of did ≡ 0
      → (ends : List LaneEnd) → All IsCalm ends
      → All IsCalm (cons_option (lane_end_of now) ends)
  one_calm first last (Lane was) (Lane now) (Worked did) done none ends all =
      subst (λ (end : Option LaneEnd). All IsCalm (cons_option end ends)) (sym done.end)
      (All-cons IsCalm did.end ends none all)
  one_calm first last (Lane was) (Lane now) (Changed did) done none ends all =
      subst (λ (end : Option LaneEnd). All IsCalm (cons_option end ends)) (sym done.end)
      (All-cons IsCalm did.end ends none all)
  one_calm first last (Door was) (Door now) (served did) done none ends all = all
  one_calm first last (Lane was) (Lane now) (served did) done none ends all = absurd done
  one_calm first last (Door was) (Door now) (Worked did) done none ends all = absurd done
  one_calm first last (Door was) (Door now) (Changed did) done none ends all = absurd done
  one_calm first last (Lane was) (Door now) did done none ends all = absurd done
  one_calm first last (Door was) (Lane now) did done none ends all = absurd done

  all_calm : (limit : ℕ) (before : List Entry) (shares : List (Share L O))
      → All (DidSo lane_at door_at limit before) shares
      → sum_by (λ (s : Share L O). faults_of s.did) shares ≡ 0
      → All IsCalm (filter_map lane_end_of (map (λ (s : Share L O). s.run.now) shares))
  all_calm limit before [] did none = All-nil IsCalm
  all_calm limit before (s ∷ shares) did none =
      let sum = sum_by-cons (λ (s : Share L O). faults_of s.did) s shares in
      one_calm _ _ s.run.was s.run.now s.did
      (All-head (DidSo lane_at door_at limit before) s shares did) (omega (arith, none, sum)) _
      (all_calm limit before shares (All-tail (DidSo lane_at door_at limit before) s shares did)
      (omega (arith, none, sum)))

  -- ---- a serve that ends with status 0

  least_none : (n : ℕ) → min n FAULTS_END ≡ 0 → n ≡ 0
  least_none n is = omega (arith, is)

  finished : (book : BookState) (before now : Moment L O) (rows : List Entry)
      → HasRunPlan lane_at door_at book before now rows jobs.Finished
      → early_status now.handed.lane_ends now.handed.door_ends ≡ None
      → AllEndDone now.handed.lane_ends now.handed.door_ends
  finished book before now rows ran none =
      let history = ran.history in
      let lanes = now.handed.lane_ends in
      let doors = now.handed.door_ends in
      let early = no_test_holds (list_any is_early lanes) (list_any is_cut doors) _ none in
      let spent = or_parts (list_any is_full doors) (list_any is_spent lanes) early.2 in
      let lack = or_parts (list_any (λ (end : LaneEnd). lane_lacks end.stop) lanes)
      (list_any (λ (end : DoorEnd). door_lacks end.stop) doors) ran.says.2 in
      let back : lanes ≡ filter_map lane_end_of
      (map (λ (s : Share L O). s.run.now) history.shares) =
      ap (λ (h : _). h.lane_ends) ran.back
      ∙ ap (filter_map lane_end_of) (sym history.jobs_behind) in
      are_done lanes doors early.0 spent.1 lack.0
      (subst (All IsCalm) (sym back)
      (all_calm book.limit ran.set_up history.shares history.deeds
      (least_none _ (sym history.faults ∙ ran.says.1))))
      early.1 spent.0 lack.1

-- a setup doesn't stop as one that is finished
not_finished : (book : BookState) (number : ℕ) (asked : Line)
    → MayStopAtLine book number asked stops.Finished → ⊥
not_finished book number line.Nothing may = may
not_finished book number (line.Asks command) may = may
not_finished book number (line.Works lane batch) may = may
not_finished book number line.Bad may = may

not_early : (book : BookState) (count : ℕ) (before now : Stream) (rows : List Entry)
    → IsStoppedEarly book count before now rows stops.Finished → ⊥
not_early book count before now rows (inl none) = none
not_early book count before now rows (inr (inl stopped)) =
    not_finished (after_lines book stopped.stops.before) (length stopped.stops.before + 1)
    stopped.stops.line stopped.stops.may
not_early book count before now rows (inr (inr (is, prepared))) = absurd (cc)

-- which ways to stop have status 0
abbrev HasNone : ServeStop → Option ℕ → Type 0
HasNone stop early =
    ((stop ≡ serve.Ran jobs.Finished) × (early ≡ None)) ⊎ (stop ≡ serve.Early stops.Finished)

has_none : (stop : ServeStop) (early : Option ℕ) → IsEarly early → status_of_serve stop early ≡ 0
    → HasNone stop early
has_none serve.BadPlan early is none = absurd (omega (arith, none))
has_none (serve.Early stops.Finished) early is none = inr refl
has_none (serve.Early (stops.BadLine number)) early is none = absurd (omega (arith, none))
has_none (serve.Early stops.ReadFault) early is none = absurd (omega (arith, none))
has_none (serve.Early stops.WriteFault) early is none = absurd (omega (arith, none))
has_none (serve.Early (stops.DiskFault offer)) early is none = absurd (omega (arith, none))
has_none (serve.Early stops.NoMemory) early is none = absurd (omega (arith, none))
has_none (serve.Early stops.Spent) early is none = absurd (omega (arith, none))
has_none (serve.Ran jobs.WriteFault) early is none = absurd (omega (arith, none))
has_none (serve.Ran jobs.DiskFault) early is none = absurd (omega (arith, none))
has_none (serve.Ran jobs.Finished) None None_is none = inl (refl, refl)
has_none (serve.Ran jobs.Finished) (Some n) Lane_is none = absurd (omega (arith, none))
has_none (serve.Ran jobs.Finished) (Some n) Door_is none = absurd (omega (arith, none))
has_none (serve.Ran jobs.Finished) (Some n) Spent_is none = absurd (omega (arith, none))
has_none (serve.Ran jobs.NoMemory) None None_is none = absurd (omega (arith, none))
has_none (serve.Ran jobs.NoMemory) (Some n) Lane_is none = absurd (omega (arith, none))
has_none (serve.Ran jobs.NoMemory) (Some n) Door_is none = absurd (omega (arith, none))
has_none (serve.Ran jobs.NoMemory) (Some n) Spent_is none = absurd (omega (arith, none))

-- the status behind the last line is 0 only where that of the stop is
stop_status : (stop : ServeStop) (lanes : List LaneEnd) (doors : List DoorEnd)
    (before now : Stream) (status : ℕ)
    → SaysLast (Served stop) (all_said lanes) doors before now status → status ≡ 0
    → status_of_serve stop (early_status lanes doors) ≡ 0
stop_status stop lanes doors before now status (inl (out, is)) none = sym is ∙ none
stop_status stop lanes doors before now status (inr (cut, is)) none = omega (arith, is, none)

pub serve_done : {L O : Type 0} (lane_at : Known → L → lanes.Site)
    (door_at : Known → O → doors.Site) (book : BookState) (before now : Moment L O)
    (rows : List Entry) (stop : ServeStop) (output : Stream) (status : ℕ)
    → ExplainsServe lane_at door_at book before now rows stop
    → SaysLast (Served stop) (all_said now.handed.lane_ends) now.handed.door_ends now.output output
    status → status ≡ 0
    → (stop ≡ serve.Ran jobs.Finished) × AllEndDone now.handed.lane_ends now.handed.door_ends
serve_done lane_at door_at book before now rows stop output status explained last none =
    by_stop (has_none stop early (is_early_status now.handed.lane_ends now.handed.door_ends)
    (stop_status stop now.handed.lane_ends now.handed.door_ends now.output output status last none))
  where
    early : Option ℕ
    early = early_status now.handed.lane_ends now.handed.door_ends

    by_stop : HasNone stop early
        → (stop ≡ serve.Ran jobs.Finished) × AllEndDone now.handed.lane_ends now.handed.door_ends
    by_stop (inl (is, none)) = (
      is,
      finished lane_at door_at book before now rows
          (subst (ExplainsServe lane_at door_at book before now rows) is explained) none,
    )
    by_stop (inr is) = absurd (not_early book _ before.input now.input rows
        (subst (ExplainsServe lane_at door_at book before now rows) is explained).1)
