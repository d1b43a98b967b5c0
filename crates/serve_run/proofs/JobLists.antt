-- The jobs of a plan: how many they are, their numbers, and what they hand back before they run.
use Rattle.std.proofs.Common.{suc, ◌≡◌, ◌≢◌, ℕ, ◌+◌, ◌<◌, ◌≤◌, ◌==◌, ◌&&◌, Bool, true, false, not, List, [], ◌∷◌, ◌++◌, length, get_or, All, AllPairs, Option, Some, None, refl, sym, ap, ◌∙◌, subst, arith, length-append, append-nil}
use Rattle.std.specs.List.{filter_map, list_any}
use Rattle.std.proofs.lemmas.Bool.Decides.{nat_tests}
use Rattle.std.proofs.lemmas.List.Elements.{All-append, All-cons, All-head, All-nil, All-tail, All-weaker, filter_map-append}
use Rattle.std.proofs.lemmas.List.{length-map}
use Rattle.std.proofs.lemmas.List.Kept.{AllPairs-cons}
use Rattle.hall_limits.specs.declared.TheConstants.{MAX_LANE}
use Rattle.hall_plan.specs.declared.types.PlannedLane.{PlannedLane}
use Rattle.hall_plan.specs.Limits.{IsNumbered}
use Rattle.hall_plan.specs.Plans.{are_distinct}
use Rattle.book_words.specs.declared.act.Entry.{Entry}
use Rattle.book_words.specs.Callers.{Known}
use Rattle.lane_worker.specs.Works as lanes
use Rattle.office_door.specs.Doors as doors
use Rattle.lane_worker.specs.declared.ending.LaneEnd.{LaneEnd}
use Rattle.office_door.specs.declared.ending.DoorEnd.{DoorEnd}
use Rattle.session_jobs.specs.declared.work.Work.{Work}
use Rattle.session_jobs.specs.Runs.{HaveRun, Run}
use Rattle.session_jobs.specs.Works.{number_of}
use Rattle.serve_run.specs.Jobs.{lane_job, lane_jobs, door_jobs, jobs_of, lane_of, lane_end_of, door_of, door_end_of, Handed, handed_in, handed_back}

module _ (L O : Type 0) where
  abbrev Apart : Work L O → Work L O → Type 0
  Apart v w = number_of v ≢ number_of w

  -- ---- how many they are

  lanes_many : (plan : List PlannedLane) (lanes : List L) → length plan ≡ length lanes
      → length (lane_jobs {O = O} plan lanes) ≡ length lanes
  lanes_many [] [] same = refl
  lanes_many [] (lane ∷ lanes) same = absurd (omega (arith, same))
  lanes_many (p ∷ plan) [] same = absurd (omega (arith, same))
  lanes_many (p ∷ plan) (lane ∷ lanes) same =
      ap (λ n. suc n) (lanes_many plan lanes (omega (arith, same)))

  doors_many : (n : ℕ) (doors : List O) → length (door_jobs {L = L} n doors) ≡ length doors
  doors_many n [] = refl
  doors_many n (door ∷ doors) = ap (λ k. suc k) (doors_many (n + 1) doors)

  pub jobs_many : (plan : List PlannedLane) (lanes : List L) (doors : List O)
      → length plan ≡ length lanes → length (jobs_of plan lanes doors) ≡ length lanes + length doors
  jobs_many plan lanes doors same =
      let a = lanes_many plan lanes same in let b = doors_many 1 doors in
      omega (arith, length-append (lane_jobs {O = O} plan lanes) (door_jobs {L = L} 1 doors))

  -- ---- their numbers

  abbrev IsFrom : ℕ → Work L O → Type 0
  IsFrom n w = n ≤ number_of w

  doors_from : (n : ℕ) (doors : List O) → All (IsFrom (MAX_LANE + n)) (door_jobs {L = L} n doors)
  doors_from n [] = All-nil (IsFrom (MAX_LANE + n))
  doors_from n (door ∷ doors) = All-cons (IsFrom (MAX_LANE + n)) _ (door_jobs (n + 1) doors)
      (omega arith)
      (All-weaker (IsFrom (MAX_LANE + (n + 1))) (IsFrom (MAX_LANE + n))
      (λ w from. omega (arith, from)) (door_jobs (n + 1) doors) (doors_from (n + 1) doors))

  doors_apart : (n : ℕ) (doors : List O) → AllPairs Apart (door_jobs {L = L} n doors)
  doors_apart n [] = λ i j d less inside. absurd (omega (arith, inside))
  doors_apart n (door ∷ doors) = AllPairs-cons Apart _ (door_jobs (n + 1) doors)
      (All-weaker (IsFrom (MAX_LANE + (n + 1))) (λ w. MAX_LANE + n ≢ number_of w)
      (λ w from same. absurd (omega (arith, from, same))) (door_jobs (n + 1) doors)
      (doors_from (n + 1) doors))
      (doors_apart (n + 1) doors)

  -- no lane of some has this number
  others : (number : ℕ) (plan : List PlannedLane)
      → list_any (λ (other : PlannedLane). other.number == number) plan ≡ false
      → (lanes : List L) → All (λ (w : Work L O). number ≢ number_of w) (lane_jobs plan lanes)
  others number [] none lanes = All-nil (λ (w : Work L O). number ≢ number_of w)
  others number (p ∷ plan) none [] = All-nil (λ (w : Work L O). number ≢ number_of w)
  others number (p ∷ plan) none (lane ∷ lanes) =
      All-cons (λ (w : Work L O). number ≢ number_of w) (lane_job p lane) (lane_jobs plan lanes)
      (λ same. grind (arith, nat_tests, none, same))
      (others number plan (grind (arith, none)) lanes)

  lanes_apart : (plan : List PlannedLane) (lanes : List L) (doors : List O)
      → All IsNumbered plan → are_distinct plan ≡ true
      → AllPairs Apart (lane_jobs plan lanes ++ door_jobs 1 doors)
  lanes_apart [] lanes doors numbered distinct = doors_apart 1 doors
  lanes_apart (p ∷ plan) [] doors numbered distinct = doors_apart 1 doors
  lanes_apart (p ∷ plan) (lane ∷ lanes) doors numbered distinct =
      let here : IsNumbered p = All-head IsNumbered p plan numbered in
      AllPairs-cons Apart (lane_job p lane) (lane_jobs plan lanes ++ door_jobs 1 doors)
      (All-append (λ (w : Work L O). p.number ≢ number_of w) (lane_jobs plan lanes)
      (door_jobs 1 doors)
      (others p.number plan (grind (arith, distinct)) lanes)
      (All-weaker (IsFrom (MAX_LANE + 1)) (λ w. p.number ≢ number_of w)
      (λ w from same. absurd (omega (arith, from, same, here.1))) (door_jobs 1 doors)
      (doors_from 1 doors)))
      (lanes_apart plan lanes doors (All-tail IsNumbered p plan numbered) (grind (arith, distinct)))

  pub jobs_apart : (plan : List PlannedLane) (lanes : List L) (doors : List O)
      → All IsNumbered plan → are_distinct plan ≡ true → AllPairs Apart (jobs_of plan lanes doors)
  jobs_apart plan lanes doors numbered distinct = lanes_apart plan lanes doors numbered distinct

  -- ---- what they hand back before they run

  lanes_back : (plan : List PlannedLane) (lanes : List L) → length plan ≡ length lanes
      → filter_map lane_of (lane_jobs {O = O} plan lanes) ≡ lanes
  lanes_back [] [] same = refl
  lanes_back [] (lane ∷ lanes) same = absurd (omega (arith, same))
  lanes_back (p ∷ plan) [] same = absurd (omega (arith, same))
  lanes_back (p ∷ plan) (lane ∷ lanes) same =
      ap (λ ls. lane ∷ ls) (lanes_back plan lanes (omega (arith, same)))

  -- nothing of a kind is handed back of lanes, or of doors
  no_lane_ends : (plan : List PlannedLane) (lanes : List L)
      → filter_map lane_end_of (lane_jobs {O = O} plan lanes) ≡ []
  no_lane_ends [] lanes = refl
  no_lane_ends (p ∷ plan) [] = refl
  no_lane_ends (p ∷ plan) (lane ∷ lanes) = no_lane_ends plan lanes

  no_doors : (plan : List PlannedLane) (lanes : List L)
      → filter_map door_of (lane_jobs {O = O} plan lanes) ≡ []
  no_doors [] lanes = refl
  no_doors (p ∷ plan) [] = refl
  no_doors (p ∷ plan) (lane ∷ lanes) = no_doors plan lanes

  no_door_ends : (plan : List PlannedLane) (lanes : List L)
      → filter_map door_end_of (lane_jobs {O = O} plan lanes) ≡ []
  no_door_ends [] lanes = refl
  no_door_ends (p ∷ plan) [] = refl
  no_door_ends (p ∷ plan) (lane ∷ lanes) = no_door_ends plan lanes

  doors_back : (n : ℕ) (doors : List O) → filter_map door_of (door_jobs {L = L} n doors) ≡ doors
  doors_back n [] = refl
  doors_back n (door ∷ doors) = ap (λ ds. door ∷ ds) (doors_back (n + 1) doors)

  no_lanes : (n : ℕ) (doors : List O) → filter_map lane_of (door_jobs {L = L} n doors) ≡ []
  no_lanes n [] = refl
  no_lanes n (door ∷ doors) = no_lanes (n + 1) doors

  no_ends : (n : ℕ) (doors : List O) → filter_map lane_end_of (door_jobs {L = L} n doors) ≡ []
  no_ends n [] = refl
  no_ends n (door ∷ doors) = no_ends (n + 1) doors

  unended : (n : ℕ) (doors : List O) → filter_map door_end_of (door_jobs {L = L} n doors) ≡ []
  unended n [] = refl
  unended n (door ∷ doors) = unended (n + 1) doors

  module _ (plan : List PlannedLane) (lanes : List L) (doors : List O)
      (same : length plan ≡ length lanes) where
    -- of both kinds, one after the other
    both : {A : Type 0} (f : Work L O → Option A) (xs ys : List A)
        → filter_map f (lane_jobs plan lanes) ≡ xs → filter_map f (door_jobs 1 doors) ≡ ys
        → filter_map f (jobs_of plan lanes doors) ≡ xs ++ ys
    both f xs ys is are = filter_map-append f (lane_jobs plan lanes) (door_jobs 1 doors)
        ∙ (ap (λ zs. zs ++ filter_map f (door_jobs 1 doors)) is ∙ ap (λ zs. xs ++ zs) are)

    pub nothing_ended : handed_back (jobs_of plan lanes doors) ≡ handed_in lanes doors
    nothing_ended =
        let ls = both lane_of lanes [] (lanes_back plan lanes same) (no_lanes 1 doors)
        ∙ append-nil lanes in
        let les = both lane_end_of [] [] (no_lane_ends plan lanes) (no_ends 1 doors) in
        let ds = both door_of [] doors (no_doors plan lanes) (doors_back 1 doors) in
        let des = both door_end_of [] [] (no_door_ends plan lanes) (unended 1 doors) in
        λ i. record { lanes = ls i; lane_ends = les i; doors = ds i; door_ends = des i }

  -- they are all of them, where lanes and then doors were added to none
  pub jobs_made : (plan said : List PlannedLane) (lanes : List L) (doors : List O)
      (none with_lanes all : List (Work L O)) → none ≡ [] → said ≡ plan
      → with_lanes ≡ none ++ lane_jobs said lanes → all ≡ with_lanes ++ door_jobs 1 doors
      → all ≡ jobs_of plan lanes doors
  jobs_made plan said lanes doors none with_lanes all empty same first second =
      second ∙ ap (λ xs. xs ++ door_jobs 1 doors)
      (first ∙ (ap (λ xs. xs ++ lane_jobs said lanes) empty ∙ ap (λ ps. lane_jobs ps lanes) same))

  -- as many come back as ran
  pub run_many : (lane_at : Known → L → lanes.Site) (door_at : Known → O → doors.Site)
      (limit spare : ℕ) (before rows : List Entry) (failed : ℕ) (was now : List (Work L O))
      → HaveRun lane_at door_at limit spare before rows failed was now
      → length now ≡ length was
  run_many lane_at door_at limit spare before rows failed was now ran =
      sym (ap length ran.jobs_behind) ∙ (length-map ran.runs (λ (r : Run L O). r.now)
      ∙ (sym (length-map ran.runs (λ (r : Run L O). r.was)) ∙ ap length ran.jobs_before))
