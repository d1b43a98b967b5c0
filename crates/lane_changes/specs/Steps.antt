-- How far a changing lane has come.
use Rattle.std.specs.Prelude.{◌≡◌, ℕ, ◌+◌, ◌-◌, ◌^◌, min, Bool, false, nat_lt, List, length, flat_map, None}
use Rattle.std.specs.List.{sum_by}
use Rattle.book_words.specs.declared.act.Ask.{Ask}
use Rattle.book_words.specs.declared.caller.AskError.{AskError}
use Rattle.book_words.specs.Callers.{Known}
use Rattle.lane_worker.specs.declared.ending.LaneEnd.{LaneEnd}
use Rattle.lane_worker.specs.declared.ending.LaneStop.TheVariants as stop
use Rattle.lane_worker.specs.Works.{Site}
use Rattle.lane_changes.specs.declared.changing.TheConstants.{MAX_STINTS}
use Rattle.lane_changes.specs.declared.course.Course.{Course}
use Rattle.lane_changes.specs.declared.types.Next.{Next}
use Rattle.lane_changes.specs.declared.types.Next.TheVariants.{Works, Waits, Ends}
use Rattle.lane_changes.specs.Stints.{Stint, behind, AreStints, asks_in, opened_in, weights_in, refused_in, stop_in, last_stop, first_of, first_refused, end_stop}
use Rattle.lane_changes.specs.Changes.{Did}

-- whether a lane that is to do this next, and did so many works and waits, goes on
abbrev pub may_go : Next → ℕ → Bool
may_go (Works batch) stints = nat_lt stints MAX_STINTS
may_go Waits stints = nat_lt stints MAX_STINTS
may_go Ends stints = false

abbrev pub goes_on : Course → Bool
goes_on course = may_go course.next course.stints

-- the end of a lane that doesn't
abbrev pub course_end : Course → LaneEnd
course_end course =
    record {
      opened = course.opened;
      stop = end_stop course.next course.stop course.refused course.weights;
    }

-- a lane that waits for its first batch
pub record IsUnbegun (course : Course) : Type 0 where
  pub next : course.next ≡ Waits
  pub stints : course.stints ≡ 0
  pub stop : course.stop ≡ stop.Done
  pub opened : course.opened ≡ 0
  pub refused : course.refused ≡ None
  pub weights : course.weights ≡ 0

-- a work or a wait more
pub record HasPassed (was : Course) (stint : Stint) (now : Course) : Type 0 where
  pub next : now.next ≡ behind stint
  pub stints : now.stints ≡ was.stints + 1
  pub stop : now.stop ≡ stop_in stint
  pub opened : now.opened ≡ min (was.opened + opened_in stint) (2 ^ 32 - 1)
  pub refused : now.refused ≡ first_of was.refused (refused_in stint)
  pub weights : now.weights ≡ was.weights + weights_in stint

-- what a lane keeps is that of its works and waits so far
pub record IsCourse (Reached : List Ask → Type 0) (Went : Known → Known → List Ask → Type 0)
    (Broke : Known → Known → List Ask → Ask → AskError → Type 0) (was now : Site) (lane : ℕ)
    (course : Course) : Type 0 where
  pub stints : List Stint
  pub count : course.stints ≡ length stints
  pub follow : AreStints Waits stints course.next
  pub did : Did Went Broke lane was stints now
  pub asked : Reached (flat_map (asks_in lane) stints)
  pub stop : course.stop ≡ last_stop stop.Done stints
  pub opened : course.opened ≡ min (sum_by opened_in stints) (2 ^ 32 - 1)
  pub refused : course.refused ≡ first_refused stints
  pub weights : course.weights ≡ sum_by weights_in stints
