-- A job of a session at one moment, and what its run makes of it.
use Rattle.std.specs.Prelude.{◌≡◌, ℕ, ◌-◌, ◌≤◌, List, [], ◌++◌, length, Some, vec_capacity}
use Rattle.book_words.specs.declared.act.Entry.{Entry}
use Rattle.book_words.specs.Callers.{Known}
use Rattle.lane_worker.specs.Works as lanes
use Rattle.office_door.specs.Doors as doors
use Rattle.shared_book.specs.declared.session.Session as session
use Rattle.shared_book.specs.Passes.{IsPassOf, HasNoted, known_of, room_of}
use Rattle.turn_pass.specs.History.{BookState, PassState, newcomer}
use Rattle.session_jobs.specs.declared.job.Job.{Job}
use Rattle.session_jobs.specs.declared.session.Crew.{Crew}
use Rattle.session_jobs.specs.declared.work.Work.{Work}
use Rattle.session_jobs.specs.Runs.{IsDoneByCaller}
use Rattle.session_jobs.specs.Works.{number_of}

-- a job has the seat of its caller, a pass of the session
pub record IsReady {N L O A B : Type 0} (session : session.Ghosts N) (job : Job L O A B) : Type 0 where
  pub pass : PassState Entry
  pub seated : job.seat ≡ Some pass
  pub of_session : IsPassOf session pass

-- a job was run by the caller of its seat, which it has back; the caller was asked for just what the
-- work says, by one note for each
pub record IsRun {N L O A B : Type 0} (session : session.Ghosts N) (lane_at : Known → L → lanes.Site)
    (door_at : Known → O → doors.Site) (was now : Job L O A B) : Type 0 where
  pub first : PassState Entry
  pub last : PassState Entry
  pub seat_before : was.seat ≡ Some first
  pub seat_behind : now.seat ≡ Some last
  pub of_session : IsPassOf session last
  pub done : IsDoneByCaller (HasNoted first.notes last.notes) (room_of session) lane_at door_at
      (known_of session first) (known_of session last) was.work now.work

-- a work with a new pass of its number: it has seen what the book seat has appended
abbrev pub new_job : {L O A B : Type 0} → BookState Entry → Work L O → Job L O A B
new_job seat work = record { work = work; seat = Some (newcomer seat (number_of work)) }

-- the book seat when passes of these numbers more were made
abbrev pub with_passes : BookState Entry → List ℕ → BookState Entry
with_passes seat bys =
    record seat {
      bys = seat.bys ++ bys;
      row_parts = seat.row_parts - length bys;
      fault_parts = seat.fault_parts - length bys;
    }

-- nothing has come into the lists of a session
pub record IsEmptyCrew {L O A B : Type 0} (crew : Crew L O A B) : Type 0 where
  pub jobs : crew.jobs.items ≡ []
  pub works : crew.works.items ≡ []
  pub ends : crew.ends.items ≡ []

-- the lists of a session have room for so many jobs
pub record HasRoomFor {L O A B : Type 0} (count : ℕ) (crew : Crew L O A B) : Type 0 where
  pub jobs : count ≤ vec_capacity crew.jobs
  pub works : count ≤ vec_capacity crew.works
  pub ends : count ≤ vec_capacity crew.ends
