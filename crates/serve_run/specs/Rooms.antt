-- The room for what jobs hand back.
use Rattle.std.specs.Prelude.{◌≡◌, ℕ, ◌+◌, ◌≤◌, [], vec_len, vec_capacity}
use Rattle.serve_run.specs.declared.jobs.HandedBack.{HandedBack}
use Rattle.serve_run.specs.Jobs.{Handed}

module _ {L O : Type 0} where
  -- the lanes, the doors and their ends as lists
  abbrev pub lists_of : HandedBack L O → Handed L O
  lists_of handed =
      record {
        lanes = handed.lanes.items;
        lane_ends = handed.lane_ends.items;
        doors = handed.doors.items;
        door_ends = handed.door_ends.items;
      }

  -- nothing was handed back yet
  pub record IsEmpty (handed : HandedBack L O) : Type 0 where
    pub lanes : handed.lanes.items ≡ []
    pub lane_ends : handed.lane_ends.items ≡ []
    pub doors : handed.doors.items ≡ []
    pub door_ends : handed.door_ends.items ≡ []

  -- there is room for what so many jobs more hand back
  pub record HasRoomFor (jobs : ℕ) (handed : HandedBack L O) : Type 0 where
    pub lanes : vec_len handed.lanes + jobs ≤ vec_capacity handed.lanes
    pub lane_ends : vec_len handed.lane_ends + jobs ≤ vec_capacity handed.lane_ends
    pub doors : vec_len handed.doors + jobs ≤ vec_capacity handed.doors
    pub door_ends : vec_len handed.door_ends + jobs ≤ vec_capacity handed.door_ends

  -- at most one place in each list was taken
  abbrev pub TakesRoom : HandedBack L O → HandedBack L O → Type 0
  TakesRoom old new = (jobs : ℕ) → HasRoomFor (jobs + 1) old → HasRoomFor jobs new
