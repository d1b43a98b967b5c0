use Rattle.std.proofs.Common.{◌≡◌, ◌+◌, ◌≤◌, ◌++◌, length, vec_len, vec_capacity}
use Rattle.std.specs.Vec.Iter.{into_iter_items, into_iter_len}
use Rattle.serve_run.specs.Jobs.{door_jobs}
use Rattle.serve_run.proofs.jobs.push_doors.Given as goal

-- the doors that have their jobs, and those that wait
abbrev pub invariant-loop-door : goal.invariant-loop-door
invariant-loop-door g l = record {
  jobs : l.jobs.items ++ door_jobs l.number (into_iter_items l.rest)
      ≡ l.fn.jobs.items ++ door_jobs 1 l.fn.doors.items;
  left : into_iter_len l.rest ≡ length (into_iter_items l.rest);
  numbers : l.number + into_iter_len l.rest ≡ 1 + vec_len l.fn.doors;
  room : vec_len l.jobs + into_iter_len l.rest ≤ vec_capacity l.jobs;
}

abbrev pub decreases-loop-door : goal.decreases-loop-door
decreases-loop-door g l = into_iter_len l.rest
