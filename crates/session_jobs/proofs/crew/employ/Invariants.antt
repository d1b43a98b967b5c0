use Rattle.std.proofs.Common.{◌≡◌, ◌+◌, ◌≤◌, ◌++◌, length, map, vec_len, vec_capacity}
use Rattle.std.specs.Vec.Iter.{into_iter_items, into_iter_len}
use Rattle.session_jobs.specs.Jobs.{new_job, with_passes}
use Rattle.session_jobs.specs.Works.{number_of}
use Rattle.session_jobs.proofs.crew.employ.Given as goal

-- the works that have their jobs, and those that wait
abbrev pub invariant-loop-work : goal.invariant-loop-work
invariant-loop-work g l = record {
  jobs : l.jobs.items ++ map (new_job l.fn.seat) (into_iter_items l.waiting)
      ≡ map (new_job l.fn.seat) l.fn.works.items;
  bys : l.seat.bys ++ map number_of (into_iter_items l.waiting) ≡ map number_of l.fn.works.items;
  same : l.seat ≡ with_passes l.fn.seat l.seat.bys;
  many : length l.seat.bys ≡ vec_len l.jobs;
  left : into_iter_len l.waiting ≡ length (into_iter_items l.waiting);
  count : vec_len l.jobs + into_iter_len l.waiting ≡ vec_len l.fn.works;
  room : vec_len l.fn.works ≤ vec_capacity l.jobs;
}

abbrev pub decreases-loop-work : goal.decreases-loop-work
decreases-loop-work g l = into_iter_len l.waiting
