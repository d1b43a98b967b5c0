use Rattle.std.proofs.Common.{◌≡◌, ◌+◌, ◌++◌, length, drop, vec_len, vec_capacity}
use Rattle.std.specs.Vec.Iter.{into_iter_items, into_iter_len}
use Rattle.serve_run.specs.Jobs.{lane_jobs}
use Rattle.serve_run.proofs.jobs.push_lanes.Given as goal

-- the lanes that have their jobs, and those that wait
abbrev pub invariant-loop-plan : goal.invariant-loop-plan
invariant-loop-plan g l = record {
  jobs : l.jobs.items ++ lane_jobs (drop l.plan-index l.planned) (into_iter_items l.rest)
      ≡ l.fn.jobs.items ++ lane_jobs l.planned l.fn.lanes.items;
  left : into_iter_len l.rest ≡ length (into_iter_items l.rest);
  many : into_iter_len l.rest + l.plan-index ≡ length l.planned;
  count : vec_len l.jobs ≡ vec_len l.fn.jobs + l.plan-index;
  capacity : vec_capacity l.jobs ≡ vec_capacity l.fn.jobs;
}
