use Rattle.std.proofs.Common.{◌≡◌, ◌+◌, ◌≤◌, ◌++◌, All, IsSome, Some, length, map, vec_len, vec_capacity}
use Rattle.std.specs.Vec.Iter.{into_iter_items, into_iter_len}
use Rattle.session_jobs.proofs.crew.dismiss.Given as goal

-- what is done with, and what is left
abbrev pub invariant-loop-job : goal.invariant-loop-job
invariant-loop-job g l = record {
  works : l.works.items ++ map (λ job. job.work) (into_iter_items l.done)
      ≡ map (λ job. job.work) l.fn.jobs.items;
  ends : map (λ pass. Some pass) l.ends.items ++ map (λ job. job.seat) (into_iter_items l.done)
      ≡ map (λ job. job.seat) l.fn.jobs.items;
  seated : All (λ job. IsSome job.seat) (into_iter_items l.done);
  left : into_iter_len l.done ≡ length (into_iter_items l.done);
  work_count : vec_len l.works + into_iter_len l.done ≡ vec_len l.fn.jobs;
  end_count : vec_len l.ends + into_iter_len l.done ≡ vec_len l.fn.jobs;
  work_room : vec_len l.fn.jobs ≤ vec_capacity l.works;
  end_room : vec_len l.fn.jobs ≤ vec_capacity l.ends;
}

abbrev pub decreases-loop-job : goal.decreases-loop-job
decreases-loop-job g l = into_iter_len l.done
