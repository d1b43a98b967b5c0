use Rattle.std.proofs.Common.{◌≡◌, ◌+◌, ◌*◌, ◌≤◌, ◌++◌, drop, vec_len, vec_capacity}
use Rattle.serve_run.specs.declared.lines.TheConstants.{LINE_ROOM}
use Rattle.serve_run.specs.Jobs.{job_lines}
use Rattle.serve_run.proofs.lines.push_lines.Given as goal

-- the lines that were made, and those that are left
abbrev pub invariant-loop-work : goal.invariant-loop-work
invariant-loop-work g l = record {
  lines : l.text.items ++ job_lines (drop l.work-index l.jobs)
      ≡ l.fn.text.items ++ job_lines l.jobs;
  longest : vec_len l.text ≤ vec_len l.fn.text + l.work-index * LINE_ROOM;
  capacity : vec_capacity l.text ≡ vec_capacity l.fn.text;
}
