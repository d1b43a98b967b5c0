use Rattle.std.proofs.Common.{◌≡◌, ◌++◌, drop, map}
use Rattle.std.specs.List.{flat_map}
use Rattle.paper_form.specs.Papers.{line_text}
use Rattle.batch_paper.specs.Written.{tare_for, tare_lines}
use Rattle.batch_paper.proofs.papers.write_tares.Given as goal

-- what was written so far, and the lines of the days to come, are all
abbrev pub invariant-loop-day : goal.invariant-loop-day
invariant-loop-day l =
    l.to.items ++ flat_map line_text (tare_lines (map (tare_for l.state.entries l.batch)
    (drop l.day-index l.days)))
    ≡ l.fn.to.items ++ flat_map line_text
    (tare_lines (map (tare_for l.state.entries l.batch) l.days))
