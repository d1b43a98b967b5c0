use Rattle.std.proofs.Common.{◌≡◌, ◌++◌, drop, map}
use Rattle.std.specs.List.{flat_map}
use Rattle.paper_form.specs.Papers.{line_text}
use Rattle.batch_paper.specs.Written.{pick_of, pick_line}
use Rattle.batch_paper.proofs.picks.write_picks.Given as goal

-- what was written so far, and the lines of the packs to come, are all
abbrev pub invariant-loop-pack : goal.invariant-loop-pack
invariant-loop-pack l =
    l.to.items ++ flat_map line_text
    (map (pick_line l.part) (map (pick_of l.state.entries l.mode) (drop l.pack-index l.packs)))
    ≡ l.fn.to.items ++ flat_map line_text
    (map (pick_line l.part) (map (pick_of l.state.entries l.mode) l.packs))
