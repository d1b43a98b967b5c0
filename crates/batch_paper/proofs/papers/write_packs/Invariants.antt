use Rattle.std.proofs.Common.{◌≡◌, ◌++◌, drop}
use Rattle.std.specs.List.{flat_map}
use Rattle.paper_form.specs.Papers.{line_text}
use Rattle.batch_paper.specs.Written.{pack_lines}
use Rattle.batch_paper.proofs.papers.write_packs.Given as goal

-- what was written so far, and the lines of the packs to come, are all
abbrev pub invariant-loop-pack : goal.invariant-loop-pack
invariant-loop-pack l =
    l.to.items ++ flat_map line_text (pack_lines (drop l.pack-index l.packs))
    ≡ l.fn.to.items ++ flat_map line_text (pack_lines l.packs)
