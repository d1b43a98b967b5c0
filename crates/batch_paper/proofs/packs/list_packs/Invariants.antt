use Rattle.std.proofs.Common.{◌≡◌, ◌++◌}
use Rattle.batch_paper.specs.Written.{packs_of}
use Rattle.batch_paper.proofs.PackWalks.{packs_behind}
use Rattle.batch_paper.proofs.packs.list_packs.Given as goal

-- the packs found so far, and those of the rows to come, are all
abbrev pub invariant-loop-before : goal.invariant-loop-before
invariant-loop-before l =
    l.packs.items ++ packs_behind l.state.entries l.batch l.before
    ≡ packs_of l.state.entries l.batch
