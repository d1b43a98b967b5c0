use Rattle.std.proofs.Common.{◌≡◌, ◌≤◌, take}
use Rattle.book_words.specs.Measures.{defective_count}
use Rattle.book_verdicts.proofs.contents.count_defective.Given as goal

abbrev pub invariant-loop-pack : goal.invariant-loop-pack
invariant-loop-pack l =
    (l.count ≤ l.pack-index) × (l.count
    ≡ defective_count l.state.entries l.batch l.mode (take l.pack-index l.packs))
