use Rattle.std.proofs.Common.{◌≡◌, ◌≤◌, take, count_by}
use Rattle.book_words.specs.Acts.{same_state}
use Rattle.book_index.proofs.index.Index.count_in.Given as goal

abbrev pub invariant-loop-place : goal.invariant-loop-place
invariant-loop-place l = (l.count
    ≡ count_by (λ batch. same_state batch.1.state l.state) (take l.place l.self.batches))
    × (l.count ≤ l.place)
