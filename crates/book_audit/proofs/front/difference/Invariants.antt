use Rattle.std.proofs.Common.{◌≡◌, ◌≢◌, ◌<◌, ℕ, get_or}
use Rattle.book_snapshot.specs.declared.layout.TheConstants.{MARK}
use Rattle.book_journal.specs.Rows.{title}
use Rattle.book_audit.proofs.front.difference.Given as goal

abbrev pub invariant-loop-place : goal.invariant-loop-place
invariant-loop-place l = (k : ℕ) → k < l.place → k ≢ MARK → get_or l.bytes k 0 ≡ get_or title k 0
