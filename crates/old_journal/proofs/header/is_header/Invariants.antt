use Rattle.std.proofs.Common.{◌≡◌, ◌≢◌, ◌<◌, ℕ, get_or}
use Rattle.book_snapshot.specs.declared.layout.TheConstants.{MARK}
use Rattle.old_journal.specs.OldJournal.{old_title}
use Rattle.old_journal.proofs.header.is_header.Given as goal

abbrev pub invariant-loop-place : goal.invariant-loop-place
invariant-loop-place l = (k : ℕ) → k < l.place → k ≢ MARK → get_or l.slot k 0 ≡ get_or old_title k 0
