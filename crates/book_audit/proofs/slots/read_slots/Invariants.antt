use Rattle.std.proofs.Common.{◌≡◌, ◌≤◌, ℕ, List, Some, length}
use Rattle.hall_limits.specs.declared.TheConstants.{MAX_ROWS}
use Rattle.disk_core.specs.Devices.{IsUnmoved}
use Rattle.book_words.specs.Answers.{IsLegal}
use Rattle.book_audit.specs.Walking.{SlotsStand}
use Rattle.book_audit.proofs.slots.read_slots.Given as goal

abbrev pub invariant-loop-piece : goal.invariant-loop-piece
invariant-loop-piece g l = record {
  few : length l.book.entries ≤ MAX_ROWS;
  legal : IsLegal l.book.entries;
  walks : (bytes : List ℕ) → g.D.Disk.reads l.fn.disk ≡ Some bytes → SlotsStand bytes l.book.entries;
  count : l._piece ≤ length l.book.entries;
  unmoved : IsUnmoved g.D.Disk l.fn.disk l.disk;
  calm : g.D.Disk.faults l.disk ≡ g.D.Disk.faults l.fn.disk;
}
