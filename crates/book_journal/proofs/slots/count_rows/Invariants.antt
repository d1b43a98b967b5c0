use Rattle.std.proofs.Common.{◌≡◌, ◌≤◌, ◌+◌, ◌-◌, ◌*◌, List, ℕ, Some, length, drop}
use Rattle.disk_core.specs.Devices.{IsUnmoved}
use Rattle.book_snapshot.specs.declared.layout.TheConstants.{ROW_BYTES}
use Rattle.book_journal.specs.declared.layout.TheConstants.{MAX_SLOTS}
use Rattle.book_journal.specs.Rows.{open_rows, gate_behind}
use Rattle.book_journal.proofs.slots.count_rows.Given as goal

abbrev pub invariant-loop-piece : goal.invariant-loop-piece
invariant-loop-piece g l = record {
  most : l.count ≤ MAX_SLOTS;
  pieces : l.first + l._piece ≤ l.count;
  counts : (bytes : List ℕ) → g.D.Disk.reads l.fn.disk ≡ Some bytes → l.size ≡ length bytes
      → length (open_rows (l.count - l.first) (drop (gate_behind l.first) bytes)) ≡ l.count
      - l.first;
  unmoved : IsUnmoved g.D.Disk l.fn.disk l.disk;
  calm : g.D.Disk.faults l.disk ≡ g.D.Disk.faults l.fn.disk;
  asked : g.D.Disk.asked l.disk ≤ g.D.Disk.asked l.fn.disk + ROW_BYTES * (l.count - l.first);
}
