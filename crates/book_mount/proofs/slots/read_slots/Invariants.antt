use Rattle.std.proofs.Common.{◌≡◌, ◌≤◌, ◌+◌, ◌-◌, ◌*◌, List, ℕ, Option, Some, length}
use Rattle.book_snapshot.specs.declared.layout.TheConstants.{ROW_BYTES}
use Rattle.book_journal.specs.Rows.{gate_behind}
use Rattle.book_journal.specs.Journal.{disk_of, count_of}
use Rattle.book_mount.specs.Opening.{HasRead, Grows, OnlyRead, slots_from}
use Rattle.book_mount.proofs.slots.read_slots.Given as goal

abbrev pub invariant-loop-before : goal.invariant-loop-before
invariant-loop-before g l = record {
  count : length l.book.entries ≡ l.before;
  behind : length l.fn.book.entries ≤ l.before;
  grows : Grows l.fn.book l.book;
  read : OnlyRead g.D.Disk l.fn.journal l.journal;
  calm : g.D.Disk.faults (disk_of l.journal) ≡ g.D.Disk.faults (disk_of l.fn.journal);
  asked : g.D.Disk.asked (disk_of l.journal) ≤ g.D.Disk.asked (disk_of l.fn.journal) + ROW_BYTES
      * (l.before - length l.fn.book.entries);
  reads : (bytes : List ℕ) → g.D.Disk.reads (disk_of l.fn.journal) ≡ Some bytes
      → gate_behind (count_of l.fn.journal) ≤ length bytes
      → (rows : List (Option (List ℕ)))
      → HasRead rows l.fn.book.entries
      (slots_from (count_of l.fn.journal - length l.fn.book.entries)
      (length l.fn.book.entries + 1) bytes)
      → HasRead rows l.book.entries (slots_from (count_of l.fn.journal - l.before) (l.before + 1) bytes);
}
