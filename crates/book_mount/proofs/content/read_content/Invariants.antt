use Rattle.std.proofs.Common.{◌≡◌, ◌≤◌, ◌+◌, ◌*◌, List, ℕ, Some, take}
use Rattle.book_snapshot.specs.Blocks.{EndsWithSnapshot, snapshot_content}
use Rattle.book_journal.specs.declared.blocks.TheConstants.{BLOCKS_CONTENT}
use Rattle.book_journal.specs.Journal.{disk_of}
use Rattle.book_mount.specs.declared.mounting.TheConstants.{CALL_BYTES}
use Rattle.book_mount.specs.Opening.{OnlyRead}
use Rattle.book_mount.proofs.content.read_content.Given as goal

abbrev pub invariant-loop-from : goal.invariant-loop-from
invariant-loop-from g l = record {
  content : (bytes : List ℕ) → g.D.Disk.reads (disk_of l.fn.journal) ≡ Some bytes
      → EndsWithSnapshot l.kept.rows l.kept.bytes bytes
      → l.content.items ≡ take (BLOCKS_CONTENT * l.from)
      (snapshot_content l.kept.rows l.kept.bytes bytes);
  read : OnlyRead g.D.Disk l.fn.journal l.journal;
  calm : g.D.Disk.faults (disk_of l.journal) ≡ g.D.Disk.faults (disk_of l.fn.journal);
  asked : g.D.Disk.asked (disk_of l.journal) ≤ g.D.Disk.asked (disk_of l.fn.journal) + CALL_BYTES
      * l.from;
}
