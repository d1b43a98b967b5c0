use Rattle.std.proofs.Common.{◌≡◌, ◌*◌, List, ℕ, Some, take}
use Rattle.disk_core.specs.Devices.{IsUnmoved}
use Rattle.book_snapshot.specs.Blocks.{EndsWithSnapshot, snapshot_content}
use Rattle.book_journal.specs.declared.blocks.TheConstants.{BLOCKS_CONTENT}
use Rattle.book_audit.proofs.content.read_content.Given as goal

abbrev pub invariant-loop-from : goal.invariant-loop-from
invariant-loop-from g l = record {
  content : (bytes : List ℕ) → g.D.Disk.reads l.fn.disk ≡ Some bytes
      → EndsWithSnapshot l.kept.rows l.kept.bytes bytes
      → l.content.items ≡ take (BLOCKS_CONTENT * l.from)
      (snapshot_content l.kept.rows l.kept.bytes bytes);
  unmoved : IsUnmoved g.D.Disk l.fn.disk l.disk;
  calm : g.D.Disk.faults l.disk ≡ g.D.Disk.faults l.fn.disk;
}
