use Rattle.std.proofs.Common.{◌≡◌, List, ℕ, Some, length}
use Rattle.device_facts.specs.Known.{TellsAsBefore}
use Rattle.book_snapshot.specs.Blocks.{content_blocks}
use Rattle.book_journal.specs.Laying.{WritesBehind, all_done}
use Rattle.book_journal.proofs.BehindGate.{blocks_before}
use Rattle.book_journal.proofs.laying.write_content.Given as goal

abbrev pub invariant-loop-piece : goal.invariant-loop-piece
invariant-loop-piece g l = record {
  writes : (there : List ℕ) → g.D.Disk.reads l.fn.disk ≡ Some there
      → WritesBehind g.D.Disk l.place
      (content_blocks (blocks_before l.piece (length l.content)) l.content) all_done there l.fn.disk
      l.disk;
  tells : TellsAsBefore (g.D.Disk.reads l.fn.disk) (g.D.Disk.reads l.disk);
  calm : g.D.Disk.faults l.disk ≡ g.D.Disk.faults l.fn.disk;
  asked : g.D.Disk.asked l.disk ≡ g.D.Disk.asked l.fn.disk;
}
