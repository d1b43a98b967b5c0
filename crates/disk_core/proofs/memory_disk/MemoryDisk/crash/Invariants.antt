use Rattle.std.proofs.Common.{◌≡◌, take}
use Rattle.disk_core.specs.DiskLog.{read_after, kept_after}
use Rattle.disk_core.proofs.memory_disk.MemoryDisk.crash.Given as goal

abbrev pub invariant-loop-call : goal.invariant-loop-call
invariant-loop-call l = record {
  read : l.now.items ≡ read_after (take l.call-index l.call-items) l.self.first;
  kept : l.image.items ≡ kept_after l.keep (take l.call-index l.call-items) l.self.first l.self.first;
  items : l.call-items ≡ take l.after l.self.calls;
}
