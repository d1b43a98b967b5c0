use Rattle.std.proofs.Common.{length, ap, ◌∙◌}
use Rattle.disk_core.proofs.Steps.{stepped, reads_on, looks}
use Rattle.disk_core.proofs.memory_disk.MemoryDiskDisk.len.Goals as goal

pub returns-clause-length : goal.returns-clause-length
returns-clause-length c =
    let step = stepped _ _ c.make.result c.args.self.now c.make.new.self c.make.ensures in
    ap length (c.bytes.ensures ∙ reads_on _ _ _ looks step)
