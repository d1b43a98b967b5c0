use Rattle.std.proofs.Common.{sym, ◌∙◌, ap}
use Rattle.disk_core.specs.DiskLog.{read_after}
use Rattle.disk_core.proofs.Log.{read_after-append}
use Rattle.disk_core.proofs.memory_disk.MemoryDisk.remember.Goals as goal

pub invariant_of-self-2 : goal.invariant_of-self-2
invariant_of-self-2 c =
    let first = c.self.inside.first.items in
    let calls = c.self.inside.calls.items in
    c.self.invariant ∙ sym (ap (λ l. read_after l first) c.in_ok-push.ensures.items
    ∙ read_after-append calls c.args.call first ∙ c.requires (read_after calls first))
