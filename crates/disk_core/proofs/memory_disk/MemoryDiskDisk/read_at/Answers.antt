use Rattle.std.proofs.Common.{◌≡◌, ap, ◌∙◌, ℕ, ◌-◌, min, List, length, take, drop, length-drop, arith}
use Rattle.std.proofs.lemmas.List.{take_rest, drop_min}
use Rattle.disk_core.specs.DiskLog.{stored}
use Rattle.disk_core.proofs.Steps.{stepped, reads_on, looks}
use Rattle.disk_core.proofs.memory_disk.MemoryDiskDisk.read_at.Goals as goal

-- what stands from a place on, also where that is past the end
from_start : (place start : ℕ) (there : List ℕ) → start ≡ min place (length there)
    → take (length there - start) (drop start there) ≡ drop place there
from_start place start there is = take_rest there start ∙ ap (λ (n : ℕ). drop n there) is
    ∙ drop_min place there

pub returns-clause-bytes : goal.returns-clause-bytes
returns-clause-bytes c =
    let step = stepped _ _ c.make.result c.ask.new.self c.make.new.self c.make.ensures in
    let same : c.bytes-bytes.result.now ≡ stored c.args.self.now = c.bytes-bytes.ensures
    ∙ reads_on _ _ _ looks step ∙ ap stored c.ask.ensures.asked in
    c.fill_front.ensures.bytes
    ∙ ap (λ (l : List ℕ). take c.fill_front.result l)
    (from_start c.args.place c.min-start.result c.bytes-bytes.result.now c.min-start.ensures
    ∙ ap (λ (l : List ℕ). drop c.args.place l) same)

pub returns-clause-count : goal.returns-clause-count
returns-clause-count c =
    let step = stepped _ _ c.make.result c.ask.new.self c.make.new.self c.make.ensures in
    let same : c.bytes-bytes.result.now ≡ stored c.args.self.now = c.bytes-bytes.ensures
    ∙ reads_on _ _ _ looks step ∙ ap stored c.ask.ensures.asked in
    let rest = ap length (from_start c.args.place c.min-start.result c.bytes-bytes.result.now
    c.min-start.ensures) in
    let long = ap length same in
    let size = length-drop c.args.place c.bytes-bytes.result.now in
    omega (arith, rest, long, size, c.fill_front.ensures.count)
