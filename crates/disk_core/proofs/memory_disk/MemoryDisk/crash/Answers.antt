use Rattle.std.proofs.Common.{◌≡◌, ℕ, List, take, sym, ◌∙◌, ap, subst}
use Rattle.std.proofs.lemmas.List.{take_all}
use Rattle.disk_core.specs.DiskLog.{IsImage, kept_after}
use Rattle.disk_core.proofs.Log.{next_read, next_kept, kept_is_image}
use Rattle.disk_core.proofs.memory_disk.MemoryDisk.crash.Goals as goal

pub loop-call-preserved : goal.loop-call-preserved
loop-call-preserved c =
    let i = c.loop-call.call-index in
    let calls = take c.args.after c.deref-3.result.now in
    let first = c.args.self.now.first in
    record {
      read = next_read first calls i c.call-item.result c.loop-call-test.true c.call-item.is _ _
          c.loop-call.invariant.read c.in_ok-play.ensures.now;
      kept = next_kept first calls i c.call-item.result c.loop-call-test.true c.call-item.is
          c.args.keep _ _ _ c.loop-call.invariant.read c.loop-call.invariant.kept
          c.in_ok-play.ensures.image;
      items = c.loop-call.invariant.items;
    }

pub returns-clause-image : goal.returns-clause-image
returns-clause-image c =
    let first = c.args.self.now.first in
    let calls = take c.args.after c.args.self.now.calls in
    let whole : take c.loop-call.call-index (take c.args.after c.deref-3.result.now) ≡ calls =
    take_all _ _ c.loop-call-test.false ∙ c.loop-call.invariant.items in
    let is = c.loop-call.invariant.kept ∙ ap (λ l. kept_after c.args.keep l first first) whole in
    subst (λ (b : List ℕ). IsImage first calls b) (sym is) (kept_is_image c.args.keep first calls)
