use Rattle.std.proofs.Common.{◌≡◌, sym, ◌∙◌, ap, ℕ, List, [], ◌∷◌, ◌++◌}
use Rattle.disk_core.specs.Disk.{overwritten}
use Rattle.disk_core.specs.DiskLog.{DiskLog, read_after, content}
use Rattle.disk_core.specs.declared.disk_call.DiskCall.{DiskCall}
use Rattle.disk_core.specs.declared.disk_call.DiskCall.TheVariants.{Wrote}
use Rattle.disk_core.proofs.Log.{read_after-append}
use Rattle.disk_core.proofs.memory_disk.MemoryDisk.store.Goals as goal

pub invariant_of-self-2 : goal.invariant_of-self-2
invariant_of-self-2 c =
    let first = c.self.inside.first.items in
    let calls = c.self.inside.calls.items in
    let call = Wrote c.args.place c.in_ok-kept.kept in
    let pushed : c.push.new.self.items ≡ calls ++ call ∷ [] =
    (rw c.unwrap.ensures at c.push.ensures.items)
    ∙ ap (λ (l : List DiskCall). l ++ call ∷ []) c.in_ok-reserve.ensures.items in
    ap (λ (f : List ℕ). content f c.overwrite_file.new.written) (sym c.deref.ensures.value)
    ∙ c.in_ok-overwrite_file.ensures.ok
    ∙ ap (λ (f : List ℕ). overwritten
    (content f c.self.inside.written) c.args.place c.args.bytes.now) c.deref.ensures.value
    ∙ ap (λ (o : List ℕ). overwritten o c.args.place c.args.bytes.now) c.self.invariant
    ∙ ap (λ (b : List ℕ). overwritten (read_after calls first) c.args.place b)
    (sym c.in_ok-kept.ensures.items)
    ∙ sym (read_after-append calls call first)
    ∙ ap (λ (l : List DiskCall). read_after l first) (sym pushed)

pub returns-clause-ok : goal.returns-clause-ok
returns-clause-ok c =
    let calls = c.self.inside.calls.items in
    let kept = c.in_ok-kept.kept in
    let call = Wrote c.args.place kept in
    let pushed : c.push.new.self.items ≡ calls ++ call ∷ [] =
    (rw c.unwrap.ensures at c.push.ensures.items)
    ∙ ap (λ (l : List DiskCall). l ++ call ∷ []) c.in_ok-reserve.ensures.items in
    let view : DiskLog = record {
      first = c.self.inside.first.items;
      calls = calls;
      fails =
          c.self.inside.fails.items;
      faults = c.self.inside.faults;
      asked = c.self.inside.asked;
    } in (
      kept,
      c.in_ok-kept.ensures.items,
      ap (λ (l : List DiskCall). record view { calls = l }) pushed
          ∙ ap (λ (v : DiskLog). record v { calls = v.calls ++ call ∷ [] }) c.self.view_is,
    )
