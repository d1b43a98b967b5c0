use Rattle.std.proofs.Common.{◌≡◌, ◌-◌, min, List, ℕ, length, take, drop, Some, IfOk, ap, refl, subst, arith, rules}
use Rattle.device_facts.specs.Count.{counted}
use Rattle.disk_core.specs.DiskLog.{stored}
use Rattle.disk_core.specs.DiskLaws.{told_image}
use Rattle.disk_core.proofs.Steps.{stepped, made_counts, made_asked, goes_on, reads_on, looks, syncs, looked_images, synced_images, synced_only, told_same, made_writes}
use Rattle.disk_core.proofs.memory_disk.MemoryDiskDisk.TheImpl.Goals as goal

pub len-tells : goal.len-tells
len-tells c =
    let old = c.args.self.now in
    let new = c.new.self.now in
    let step = stepped _ _ c.result old new c.ensures.made in
    record {
      length = λ bytes told. subst (λ (b : List ℕ). IfOk c.result (λ count. count ≡ length b))
          (told_same _ _ told) c.ensures.length;
      reads = ap (λ (b : List ℕ). Some b) (reads_on _ old new looks step);
      images = looked_images old new step;
      time = goes_on _ old new step;
      cause = made_counts _ _ c.result old new c.ensures.made;
      asked = made_asked _ _ c.result old new c.ensures.made;
    }

pub read_at-tells : goal.read_at-tells
read_at-tells c =
    let old = c.args.self.now in
    let new = c.new.self.now in
    let more = counted old.asked (length c.new.into.now) in
    let step = stepped _ _ c.result (record old { asked = more }) new c.ensures.made in
    let asked : new.asked ≡ more =
    made_asked _ _ c.result (record old { asked = more }) new c.ensures.made in
    record {
      bound = search rules;
      count = λ bytes told. subst (λ (b : List ℕ). IfOk c.result
          (λ count. count ≡ min (length c.new.into.now) (length b - c.args.place)))
          (told_same _ _ told) c.ensures.count;
      bytes = λ bytes told. subst (λ (b : List ℕ). IfOk c.result
          (λ count. take count c.new.into.now ≡ take count (drop c.args.place b)))
          (told_same _ _ told) c.ensures.bytes;
      reads = ap (λ (b : List ℕ). Some b) (reads_on _ (record old { asked = more }) new looks step);
      images = looked_images (record old { asked = more }) new step;
      time = goes_on _ (record old { asked = more }) new step;
      cause = made_counts _ _ c.result (record old { asked = more }) new c.ensures.made;
      asked_more = c.ensures.asked_more;
      asked_most = omega (arith, asked);
    }

pub write_at-tells : goal.write_at-tells
write_at-tells c =
    let old = c.args.self.now in
    let new = c.new.self.now in
    let step = stepped _ _ c.result old new c.ensures.made in
    record {
      writes = λ there told. made_writes old new c.args.place c.args.bytes.now there
          (c.requires.within there told) told c.result c.ensures.made;
      tells = refl;
      time = goes_on _ old new step;
      cause = made_counts _ _ c.result old new c.ensures.made;
      asked = made_asked _ _ c.result old new c.ensures.made;
    }

pub sync-tells : goal.sync-tells
sync-tells c =
    let old = c.args.self.now in
    let new = c.new.self.now in
    let step = stepped _ _ c.result old new c.ensures.made in
    record {
      stable = λ bytes told. synced_only _ c.result old new bytes c.ensures.made told;
      reads = ap (λ (b : List ℕ). Some b) (reads_on _ old new syncs step);
      images = synced_images old new (told_image old (stored old) refl) step;
      time = goes_on _ old new step;
      cause = made_counts _ _ c.result old new c.ensures.made;
      asked = made_asked _ _ c.result old new c.ensures.made;
    }
