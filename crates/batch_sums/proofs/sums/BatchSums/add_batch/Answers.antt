use Rattle.std.proofs.Common.{◌≡◌, ◌++◌, ◌∷◌, [], sym, subst, ap, refl, ◌∙◌, arith}
use Rattle.batch_sums.specs.Kept.{Sound}
use Rattle.batch_sums.specs.Totals.{Sums}
use Rattle.std.proofs.lemmas.List.{map-append}
use Rattle.pack_groups.specs.declared.batch.Batch.{Batch}
use Rattle.batch_sums.specs.Invariant.{reaches_of}
use Rattle.batch_sums.proofs.ChainLemmas.{chained_batch}
use Rattle.batch_sums.proofs.Homes.{chained_as}
use Rattle.batch_sums.proofs.NewPacks.{sound_batch}
use Rattle.batch_sums.proofs.sums.BatchSums.add_batch.Goals as goal

pub invariant_of-self : goal.invariant_of-self
invariant_of-self c =
    let sums = c.self.inside in
    let settled = c.self.invariant.settled in
    let room = c.self.invariant.room in
    let made = c.new.ensures in
    let spare = ap (λ (s : Sums). s.spare) c.self.view_is in
    let pushed : c.push_reserved.new.self.items ≡ sums.batches.items ++ c.new.result ∷ [] =
    c.push_reserved.ensures.items in
    record {
      settled = record {
        sound = subst (λ bs. Sound bs sums.groups.items sums.packs.items) (sym pushed)
            (sound_batch sums.batches.items sums.groups.items sums.packs.items settled.sound
            c.new.result made.piles made.tares made.nonstandard made.inadequate);
        balanced = settled.balanced;
        index = settled.index;
        used = settled.used;
        small = settled.small;
        rising = settled.rising;
        chained = chained_as _ _ _ _ _ _
            (ap reaches_of pushed ∙ map-append (λ (b : Batch). b.reach) sums.batches.items
            (c.new.result ∷ []) ∙ ap (λ n. reaches_of sums.batches.items ++ n ∷ []) made.reach) refl
            refl
            (chained_batch _ _ _ settled.chained);
      };
      tallied = c.self.invariant.tallied;
      room = record {
        batches = omega (
          arith,
          room.batches,
          c.push_reserved.ensures.len,
          c.push_reserved.ensures.capacity,
          c.in_ok-reserve.ensures.ok,
          spare,
        );
        groups = omega (arith, room.groups);
        packs = omega (arith, room.packs);
        nodes = omega (arith, room.nodes);
        back = room.back;
        order_nodes = omega (arith, room.order_nodes);
        few_batches = omega (
          arith,
          room.few_batches,
          c.push_reserved.ensures.len,
          c.in_ok-reserve.ensures.ok,
          spare,
        );
        few_packs = omega (arith, room.few_packs);
      };
    }
