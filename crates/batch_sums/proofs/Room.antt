-- What grows keeps what always holds.
use Rattle.std.proofs.Common.{◌≡◌, List, sym, subst}
use Rattle.batch_sums.specs.declared.types.Held.{Held}
use Rattle.batch_sums.specs.declared.sums.BatchSums.TheInside.{Inside}
use Rattle.batch_sums.specs.Invariant.{IsKept, IsRoomy}

pub kept_on : (old new : Inside) → IsKept old → new.batches.items ≡ old.batches.items
    → new.groups.items ≡ old.groups.items → new.order ≡ old.order
    → new.packs.items ≡ old.packs.items → new.piles ≡ old.piles
    → IsRoomy old.packs.items new → IsKept new
kept_on old new kept batches groups order packs piles room =
    record {
      settled = rw (batches, groups, order, packs) kept.settled;
      room = subst (λ (xs : List Held). IsRoomy xs new) (sym packs) room;
      tallied = rw (piles, packs) kept.tallied;
    }
