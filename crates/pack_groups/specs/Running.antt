-- The running totals of a batch, and what a pack that comes in or goes out does to them.
use Rattle.std.specs.Prelude.{◌^◌, ◌≡◌, ℕ, pos, ◌-ℤ◌, ◌+◌, ◌-◌, ◌*◌, length, ◌<◌, ◌≤◌, ◌&&◌, nat_lt, if◌then◌else◌}
use Rattle.pack_judge.specs.declared.types.Pile.{Pile}
use Rattle.pack_judge.specs.declared.types.Pile.TheVariants.{Passed, Rejected, Sampled, Voided}
use Rattle.pack_judge.specs.declared.types.Tally.{Tally}
use Rattle.pack_groups.specs.declared.types.Piles.{Piles}
use Rattle.pack_groups.specs.declared.types.Totals.{Totals}
use Rattle.pack_groups.specs.declared.batch.Batch.{Batch}
use Rattle.pack_groups.specs.declared.batch.PileSums.{PileSums}
use Rattle.pack_groups.specs.declared.group.Group.{Group}
use Rattle.pack_groups.specs.Groups.{threshold}
use Rattle.pack_groups.specs.Population.{is_counted}
use Rattle.pack_judge.specs.Piles.{same_pile}

-- how many packs a pile has, and the sum of their grosses in mg
pub record PileSum : Type 0 where
  pub count : ℕ
  pub gross : ℕ

-- the sums of a pile
abbrev pub sum_in : PileSums → Pile → PileSum
sum_in sums Passed = record { count = sums.counts.passed; gross = sums.grosses.passed }
sum_in sums Rejected = record { count = sums.counts.rejected; gross = sums.grosses.rejected }
sum_in sums Sampled = record { count = sums.counts.sampled; gross = sums.grosses.sampled }
sum_in sums Voided = record { count = sums.counts.voided; gross = sums.grosses.voided }

-- what a batch keeps of a pile
abbrev pub pile_sum : Batch → Pile → PileSum
pile_sum batch pile = sum_in batch.piles pile

-- a pile counts one pack more, and no other does
abbrev pub CountsOneMore : PileSums → PileSums → Pile → Type 0
CountsOneMore before after pile =
    (other : Pile) → (sum_in after other).count
    ≡ (sum_in before other).count + (if same_pile pile other then 1 else 0)

-- the grosses of a pile are more by a mass, and those of no other
abbrev pub WeighsMore : PileSums → PileSums → Pile → ℕ → Type 0
WeighsMore before after pile mass =
    (other : Pile) → (sum_in after other).gross
    ≡ (sum_in before other).gross + (if same_pile pile other then mass else 0)

-- 1 for a pack that counts for the population and is below a least gross
abbrev pub one_if_below : Pile → ℕ → ℕ → ℕ
one_if_below pile gross least = if is_counted pile && nat_lt gross least then 1 else 0

-- the batch `after` has the packs of `before` and one more
pub record IsEntered (before after : Batch) (pile : Pile) (mass tare : ℕ) : Type 0 where
  pub count : (other : Pile) → (pile_sum after other).count
      ≡ (pile_sum before other).count + (if same_pile pile other then 1 else 0)
  pub gross : (other : Pile) → (pile_sum after other).gross
      ≡ (pile_sum before other).gross + (if same_pile pile other then mass else 0)
  pub tares : after.tares ≡ before.tares + (if is_counted pile then tare else 0)
  pub nonstandard : after.nonstandard
      ≡ before.nonstandard + one_if_below pile mass (threshold before.limits.t1 tare)
  pub inadequate : after.inadequate
      ≡ before.inadequate + one_if_below pile mass (threshold before.limits.t2 tare)
  pub product : after.product ≡ before.product
  pub limits : after.limits ≡ before.limits

-- there is room in the counts and sums for one pack more in a pile
pub record HasRoom (batch : Batch) (pile : Pile) : Type 0 where
  pub count : (pile_sum batch pile).count < 2 ^ 32 - 1
  pub gross : (pile_sum batch pile).gross < 2 ^ 63
  pub tares : batch.tares < 2 ^ 63
  pub nonstandard : batch.nonstandard < 2 ^ 32 - 1
  pub inadequate : batch.inadequate < 2 ^ 32 - 1

-- a pack is among those that the counts and sums are of
pub record Covers (batch : Batch) (pile : Pile) (mass tare : ℕ) : Type 0 where
  pub count : 0 < (pile_sum batch pile).count
  pub gross : mass ≤ (pile_sum batch pile).gross
  pub tares : (if is_counted pile then tare else 0) ≤ batch.tares
  pub nonstandard : one_if_below pile mass (threshold batch.limits.t1 tare) ≤ batch.nonstandard
  pub inadequate : one_if_below pile mass (threshold batch.limits.t2 tare) ≤ batch.inadequate

-- a group's packs are among those that the sums are of, and there is room for any other share of
-- theirs
pub record HasShare (batch : Batch) (group : Group) : Type 0 where
  pub tares : length group.grosses * group.tare ≤ batch.tares
  pub nonstandard : group.nonstandard ≤ batch.nonstandard
  pub inadequate : group.inadequate ≤ batch.inadequate
  pub few : length group.grosses < 2 ^ 32
  pub rest : (batch.nonstandard - group.nonstandard) + length group.grosses < 2 ^ 32
  pub other : (batch.inadequate - group.inadequate) + length group.grosses < 2 ^ 32
  pub light : batch.tares < 2 ^ 63

-- the sums of a batch after one of its groups was judged anew
pub record IsCorrected (before after : Batch) (old new : Group) : Type 0 where
  pub piles : (pile : Pile) → pile_sum after pile ≡ pile_sum before pile
  pub tares : after.tares + length old.grosses * old.tare
      ≡ before.tares + length new.grosses * new.tare
  pub nonstandard : after.nonstandard + old.nonstandard ≡ before.nonstandard + new.nonstandard
  pub inadequate : after.inadequate + old.inadequate ≡ before.inadequate + new.inadequate
  pub product : after.product ≡ before.product
  pub limits : after.limits ≡ before.limits

-- the sums of a batch are so small that they can be told
pub record IsBounded (batch : Batch) : Type 0 where
  pub passed : batch.piles.grosses.passed < 2 ^ 61
  pub rejected : batch.piles.grosses.rejected < 2 ^ 61
  pub sampled : batch.piles.grosses.sampled < 2 ^ 61
  pub voided : batch.piles.grosses.voided < 2 ^ 61
  pub tares : batch.tares < 2 ^ 61
  pub count : batch.piles.counts.passed + batch.piles.counts.sampled < 2 ^ 32

abbrev pub shown_tally : PileSum → Tally
shown_tally sum = record { count = sum.count; gross = pos sum.gross }

-- the sums of each pile as tallies
abbrev pub shown_tallies : PileSums → Piles
shown_tallies sums =
    record {
      passed = shown_tally (sum_in sums Passed);
      rejected = shown_tally (sum_in sums Rejected);
      sampled = shown_tally (sum_in sums Sampled);
      voided = shown_tally (sum_in sums Voided);
    }

-- the sums of a batch as totals
abbrev pub shown : Batch → Totals
shown batch =
    record {
      passed = shown_tally (pile_sum batch Passed);
      rejected = shown_tally (pile_sum batch Rejected);
      sampled = shown_tally (pile_sum batch Sampled);
      voided = shown_tally (pile_sum batch Voided);
      population = batch.piles.counts.passed + batch.piles.counts.sampled;
      net = pos (batch.piles.grosses.passed + batch.piles.grosses.sampled) -ℤ pos batch.tares;
      nonstandard = batch.nonstandard;
      inadequate = batch.inadequate;
    }
