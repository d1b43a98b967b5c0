-- What holds of the packs of a hall.
use Rattle.std.specs.Prelude.{◌≡◌, ℕ, ℤ, ◌<◌, ◌≤ℤ◌, true, List}
use Rattle.std.specs.List.{All}
use Rattle.hall_limits.specs.declared.TheConstants.{MAX_TARE, MAX_DAY}
use Rattle.batch_sums.specs.declared.types.Pack.{Pack}
use Rattle.batch_sums.specs.Changes.{is_added, IsUpTo}

-- a pack has a number below the next, and a day up to today; one of today has today's tare
pub record Fits (next : ℕ) (today tare : ℤ) (pack : Pack) : Type 0 where
  pub number : pack.number < next
  pub day : pack.day ≤ℤ today
  pub tared : pack.day ≡ today → pack.tare ≡ tare

-- all packs fit, and each number below the next is that of one
pub record IsKept (next : ℕ) (today tare : ℤ) (packs : List Pack) : Type 0 where
  pub fits : All (Fits next today tare) packs
  pub added : (number : ℕ) → number < next → is_added packs number ≡ true
  pub day : IsUpTo MAX_DAY today
  pub light : IsUpTo MAX_TARE tare
