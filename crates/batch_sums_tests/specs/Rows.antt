-- Packs of one batch and day.
use Rattle.std.specs.Prelude.{◌≡◌, ℕ, ℤ, List, length}
use Rattle.std.specs.List.{All}
use Rattle.batch_sums.specs.Totals.{Terms, Sums}
use Rattle.batch_sums.specs.declared.types.Pack.{Pack}
use Rattle.batch_sums_tests.specs.Halls.{IsKept}

abbrev pub IsOneGroup : ℕ → ℤ → List Pack → Type 0
IsOneGroup batch day packs = All (λ pack. (pack.batch ≡ batch) × (pack.day ≡ day)) packs

-- so many packs of one group were added
pub record IsFilled (batches : List Terms) (batch count : ℕ) (day tare : ℤ) (sums : Sums)
    : Type 0 where
  pub same : sums.batches ≡ batches
  pub kept : IsKept count day tare sums.packs
  pub one : IsOneGroup batch day sums.packs
  pub long : length sums.packs ≡ count
