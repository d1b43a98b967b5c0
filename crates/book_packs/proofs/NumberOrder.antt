-- What readings whose numbers ascend have.
use Rattle.std.proofs.Common.{ℕ, ◌+◌, ◌<◌, ◌≤◌, List, [], ◌∷◌, length, arith}
use Rattle.std.specs.List.{AllByRecursion}
use Rattle.std.specs.List.Sorted.{IsStrictlyIncreasing}
use Rattle.book_words.specs.declared.name.Name.{Name}
use Rattle.book_words.specs.declared.act.Entry.{Entry}
use Rattle.book_words.specs.declared.act.Reading.{Reading}
use Rattle.book_words.specs.Readings.{readings}
use Rattle.book_words.specs.Population.{population}
use Rattle.book_words.specs.Samples.{numbers_of}
use Rattle.book_words.proofs.DrawnPacks.{AscendWithin, ascend-increasing, readings_ascend, population_ascends}
use Rattle.book_packs.proofs.Lists.{all_then}

-- each has a number above that from which they ascend
pub later : (low most : ℕ) (some : List Reading) → AscendWithin (low + 1) most (numbers_of some)
    → AllByRecursion (λ reading. low < reading.number) some
later low most [] up = tt
later low most (reading ∷ some) up = (
  omega (arith, up.0),
  all_then (λ other h. omega (arith, h, up.0)) some
      (later reading.number most some up.2),
)

-- and none above that up to which they do
up_to_most : (least most : ℕ) (some : List Reading) → AscendWithin least most (numbers_of some)
    → AllByRecursion (λ reading. reading.number ≤ most) some
up_to_most least most [] up = tt
up_to_most least most (reading ∷ some) up = (up.1, up_to_most (reading.number + 1) most some up.2)

-- no reading has a number above the length of the list
pub numbers_within : (entries : List Entry)
    → AllByRecursion (λ reading. reading.number ≤ length entries) (readings entries)
numbers_within entries = up_to_most 1 (length entries) (readings entries) (readings_ascend entries)

-- the numbers of a population increase
pub population_increases : (entries : List Entry) (batch : Name)
    → IsStrictlyIncreasing (numbers_of (population entries batch))
population_increases entries batch =
    ascend-increasing 1 (length entries) (numbers_of (population entries batch))
    (population_ascends entries batch)
