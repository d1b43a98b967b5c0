-- The keys by which the lines of a paper are looked up.
use Rattle.std.specs.Prelude.{◌≡◌, ℕ, ℤ, neg_ℤ, Bool, List, map, unsigned_abs}
use Rattle.hall_limits.specs.declared.TheConstants.{MAX_GROSS, MAX_TARE}
use Rattle.book_words.specs.Refusals.{is_within}
use Rattle.paper_form.specs.declared.types.Pack as packs
use Rattle.paper_check.specs.declared.tares.Keys.{Keys}
use Rattle.paper_form.specs.Papers.{PaperData}
use Rattle.paper_form.specs.Ranges.{days_of, numbers_of}

-- the days of some packs
abbrev pub pack_days_of : List packs.Pack → List ℕ
pack_days_of packs = map (λ pack. unsigned_abs pack.day) packs

-- the days of the tares of a paper, and the numbers of its packs
pub record AreKeysOf (paper : PaperData) (keys : Keys) : Type 0 where
  pub days : keys.days.items ≡ days_of paper.tares
  pub numbers : keys.numbers.items ≡ numbers_of paper.packs

-- contents and nets are within what a gross less a tare can be
abbrev pub is_mass : ℤ → Bool
is_mass mass = is_within (neg_ℤ MAX_TARE) MAX_GROSS mass
