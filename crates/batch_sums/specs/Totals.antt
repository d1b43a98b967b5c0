-- Packs as a caller sees them, and the totals of a batch: filters and sums over the packs that were
-- added. All masses are mg.
use Rattle.std.specs.Prelude.{ℕ, ℤ, ◌-ℤ◌, not, ◌==◌, List, length, filter, count_by, int_lt, Option, option_map}
use Rattle.std.specs.List.{slice_get}
use Rattle.annex_tables.specs.declared.types.Limits.{Limits}
use Rattle.pack_judge.specs.declared.types.Pile.{Pile}
use Rattle.pack_judge.specs.declared.types.Pile.TheVariants.{Passed, Rejected, Sampled, Voided}
use Rattle.pack_judge.specs.declared.types.Tally.{Tally}
use Rattle.pack_judge.specs.Piles.{pile_members, mass_sum, pile_tally}
use Rattle.pack_groups.specs.Population.{is_counted}
use Rattle.batch_sums.specs.declared.types.Pack.{Pack}
use Rattle.pack_groups.specs.declared.types.Totals.{Totals}

-- a batch that was added: whose product it is, and the limits that its nets are held against
pub record Terms : Type 0 where
  pub product : ℕ
  pub limits : Limits

-- a gross less the tare of its batch and day as it now is
abbrev pub net_of : Pack → ℤ
net_of pack = pack.gross -ℤ pack.tare

-- those of some packs that belong to a batch
abbrev pub of_batch : ℕ → List Pack → List Pack
of_batch batch packs = filter (λ pack. pack.batch == batch) packs

-- those of some packs that lie in a pile
abbrev pub in_pile : Pile → List Pack → List Pack
in_pile pile packs = pile_members (λ pack. pack.pile) pile packs

-- those of some packs that count for the population
abbrev pub population : List Pack → List Pack
population packs = filter (λ pack. is_counted pack.pile) packs

-- how many of some packs don't count for it
abbrev pub left_out : List Pack → ℕ
left_out packs = count_by (λ pack. not (is_counted pack.pile)) packs

-- the sum of their grosses
abbrev pub gross_sum : List Pack → ℤ
gross_sum packs = mass_sum (λ pack. pack.gross) packs

-- the sum of their nets
abbrev pub net_sum : List Pack → ℤ
net_sum packs = mass_sum net_of packs

-- how many packs there are, and the sum of their grosses
abbrev pub tally : List Pack → Tally
tally packs = pile_tally (λ pack. pack.gross) packs

-- how many of some packs have a net below a limit
abbrev pub count_below : ℤ → List Pack → ℕ
count_below limit packs = count_by (λ pack. int_lt (net_of pack) limit) packs

-- the totals of some packs by two limits
abbrev pub pack_totals : Limits → List Pack → Totals
pack_totals limits packs =
    record {
      passed = tally (in_pile Passed packs);
      rejected = tally (in_pile Rejected packs);
      sampled = tally (in_pile Sampled packs);
      voided = tally (in_pile Voided packs);
      population = length (population packs);
      net = net_sum (population packs);
      nonstandard = count_below limits.t1 (population packs);
      inadequate = count_below limits.t2 (population packs);
    }

-- the totals of a batch
abbrev pub totals_of : Limits → List Pack → ℕ → Totals
totals_of limits packs batch = pack_totals limits (of_batch batch packs)

-- what contracts see: the batches and the packs in the order in which they were added, how many
-- more are sure to find room, and how many nodes lie ready for grosses
pub record Sums : Type 0 where
  pub batches : List Terms
  pub packs : List Pack
  pub spare : ℕ
  pub nodes : ℕ

-- the totals of a batch that was added
abbrev pub kept_totals : Sums → ℕ → Option Totals
kept_totals sums batch =
    option_map (λ terms. totals_of terms.limits sums.packs batch) (slice_get sums.batches batch)

-- the limits of a batch that was added
abbrev pub kept_limits : Sums → ℕ → Option Limits
kept_limits sums batch = option_map (λ terms. terms.limits) (slice_get sums.batches batch)
