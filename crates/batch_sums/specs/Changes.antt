-- What the three changing calls make of the list of packs.
use Rattle.std.specs.Prelude.{◌≡◌, ℕ, ℤ, pos, ◌+◌, ◌<◌, ◌≤◌, ◌≤ℤ◌, Bool, false, ◌&&◌, ◌==◌, List, [], ◌∷◌, map, filter, count_by, if◌then◌else◌}
use Rattle.std.specs.Ordering.{int_eq}
use Rattle.std.specs.List.{list_any, slice_get, All}
use Rattle.std.specs.Option.{option_map_or}
use Rattle.annex_tables.specs.declared.TheConstants.{MAX_POPULATION}
use Rattle.pack_judge.specs.declared.types.Pile.{Pile}
use Rattle.pack_judge.specs.declared.tares.Span.{Span}
use Rattle.pack_judge.specs.Tares.{covers}
use Rattle.pack_groups.specs.Population.{is_counted}
use Rattle.batch_sums.specs.Totals.{Terms}
use Rattle.batch_sums.specs.declared.types.Pack.{Pack}

-- a number from 0 to a limit
abbrev pub IsUpTo : ℤ → ℤ → Type 0
IsUpTo limit number = (pos 0 ≤ℤ number) × (number ≤ℤ limit)

-- the packs of a batch and day that were added have this tare
abbrev pub IsTareOf : ℕ → ℤ → ℤ → List Pack → Type 0
IsTareOf batch day tare packs =
    All (λ pack. pack.batch ≡ batch → pack.day ≡ day → pack.tare ≡ tare) packs

-- a number above those of all packs that were added
abbrev pub IsAbove : List Pack → ℕ → Type 0
IsAbove packs number = All (λ pack. pack.number < number) packs

-- whether a pack of this number was added
abbrev pub is_added : List Pack → ℕ → Bool
is_added packs number = list_any (λ pack. number == pack.number) packs

-- the packs after the one of this number went to a pile
abbrev pub moved : ℕ → Pile → List Pack → List Pack
moved number pile packs =
    map (λ (pack : Pack). if pack.number == number then record pack { pile = pile } else pack)
    packs

-- whether a pack belongs to a product, and its day is one of a span
abbrev pub is_concerned : List Terms → ℕ → Span → Pack → Bool
is_concerned batches product span pack =
    option_map_or (λ terms. terms.product == product) (slice_get batches pack.batch) false
    && covers span pack.day

-- the packs after those of a product in a span got another tare
abbrev pub corrected : List Terms → ℕ → Span → ℤ → List Pack → List Pack
corrected batches product span tare packs =
    map (λ (pack : Pack).
    if is_concerned batches product span pack then record pack { tare = tare } else pack)
    packs

-- whether two packs are of one group: of one batch and day
abbrev pub same_group : Pack → Pack → Bool
same_group one other = (one.batch == other.batch) && int_eq one.day other.day

-- in how many groups some packs lie
abbrev pub group_count : List Pack → ℕ
group_count [] = 0
group_count (pack ∷ packs) =
    if list_any (same_group pack) packs then group_count packs else group_count packs + 1

-- how many packs of the population lie in the group of a batch and day
abbrev pub group_population : ℕ → ℤ → List Pack → ℕ
group_population batch day packs =
    count_by (λ pack. ((pack.batch == batch) && int_eq pack.day day) && is_counted pack.pile)
    packs

-- those of some packs that belong to a product, on the days of a span
abbrev pub concerned : List Terms → ℕ → Span → List Pack → List Pack
concerned batches product span packs = filter (is_concerned batches product span) packs

-- no group has more packs in its population than a batch may have
abbrev pub HasFewPerGroup : List Pack → Type 0
HasFewPerGroup packs = (batch : ℕ) (day : ℤ) → group_population batch day packs ≤ MAX_POPULATION
