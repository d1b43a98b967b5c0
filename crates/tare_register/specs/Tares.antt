-- The tares of the hall's products. All masses are milligrams, days are counted from 1970-01-01.
use Rattle.std.specs.Prelude.{◌≡◌, ℕ, ℤ, Bool, true, IsTrue, ◌&&◌, ◌==◌, if◌then◌else◌, int_le, int_lt, List, [], ◌∷◌, ◌++◌}
use Rattle.std.specs.Prelude.{Option, Some, None, filter, map}
use Rattle.std.specs.Option.{option_map_or}
use Rattle.std.specs.Int.{int_min}
use Rattle.pack_judge.specs.declared.tares.DatedTare.{DatedTare}
use Rattle.pack_judge.specs.declared.tares.Span.{Span}
use Rattle.pack_judge.specs.Tares.{tare_by_rule, covers}
use Rattle.tare_register.specs.declared.types.ProductTare.{ProductTare}

-- what the register holds: its entries in the order in which they were put, and how many places
-- are reserved for more
pub record Register : Type 0 where
  pub entries : List ProductTare
  pub spare : ℕ

-- whether a tare that is put behind others decides on a day, where one of them decided so far: it
-- is dated by that day, and that one has no greater day
abbrev pub decides : DatedTare → ℤ → Option DatedTare → Bool
decides dated day known =
    int_le dated.day day && option_map_or (λ before. int_le before.day dated.day) known true

-- the tares of a product among the entries, in the order in which they were put
abbrev pub tares_of : List ProductTare → ℕ → List DatedTare
tares_of entries product =
    map (λ entry. entry.dated) (filter (λ entry. entry.product == product) entries)

-- the tare of a product on a day
abbrev pub tare_of : List ProductTare → ℕ → ℤ → Option ℤ
tare_of entries product day = tare_by_rule (tares_of entries product) day

-- the days after a day for which there is a tare
abbrev pub days_after : List DatedTare → ℤ → List ℤ
days_after tares day = map (λ dated. dated.day) (filter (λ dated. int_lt day dated.day) tares)

-- the least of some days
abbrev pub least_day : List ℤ → Option ℤ
least_day [] = None
least_day (day ∷ days) = Some (option_map_or (int_min day) (least_day days) day)

-- the first day after a day for which there is a tare
abbrev pub next_day : List DatedTare → ℤ → Option ℤ
next_day tares day = least_day (days_after tares day)

-- the days from a day on, before the next one for which the product has an entry
abbrev pub span_of : List ProductTare → ℕ → ℤ → Span
span_of entries product day =
    record { from = day; until = next_day (tares_of entries product) day }

-- a tare of a product for a day
abbrev pub entry_of : ℕ → ℤ → ℤ → ProductTare
entry_of product day tare = record { product = product; dated = record { day = day; tare = tare } }

-- an entry put last for this product and day decides the tare of that product on the days of the
-- span, and no other tare
abbrev pub DecidesWithin : Span → List ProductTare → ℕ → ℤ → Type 0
DecidesWithin span entries product day =
    (tare : ℤ) (other_product : ℕ) (other_day : ℤ) →
    tare_of (entries ++ entry_of product day tare ∷ []) other_product other_day ≡
    (if (product == other_product) && covers span other_day
    then Some tare else tare_of entries other_product other_day)

-- on each day of a span a product has the tare that it has on the first
abbrev pub HasOneTareWithin : Span → List ProductTare → ℕ → Type 0
HasOneTareWithin span entries product =
    (day : ℤ) → IsTrue (covers span day) →
    tare_of entries product day ≡ tare_of entries product span.from
