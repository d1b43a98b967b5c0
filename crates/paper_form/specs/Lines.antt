-- What a line of a paper says. Its fields have one blank between each two; masses, days and numbers
-- are those that the hall reads anywhere, within their limits.
use Rattle.std.specs.Prelude.{ℕ, ◌^◌, ◌-◌, ℤ, pos, negsuc, Bool, true, false, nat_le, int_le, List, [], ◌∷◌, drop, if◌then◌else◌, Option, Some, None, option_map, option_and_then, codes}
use Rattle.std.specs.List.{slice_split}
use Rattle.std.specs.Str.{bytes_eq}
use Rattle.hall_limits.specs.declared.TheConstants.{MAX_GROSS, MAX_TARE, MAX_DENSITY, MAX_ROWS}
use Rattle.hall_units.specs.Number.{bounded_number}
use Rattle.hall_units.specs.Grams.{milligrams_of}
use Rattle.hall_units.specs.Days.{day_of}
use Rattle.annex_tables.specs.declared.types.Mode.{Mode}
use Rattle.annex_tables.specs.declared.types.Mode.TheVariants.{Keep, Destroy}
use Rattle.book_words.specs.declared.act.Unit as units
use Rattle.book_words.specs.declared.act.Unit.TheVariants.{Mass, Volume}
use Rattle.book_words.specs.declared.views.Fails.{Fails}
use Rattle.book_words.specs.declared.views.Verdict as verdicts
use Rattle.book_words.specs.declared.views.Verdict.TheVariants.{Empty, Released, Withheld}
use Rattle.book_words.specs.declared.name.Name.{Name}
use Rattle.book_words.specs.Names.{name_of}
use Rattle.book_words.specs.Verdicts.{any_fails}
use Rattle.paper_form.specs.declared.types.Goods as goods
use Rattle.paper_form.specs.declared.types.Weighed.{Weighed}
use Rattle.paper_form.specs.declared.types.Line as lines
use Rattle.paper_form.specs.declared.types.Line.TheVariants as line
use Rattle.paper_form.specs.Papers.{is_blank, are_goods_in_range}

-- what two things make, where both are there
abbrev pub from_both : {A B C : Type 0} → (A → B → C) → Option A → Option B → Option C
from_both make a b = option_and_then (λ x. option_map (make x) b) a

-- what three things make, where all are there
abbrev pub from_three : {A B C D : Type 0} → (A → B → C → D)
    → Option A → Option B → Option C → Option D
from_three make a b c = option_and_then (λ x. from_both (make x) b c) a

-- a thing that passes a test
abbrev pub where_it : {A : Type 0} → (A → Bool) → Option A → Option A
where_it test a = option_and_then (λ x. if test x then Some x else None) a

-- a number of 64 bits
abbrev pub number_in : List ℕ → Option ℕ
number_in field = bounded_number 20 (2 ^ 64 - 1) field

-- the row of a book
abbrev pub row_in : List ℕ → Option ℕ
row_in field = where_it (λ row. nat_le 1 row) (bounded_number 20 MAX_ROWS field)

-- a mass in mg, up to this one
abbrev pub mass_in : ℤ → List ℕ → Option ℤ
mass_in greatest field = where_it (λ mass. int_le mass greatest) (milligrams_of field)

-- a density in mg a litre, of grams a litre
abbrev pub natural_of : ℤ → Option ℕ
natural_of (pos number) = if nat_le number MAX_DENSITY then Some number else None
natural_of (negsuc _) = None

abbrev pub density_in : List ℕ → Option ℕ
density_in field = option_and_then natural_of (milligrams_of field)

-- the unit of a quantity: `g` or `ml`
abbrev pub unit_in : List ℕ → Option units.Unit
unit_in field =
    if bytes_eq field (codes "g") then Some Mass
    else (if bytes_eq field (codes "ml") then Some Volume
    else None)

-- what becomes of the packs of a sample: `keep` or `destroy`
abbrev pub mode_in : List ℕ → Option Mode
mode_in field =
    if bytes_eq field (codes "keep") then Some Keep
    else (if bytes_eq field (codes "destroy") then Some Destroy
    else None)

-- the fields of what is left of a line: nothing, or a blank and the fields behind it
abbrev pub fields_left : List ℕ → List (List ℕ)
fields_left [] = []
fields_left (_ ∷ text) = slice_split is_blank text

-- there is just one field
abbrev pub is_one_field : List (List ℕ) → Bool
is_one_field (field ∷ []) = true
is_one_field _ = false

-- whether fields begin with this word
abbrev pub begins_with : List ℕ → List (List ℕ) → Bool
begins_with word [] = false
begins_with word (field ∷ fields) = bytes_eq field word

-- the fields behind this word, where they begin with it, else all of them
abbrev pub behind : List ℕ → List (List ℕ) → List (List ℕ)
behind word fields = if begins_with word fields then drop 1 fields else fields

-- no field is left
abbrev pub is_over : List (List ℕ) → Bool
is_over [] = true
is_over _ = false

-- a thing where no field is left
abbrev pub alone : {A : Type 0} → A → List (List ℕ) → Option A
alone a fields = if is_over fields then Some a else None

-- the parts that fail, in their order
abbrev pub fails_in : List (List ℕ) → Option Fails
fails_in fields =
    let mean = behind (codes "contents") fields in
    let average = behind (codes "mean") mean in
    let allowance = behind (codes "average") average in
    let inadequate = behind (codes "allowance") allowance in
    alone (record {
      contents = begins_with (codes "contents") fields;
      mean = begins_with (codes "mean") mean;
      average = begins_with (codes "average") average;
      allowance = begins_with (codes "allowance") allowance;
      inadequate = begins_with (codes "inadequate") inadequate;
    }) (behind (codes "inadequate") inadequate)

-- the verdict of parts that fail, one at least
abbrev pub withheld_in : List (List ℕ) → Option verdicts.Verdict
withheld_in parts = option_map (λ fails. Withheld fails) (where_it any_fails (fails_in parts))

-- a verdict: `empty`, `released`, or `withheld` and the parts that fail, one at least
abbrev pub verdict_in : List (List ℕ) → Option verdicts.Verdict
verdict_in [] = None
verdict_in (word ∷ parts) =
    if bytes_eq word (codes "empty") then alone Empty parts
    else (if bytes_eq word (codes "released") then alone Released parts
    else (if bytes_eq word (codes "withheld") then withheld_in parts
    else None))

-- a value behind its label, and the fields behind it
pub record Labelled : Type 0 where
  pub value : List ℕ
  pub left : List (List ℕ)

-- the value behind this label, where the fields begin with the two
abbrev pub value_with : List ℕ → List (List ℕ) → Option Labelled
value_with label (field ∷ value ∷ left) =
    if bytes_eq field label then Some (record { value = value; left = left }) else None
value_with label _ = None

-- the value behind this label, where the fields are just the two
abbrev pub only_value : List ℕ → List (List ℕ) → Option (List ℕ)
only_value label fields =
    option_and_then (λ found. alone found.value found.left) (value_with label fields)

-- `gross G empty G`
abbrev pub weighed_in : List (List ℕ) → Option Weighed
weighed_in fields =
    option_and_then
    (λ told. from_both (λ gross empty. record { gross = gross; empty = empty })
    (mass_in MAX_GROSS told.value)
    (option_and_then (mass_in MAX_TARE) (only_value (codes "empty") told.left)))
    (value_with (codes "gross") fields)

-- `gross G empty G`, or `unmeasured`
abbrev pub weighed_or_not : List (List ℕ) → Option (Option Weighed)
weighed_or_not (field ∷ []) = if bytes_eq field (codes "unmeasured") then Some None else None
weighed_or_not fields = option_map (λ weighed. Some weighed) (weighed_in fields)

-- what is said of the goods, by its parts
abbrev pub goods_of : Option Name → Option Name → Option ℤ → Option units.Unit → Option ℕ
    → Option ℕ → Option goods.Goods
goods_of batch product nominal unit density row =
    option_and_then (λ b. option_and_then (λ p. option_and_then (λ n.
    from_three (λ u d r. record {
      batch = b;
      product = p;
      nominal = n;
      unit = u;
      density = d;
      row = r;
    }) unit density row) nominal) product) batch

-- `paper 1`, without its first word, as the others
abbrev pub title_line : List (List ℕ) → Option lines.Line
title_line (number ∷ []) = if bytes_eq number (codes "1") then Some line.Title else None
title_line _ = None

-- the quantity of goods of a batch and a product, by the fields behind these
abbrev pub quantity_line : List ℕ → List ℕ → List (List ℕ) → Option goods.Goods
quantity_line batch product fields =
    option_and_then (λ nominal.
    option_and_then (λ unit.
    option_and_then (λ density.
    option_and_then (λ row. where_it are_goods_in_range
    (goods_of (name_of batch) (name_of product) (milligrams_of nominal.value)
    (unit_in unit.value) (density_in density.value) (row_in row)))
    (only_value (codes "row") density.left))
    (value_with (codes "density") unit.left))
    (value_with (codes "unit") nominal.left))
    (value_with (codes "nominal") fields)

-- `batch B product P nominal G unit U density G row N`
abbrev pub goods_line : List (List ℕ) → Option lines.Line
goods_line (batch ∷ fields) =
    option_and_then (λ product. option_map (λ goods. line.Goods goods)
    (quantity_line batch product.value product.left))
    (value_with (codes "product") fields)
goods_line _ = None

-- `tare DATE G`
abbrev pub tare_line : List (List ℕ) → Option lines.Line
tare_line (date ∷ grams ∷ []) =
    from_both (λ day tare. line.Tare (record { day = day; tare = tare }))
    (day_of date) (mass_in MAX_TARE grams)
tare_line _ = None

-- `pack N DATE G`
abbrev pub pack_line : List (List ℕ) → Option lines.Line
pack_line (number ∷ date ∷ grams ∷ []) =
    from_three (λ row day gross. line.Pack (record { number = row; day = day; gross = gross }))
    (row_in number) (day_of date) (mass_in MAX_GROSS grams)
pack_line _ = None

-- `mode MODE word W`
abbrev pub mode_line : List (List ℕ) → Option lines.Line
mode_line (mode ∷ fields) =
    from_both (λ m w. line.Mode (record { mode = m; word = w }))
    (mode_in mode) (option_and_then number_in (only_value (codes "word") fields))
mode_line _ = None

-- `first N gross G empty G`
abbrev pub first_line : List (List ℕ) → Option lines.Line
first_line (number ∷ fields) =
    from_both (λ pack weighed. line.First (record { pack = pack; weighed = Some weighed }))
    (row_in number) (weighed_in fields)
first_line _ = None

-- `word W`
abbrev pub word_line : List (List ℕ) → Option lines.Line
word_line (number ∷ []) = option_map (λ word. line.Word word) (number_in number)
word_line _ = None

-- `second N gross G empty G`, or `second N unmeasured`
abbrev pub second_line : List (List ℕ) → Option lines.Line
second_line (number ∷ fields) =
    from_both (λ pack weighed. line.Second (record { pack = pack; weighed = weighed }))
    (row_in number) (weighed_or_not fields)
second_line _ = None

-- `verdict VERDICT`
abbrev pub verdict_line : List (List ℕ) → Option lines.Line
verdict_line fields = option_map (λ verdict. line.Verdict verdict) (verdict_in fields)

-- the line of a first word and the other fields
abbrev pub fields_line : List ℕ → List (List ℕ) → Option lines.Line
fields_line word others =
    if bytes_eq word (codes "first") then first_line others
    else (if bytes_eq word (codes "pack") then pack_line others
    else (if bytes_eq word (codes "tare") then tare_line others
    else (if bytes_eq word (codes "second") then second_line others
    else (if bytes_eq word (codes "paper") then title_line others
    else (if bytes_eq word (codes "batch") then goods_line others
    else (if bytes_eq word (codes "mode") then mode_line others
    else (if bytes_eq word (codes "word") then word_line others
    else (if bytes_eq word (codes "verdict") then verdict_line others
    else None))))))))

-- the line of some fields
abbrev pub line_of_fields : List (List ℕ) → Option lines.Line
line_of_fields [] = None
line_of_fields (word ∷ others) = fields_line word others

-- what a line says, which comes without its LF
abbrev pub line_of : List ℕ → Option lines.Line
line_of text = line_of_fields (slice_split is_blank text)
