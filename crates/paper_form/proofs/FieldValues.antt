-- The values of a line within the limits: their texts are plain and read back.
use Rattle.std.proofs.Common.{◌≡◌, ℕ, ◌^◌, ◌<◌, ◌≤◌, ◌&&◌, nat_lt, nat_le, int_le, Bool, true, false, ℤ, pos, negsuc, ◌≤ℤ◌, ◌<ℤ◌, ◌-◌, List, Option, Some, None, decimal, refl, sym, ap, ◌∙◌, arith}
use Rattle.std.specs.Option.{option_and_then}
use Rattle.std.proofs.lemmas.Bool.{and_parts, leb-true, ltb-true, le-leb, eqb-true}
use Rattle.std.proofs.lemmas.Int.{ints}
use Rattle.annex_tables.specs.declared.TheConstants.{MIN_NOMINAL, MAX_NOMINAL}
use Rattle.hall_limits.specs.declared.TheConstants.{MIN_DENSITY, MAX_DENSITY, MAX_GROSS, MAX_TARE, MAX_DAY, MAX_ROWS}
use Rattle.hall_units.specs.Grams.{gram_text, milligrams_of, IsReadMass}
use Rattle.hall_units.specs.Days.{day_of, day_text, IsDay}
use Rattle.hall_units.proofs.ReadBack.{bounded_number-decimal, milligrams_of-gram_text}
use Rattle.hall_units.proofs.DayTexts.{day_of-day_text}
use Rattle.reference_test.specs.declared.means.TheConstants.{UNIT_DENSITY}
use Rattle.book_words.specs.declared.act.Unit as units
use Rattle.book_words.specs.declared.act.Unit.TheVariants.{Mass, Volume}
use Rattle.book_words.specs.declared.name.Name.{Name}
use Rattle.book_words.specs.Names.{bytes_of, name_of}
use Rattle.book_words.specs.Refusals.{is_within}
use Rattle.book_words.proofs.NameLemmas.{name_of_bytes}
use Rattle.paper_form.specs.Papers.{is_density, is_row}
use Rattle.paper_form.specs.Lines.{where_it, number_in, row_in, mass_in, natural_of, density_in}
use Rattle.paper_form.specs.Ranges.{is_word}
use Rattle.paper_form.proofs.FieldTexts.{IsPlain, plain_number, plain_mass, plain_day}

-- a text of a value: plain, and read as it
pub record IsTextOf {A : Type 0} (read : List ℕ → Option A) (value : A)
    (text : List ℕ) : Type 0 where
  pub plain : IsPlain text
  pub back : read text ≡ Some value

at_most : (a b : ℤ) → int_le a b ≡ true → a ≤ℤ b
at_most (pos a) (pos b) h = omega (arith, ints, leb-true a b h)
at_most (pos a) (negsuc b) h = let never : false ≡ true = h in cc
at_most (negsuc a) (pos b) h = omega (arith, ints)
at_most (negsuc a) (negsuc b) h = omega (arith, ints, leb-true b a h)

-- what lies within two limits
pub between : (least most x : ℤ) → is_within least most x ≡ true → (least ≤ℤ x) × (x ≤ℤ most)
between least most x h =
    let parts = and_parts (int_le least x) (int_le x most) h in
    (at_most least x parts.0, at_most x most parts.1)

-- ---- numbers

pub word_back : (word : ℕ) → is_word word ≡ true → IsTextOf number_in word (decimal word)
word_back word h =
    let small = ltb-true word (2 ^ 64) h in
    record {
      plain = plain_number word (omega (arith, small));
      back = bounded_number-decimal 20 (2 ^ 64 - 1) word (omega arith) (omega (arith, small))
          (omega (arith, small)) (omega (arith, small));
    }

pub row_back : (row : ℕ) → is_row row ≡ true → IsTextOf row_in row (decimal row)
row_back row h =
    let parts = and_parts (nat_le 1 row) (nat_le row MAX_ROWS) h in
    let few = leb-true row MAX_ROWS parts.1 in
    record {
      plain = plain_number row (omega (arith, few));
      back = rw (
        bounded_number-decimal 20 MAX_ROWS row (omega arith) (omega (arith, few))
            (omega (arith, few)) few,
        parts.0,
      ) refl;
    }

-- ---- masses

read_mass : (most mg : ℤ) → most <ℤ pos 100_000_000_000 → is_within (pos 0) most mg ≡ true
    → IsReadMass mg
read_mass most mg small h =
    let limits = between (pos 0) most mg h in (limits.0, omega (arith, ints, small, limits.1))

mass_back : (most mg : ℤ) → most <ℤ pos 100_000_000_000 → is_within (pos 0) most mg ≡ true
    → IsTextOf (mass_in most) mg (gram_text mg)
mass_back most mg small h =
    let read = read_mass most mg small h in
    record {
      plain = plain_mass mg read;
      back = rw
          (milligrams_of-gram_text mg read, (and_parts (int_le (pos 0) mg) (int_le mg most) h).1)
          refl;
    }

pub gross_back : (mg : ℤ) → is_within (pos 0) MAX_GROSS mg ≡ true
    → IsTextOf (mass_in MAX_GROSS) mg (gram_text mg)
gross_back mg h = mass_back MAX_GROSS mg (omega (arith, ints)) h

pub tare_back : (mg : ℤ) → is_within (pos 0) MAX_TARE mg ≡ true
    → IsTextOf (mass_in MAX_TARE) mg (gram_text mg)
tare_back mg h = mass_back MAX_TARE mg (omega (arith, ints)) h

pub nominal_back : (mg : ℤ) → is_within MIN_NOMINAL MAX_NOMINAL mg ≡ true
    → IsTextOf milligrams_of mg (gram_text mg)
nominal_back mg h =
    let limits = between MIN_NOMINAL MAX_NOMINAL mg h in
    let read : IsReadMass mg = (omega (arith, ints, limits.0), omega (arith, ints, limits.1)) in
    record { plain = plain_mass mg read; back = milligrams_of-gram_text mg read }

-- a density is at most the greatest
density_most : (unit : units.Unit) (density : ℕ) → is_density unit density ≡ true
    → density ≤ MAX_DENSITY
density_most Mass density h = let is = eqb-true density UNIT_DENSITY h in omega (arith, is)
density_most Volume density h =
    leb-true density MAX_DENSITY
    (and_parts (nat_le MIN_DENSITY density) (nat_le density MAX_DENSITY) h).1

pub density_back : (unit : units.Unit) (density : ℕ) → is_density unit density ≡ true
    → IsTextOf density_in density (gram_text (pos density))
density_back unit density h =
    let most = density_most unit density h in
    let read : IsReadMass (pos density) = (omega (arith, ints), omega (arith, ints, most)) in
    record {
      plain = plain_mass (pos density) read;
      back = rw (milligrams_of-gram_text (pos density) read, le-leb density MAX_DENSITY most) refl;
    }

-- ---- days and names

pub day_back : (day : ℤ) → is_within (pos 0) MAX_DAY day ≡ true → IsTextOf day_of day (day_text day)
day_back day h =
    record { plain = plain_day day; back = day_of-day_text day (between (pos 0) MAX_DAY day h) }

pub name_back : (name : Name) → name_of (bytes_of name) ≡ Some name
name_back name = sym (name_of_bytes name (bytes_of name) refl)
