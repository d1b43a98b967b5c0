use Rattle.std.specs.Prelude.{ℕ, ◌+◌, ◌-◌, ◌*◌, ◌/◌, ◌%◌, ◌^◌, ◌<◌, ◌≤◌, ◌==◌, ◌&&◌, ℤ, pos, negsuc, ◌≤ℤ◌, ◌<ℤ◌, List, [], ◌∷◌, ◌++◌, length, take, drop, Option, Some, None, IsSome, if◌then◌else◌, unsigned_abs, decimal}
use Rattle.std.specs.List.{prefix_len}
use Rattle.std.specs.Char.{is_ascii_digit}
use Rattle.std.specs.Str.Parse.{digits_value}
use Rattle.hall_units.specs.Number.{is_numeral}

-- the number that 1 to `most` digits spell
abbrev pub numeral_of : ℕ → List ℕ → Option ℕ
numeral_of most text = if is_numeral most text then Some (digits_value 10 text) else None

-- the milligrams that stand behind the whole grams: nothing, or a point and 1 to 3 digits
abbrev pub places_of : List ℕ → Option ℕ
places_of [] = Some 0
places_of (byte ∷ digits) =
    if (byte == 46) && is_numeral 3 digits
    then Some (digits_value 10 digits * 10 ^ (3 - length digits))
    else None

-- the digits with which a text begins
abbrev pub leading_digits : List ℕ → List ℕ
leading_digits text = take (prefix_len is_ascii_digit text) text

-- what stands behind them
abbrev pub behind_digits : List ℕ → List ℕ
behind_digits text = drop (prefix_len is_ascii_digit text) text

-- the mass of whole grams and of milligrams behind them, where both are spelled
abbrev pub mass_of : Option ℕ → Option ℕ → Option ℤ
mass_of (Some grams) (Some places) = Some (pos (1000 * grams + places))
mass_of _ _ = None

-- the mass in milligrams that a text of grams spells: 1 to 8 digits, then nothing or a point and 1
-- to 3 digits; none for any other text
unfoldable pub milligrams_of : List ℕ → Option ℤ
milligrams_of text = mass_of (numeral_of 8 (leading_digits text)) (places_of (behind_digits text))

-- the masses that can be read, in milligrams: from 0 to the greatest that 8 digits and 3 places
-- reach
abbrev pub IsReadMass : ℤ → Type 0
IsReadMass mg = (pos 0 ≤ℤ mg) × (mg <ℤ pos 100_000_000_000)

-- a text begins some spelling of grams
abbrev pub BeginsGrams : List ℕ → Type 0
BeginsGrams prefix = (more : List ℕ) × IsSome (milligrams_of (prefix ++ more))

-- so many bytes are the longest prefix of a text that begins some spelling of grams
pub record IsSpelledTo (text : List ℕ) (place : ℕ) : Type 0 where
  pub within : place ≤ length text
  pub begins : BeginsGrams (take place text)
  pub longest : (longer : ℕ) → place < longer → longer ≤ length text
      → ¬ BeginsGrams (take longer text)

-- a minus sign where the mass is negative
abbrev pub sign_text : ℤ → List ℕ
sign_text (pos n) = []
sign_text (negsuc n) = 45 ∷ []

-- a number below a thousand in three digits
abbrev pub three_digits : ℕ → List ℕ
three_digits n = (48 + n / 100) ∷ (48 + n / 10 % 10) ∷ (48 + n % 10) ∷ []

-- how a mass in milligrams is printed: a minus sign where it is negative, the whole grams, a point
-- and three digits
unfoldable pub gram_text : ℤ → List ℕ
gram_text mg =
    sign_text mg ++ decimal (unsigned_abs mg / 1000)
    ++ 46 ∷ three_digits (unsigned_abs mg % 1000)
