-- Numbers in decimal digits.
use Rattle.std.specs.Prelude.{ℕ, Bool, ◌&&◌, List, length, Option, Some, None, if◌then◌else◌, nat_lt, nat_le}
use Rattle.std.specs.List.{list_all}
use Rattle.std.specs.Char.{is_ascii_digit}
use Rattle.std.specs.Str.Parse.{digits_value}

-- the text is 1 to `most` decimal digits, leading zeros among them
abbrev pub is_numeral : ℕ → List ℕ → Bool
is_numeral most text =
    nat_lt 0 (length text) && nat_le (length text) most && list_all is_ascii_digit text

-- the number that 1 to `most` digits spell, where it isn't above the limit
abbrev pub bounded_number : ℕ → ℕ → List ℕ → Option ℕ
bounded_number most limit text =
    if (is_numeral most text && nat_le (digits_value 10 text) limit)
    then Some (digits_value 10 text)
    else None
