-- Where the head text of a request ends. A line ends in LF, or in CR LF.
use Rattle.std.specs.Prelude.{ℕ, ◌+◌, Bool, ◌||◌, ◌==◌, nat_eq, List, [], ◌∷◌, drop, if◌then◌else◌, Option, Some, None, option_map, codes}
use Rattle.std.specs.List.{prefix_len, starts_with}
use Rattle.std.specs.Option.{option_or}

-- CR or LF
abbrev pub is_newline : ℕ → Bool
is_newline byte = byte == 13 || byte == 10

-- how many bytes an LF and the empty line right behind it have, where bytes begin with them
abbrev pub empty_line_size : List ℕ → Option ℕ
empty_line_size bytes =
    if starts_with nat_eq bytes (codes "\n\n") then Some 2
    else (if starts_with nat_eq bytes (codes "\n\r\n") then Some 3 else None)

-- how many bytes there are up to the end of the first empty line
abbrev pub lines_size : List ℕ → Option ℕ
lines_size [] = None
lines_size (byte ∷ rest) =
    option_or (empty_line_size (byte ∷ rest)) (option_map (λ size. 1 + size) (lines_size rest))

-- how many bytes the head text has: up to the end of the first empty line behind the first byte
-- that is neither CR nor LF
abbrev pub head_size : List ℕ → Option ℕ
head_size bytes =
    option_map (λ size. prefix_len is_newline bytes + size)
    (lines_size (drop (prefix_len is_newline bytes) bytes))
