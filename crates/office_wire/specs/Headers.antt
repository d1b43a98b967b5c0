-- What the headers of a request say. A header is its name and its value, without the blanks round
-- it; the case of ASCII letters says nothing in a name.
use Rattle.std.specs.Prelude.{ℕ, ◌^◌, ◌-◌, Bool, false, not, ◌&&◌, ◌||◌, ◌==◌, List, if◌then◌else◌, Option, Some, None, option_map, codes}
use Rattle.std.specs.List.{find, list_all, list_any}
use Rattle.std.specs.Str.{str_eq_ignore_ascii_case}
use Rattle.hall_units.specs.Number.{bounded_number}

-- a header: its name, and its value
abbrev pub Header : Type 0
Header = List ℕ × List ℕ

-- a header has this name
abbrev pub is_named : List ℕ → Header → Bool
is_named name header = str_eq_ignore_ascii_case header.0 name

-- the body is coded for its transfer
abbrev pub is_coded : List Header → Bool
is_coded headers = list_any (is_named (codes "transfer-encoding")) headers

-- a header ends the connection
abbrev pub ends_connection : Header → Bool
ends_connection header =
    is_named (codes "connection") header && str_eq_ignore_ascii_case header.1 (codes "close")

-- the client ends the connection behind its request
abbrev pub is_closing : List Header → Bool
is_closing headers = list_any ends_connection headers

-- a header gives a length of the body
abbrev pub gives_size : Header → Bool
gives_size header = is_named (codes "content-length") header

-- the length in a value: 1 to 10 digits
abbrev pub header_size : List ℕ → Option ℕ
header_size value = bounded_number 10 (10 ^ 10 - 1) value

-- what the first header that gives a length says
abbrev pub first_size : List Header → Option (Option ℕ)
first_size headers = option_map (λ header. header_size header.1) (find gives_size headers)

-- just this length
abbrev pub is_size : ℕ → Option ℕ → Bool
is_size size None = false
is_size size (Some given) = given == size

-- a header gives this length, or none
abbrev pub agrees : ℕ → Header → Bool
agrees size header = not (gives_size header) || is_size size (header_size header.1)

-- the length of a body by what the first says, where all agree
abbrev pub agreed_size : List Header → Option (Option ℕ) → Option (Option ℕ)
agreed_size headers None = Some None
agreed_size headers (Some None) = None
agreed_size headers (Some (Some size)) =
    if list_all (agrees size) headers then Some (Some size) else None

-- the length of the body, where one is given; there is no answer where one of them isn't a length,
-- or isn't the first one's
abbrev pub size_given : List Header → Option (Option ℕ)
size_given headers = agreed_size headers (first_size headers)
