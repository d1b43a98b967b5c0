-- Names of products and batches.
use Rattle.std.specs.Prelude.{◌≡◌, ℕ, ◌-◌, Bool, ◌&&◌, ◌||◌, true, false, IsTrue, List, [], ◌∷◌, ◌++◌, ◌==◌, nat_lt, length, take, replicate, Option, Some, None}
use Rattle.std.specs.List.{list_all}
use Rattle.std.specs.Str.{bytes_eq}
use Rattle.std.specs.Char.{is_ascii_alphanumeric}
use Rattle.hall_limits.specs.declared.TheConstants.{NAME_BYTES}
use Rattle.book_words.specs.NamePlaces.{is_padded}
use Rattle.book_words.specs.declared.name.Name.{Name}

-- the bytes of a name: as many of its places as it is long
abbrev pub bytes_of : Name → List ℕ
bytes_of name = take name.len name.places

-- the places of some bytes: zeros stand behind them
abbrev pub places_for : List ℕ → List ℕ
places_for bytes = bytes ++ replicate (NAME_BYTES - length bytes) 0

-- the name of 1 to 32 bytes
abbrev pub name_with :
    (bytes : List ℕ) → IsTrue (is_padded (length bytes) (places_for bytes)) → Name
name_with bytes padded = record { len = length bytes; places = places_for bytes; padded = padded }

-- the name of some bytes where a test says that they are 1 to 32
abbrev pub name_if : (bytes : List ℕ) (test : Bool)
    → is_padded (length bytes) (places_for bytes) ≡ test → Option Name
name_if bytes true padded = Some (name_with bytes padded)
name_if bytes false _ = None

-- the name of some bytes; there is none where they aren't 1 to 32
unfoldable pub name_of : List ℕ → Option Name
name_of bytes =
    name_if bytes (is_padded (length bytes) (places_for bytes))
    (λ _. is_padded (length bytes) (places_for bytes))

-- two names are the same where their bytes are
abbrev pub same_name : Name → Name → Bool
same_name a b = bytes_eq (bytes_of a) (bytes_of b)

-- a letter, a digit, `-`, `_` or `.`
abbrev pub is_name_byte : ℕ → Bool
is_name_byte byte = is_ascii_alphanumeric byte || byte == 45 || byte == 95 || byte == 46

-- the shape of a new name: 1 to 32 letters, digits, `-`, `_` or `.` of ASCII, the first a letter or
-- digit
abbrev pub is_name_shape : List ℕ → Bool
is_name_shape [] = false
is_name_shape (first ∷ rest) =
    is_ascii_alphanumeric first && list_all is_name_byte rest && nat_lt (length rest) NAME_BYTES
