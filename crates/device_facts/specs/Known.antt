-- What a device tells of its bytes: all of them, or nothing. std's `Consumes`, `Appends`, `Keeps`
-- and `IsAtEnd` say what a call does to bytes that are told.
use Rattle.std.specs.Prelude.{◌≡◌, ℕ, List, is_some, Option}

-- a device that tells goes on telling, and one that doesn't never begins to
abbrev pub TellsAsBefore : Option (List ℕ) → Option (List ℕ) → Type 0
TellsAsBefore before now = is_some now ≡ is_some before
