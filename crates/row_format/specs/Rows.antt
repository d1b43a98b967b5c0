-- Which bytes spell an entry, and where bytes that spell none go wrong.
use Rattle.std.specs.Prelude.{◌≡◌, ℕ, ◌+◌, ◌<◌, List, take}
use Rattle.book_words.specs.declared.act.Entry.{Entry}
use Rattle.row_format.specs.Spelling.{Layout, new_layout, row_bytes}
use Rattle.row_format.specs.Allowed.{IsAllowed, FitsFields}

-- a row can spell this entry
pub record CanBeSpelled (layout : Layout) (entry : Entry) : Type 0 where
  pub allowed : IsAllowed layout.name entry
  pub fits : FitsFields entry

-- the bytes are the row of this entry with this number
pub record Spells (layout : Layout) (bytes : List ℕ) (number : ℕ) (entry : Entry) : Type 0 where
  pub row : bytes ≡ row_bytes layout number entry
  pub can : CanBeSpelled layout entry

-- A law of the spelling: the bytes of a row spell one entry at most.
abbrev pub SpellsOneEntry : Type 0
SpellsOneEntry = (bytes : List ℕ) (number : ℕ) (entry other : Entry)
    → Spells new_layout bytes number entry → Spells new_layout bytes number other → entry ≡ other

-- some row with this number begins with the first bytes
pub record BeginsRow (layout : Layout) (number count : ℕ) (bytes : List ℕ) : Type 0 where
  pub entry : Entry
  pub can : CanBeSpelled layout entry
  pub same : take count (row_bytes layout number entry) ≡ take count bytes

-- the first place at which bytes go wrong: some row with this number begins with the bytes before
-- it, and none with these and the byte there
pub record FirstFault (layout : Layout) (number : ℕ) (bytes : List ℕ) (place : ℕ) : Type 0 where
  pub inside : place < layout.row
  pub before : BeginsRow layout number place bytes
  pub wrong : BeginsRow layout number (place + 1) bytes → ⊥
