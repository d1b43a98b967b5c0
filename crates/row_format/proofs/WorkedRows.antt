-- Rows that were worked out by hand.
use Rattle.std.proofs.Common.{◌≡◌, ◌∷◌, replicate, Some, None, refl}
use Rattle.std.specs.Prelude.{pos}
use Rattle.pack_judge.specs.declared.types.Signal.TheVariants.{Pass}
use Rattle.book_words.specs.declared.act.Prior.TheVariants.{Nothing}
use Rattle.book_words.specs.declared.act.Act.TheVariants.{NewDay, Weigh}
use Rattle.book_words.specs.declared.act.Entry.{Entry}
use Rattle.row_format.specs.Spelling.{new_layout, old_layout, row_bytes}

-- by the script: 2025-03-03
abbrev day : Entry
day = record { by = 0; desk = 0; request = 0; act = NewDay (pos 20_150); signal = None }

-- by the script: 251 g on lane 1, passed
abbrev weighing : Entry
weighing = record {
  by = 0;
  desk = 0;
  request = 0;
  act = Weigh 1 (pos 251_000) Nothing;
  signal =
      Some Pass;
}

day_row : row_bytes new_layout 1 day ≡ 0x01 ∷ 0x01 ∷ 0x01 ∷ 0 ∷ 0 ∷ 0 ∷ 0 ∷ 0 ∷ 0 ∷ 0 ∷ 0 ∷ 0 ∷ 0
    ∷ 0 ∷ 0xb6 ∷ 0x4e ∷ 0 ∷ 0 ∷ replicate 78 0
day_row = refl

old_day_row : row_bytes old_layout 1 day ≡ 0x01 ∷ 0x01 ∷ 0x01 ∷ 0 ∷ 0 ∷ 0 ∷ 0 ∷ 0 ∷ 0 ∷ 0 ∷ 0 ∷ 0
    ∷ 0 ∷ 0 ∷ 0xb6 ∷ 0x4e ∷ 0 ∷ 0 ∷ replicate 46 0
old_day_row = refl

weighing_row : row_bytes new_layout 6 weighing ≡ 0x01 ∷ 0x06 ∷ 0x06 ∷ 0 ∷ 0 ∷ 0 ∷ 0 ∷ 0 ∷ 0 ∷ 0 ∷ 0
    ∷ 0 ∷ 0 ∷ 0 ∷ 0x01 ∷ 0x78 ∷ 0xd4 ∷ 0x03 ∷ 0 ∷ 0 ∷ 0 ∷ replicate 75 0
weighing_row = refl
