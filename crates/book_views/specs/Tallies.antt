-- Tallies as they can be, and all four piles together.
use Rattle.std.specs.Prelude.{◌+◌, ◌+ℤ◌, ◌≤◌}
use Rattle.hall_limits.specs.declared.TheConstants.{MAX_ROWS}
use Rattle.pack_judge.specs.declared.types.Tally.{Tally}
use Rattle.book_words.specs.Ranges.{IsGrossInRange}

-- a tally of readings of a legal list: at most as many as a book has rows, their sum in range
pub record IsTally (tally : Tally) : Type 0 where
  pub few : tally.count ≤ MAX_ROWS
  pub gross : IsGrossInRange tally

-- four tallies together
abbrev pub all_of : Tally → Tally → Tally → Tally → Tally
all_of passed rejected sampled voided =
    record {
      count = passed.count + rejected.count + sampled.count + voided.count;
      gross = passed.gross +ℤ rejected.gross +ℤ sampled.gross +ℤ voided.gross;
    }
