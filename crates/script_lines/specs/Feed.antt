-- Where a feed of lines stands.
use Rattle.std.specs.Prelude.{ℕ, List, length}
use Rattle.script_lines.specs.Lines.{ended_lines, rest_of}

-- how many lines have ended, and the bytes of the line that has begun
pub record FeedView : Type 0 where
  pub ended : ℕ
  pub begun : List ℕ

-- where a feed stands after these bytes
abbrev pub feed_after : List ℕ → FeedView
feed_after taken = record { ended = length (ended_lines taken); begun = rest_of taken }
