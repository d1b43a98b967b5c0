-- How the reading of a whole input stops before its end.
use Rattle.std.specs.Prelude.{⊤, ℕ, ◌+◌, ◌<◌, ◌≤◌, List, length}
use Rattle.std.specs.Io.KnownBytes.{Consumes}
use Rattle.text_streams.specs.declared.reader.TheConstants.{PIECE}
use Rattle.text_streams.specs.declared.reader.ReadError.{ReadError}
use Rattle.text_streams.specs.declared.reader.ReadError.TheVariants as reading
use Rattle.text_streams.specs.Streams.{Stream, IsCalm}
use Rattle.text_streams.specs.Reading.{FailsBehind}
use Rattle.text_streams.specs.declared.whole.Unread.{Unread}
use Rattle.text_streams.specs.declared.whole.Unread.TheVariants.{TooLong, Failed, NoMemory}

-- why an input isn't read whole where no piece came: it failed, or it has too many bytes, since
-- each read gave one
abbrev pub unread_by : ReadError → Unread
unread_by reading.Failed = Failed
unread_by reading.Spent = TooLong

-- no more than so many bytes
abbrev pub IsShort : ℕ → List ℕ → Type 0
IsShort most bytes = length bytes ≤ most

-- why an input isn't read on behind these bytes: they are more than it may have, but no more than
-- that and a piece, or there is no memory for them
abbrev pub StopsBehind : ℕ → List ℕ → Unread → Type 0
StopsBehind most taken TooLong = (most < length taken) × (length taken ≤ most + PIECE)
StopsBehind most taken NoMemory = ⊤
StopsBehind most taken Failed = ⊥

-- these bytes were taken of an input that didn't fail, and no more
pub record IsReadNoFurther (most : ℕ) (before now : Stream) (unread : Unread) : Type 0 where
  pub taken : List ℕ
  pub read : Consumes before.bytes now.bytes taken
  pub calm : IsCalm before now
  pub why : StopsBehind most taken unread

-- how the reading of an input stops that may have so many bytes: the input failed, or it is read no
-- further
abbrev pub StopsReading : ℕ → Stream → Stream → Unread → Type 0
StopsReading most before now Failed = FailsBehind before now (IsShort most)
StopsReading most before now unread = IsReadNoFurther most before now unread
