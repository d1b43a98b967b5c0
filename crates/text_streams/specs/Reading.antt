-- What was taken of an input, read piece by piece, whatever is done with its bytes.
use Rattle.std.specs.Prelude.{◌≡◌, ℕ, ◌+◌, ◌*◌, ◌≤◌, List, length, IfSome}
use Rattle.std.specs.Io.KnownBytes.{Consumes, Keeps, IsAtEnd}
use Rattle.text_streams.specs.declared.reader.TheConstants.{PIECE}
use Rattle.text_streams.specs.declared.reader.ReadError.{ReadError}
use Rattle.text_streams.specs.declared.reader.ReadError.TheVariants.{Failed, Spent}
use Rattle.text_streams.specs.Readers.{ReaderView}
use Rattle.text_streams.specs.Streams.{Stream, IsCalm, HasFailed}

-- one read took a piece of the input: none of it is lost, and the reader has it
pub record TakesPiece (before now : Stream) (old new : ReaderView) : Type 0 where
  pub read : Consumes before.bytes now.bytes new.piece
  pub calm : IsCalm before now
  pub few : length new.piece ≤ PIECE
  pub counted : new.reads ≡ old.reads + 1
  pub same : new.most ≡ old.most

-- why no piece was taken: the input failed, and nothing was lost of it; or as many reads as may be
-- were made, and none was made now
abbrev pub TakesNone : Stream → Stream → ReaderView → ReadError → Type 0
TakesNone before now reader Failed = HasFailed before now × Keeps before.bytes now.bytes
TakesNone before now reader Spent = (reader.reads ≡ reader.most) × (now ≡ before)

-- these bytes were taken of an input that didn't fail, in so many reads, each of which gave at least
-- a byte and at most a piece
pub record HasTaken (before now : Stream) (reads : ℕ) (taken : List ℕ) : Type 0 where
  pub read : Consumes before.bytes now.bytes taken
  pub calm : IsCalm before now
  pub least : reads ≤ length taken
  pub most : length taken ≤ reads * PIECE

-- so many reads were made, and this holds of the bytes that they gave
pub record HasMadeReads (before now : Stream) (Holds : List ℕ → Type 0)
    (reads : ℕ) : Type 0 where
  pub taken : List ℕ
  pub all : HasTaken before now reads taken
  pub holds : Holds taken

-- the input failed, and this holds of the bytes that it gave before
pub record FailsBehind (before now : Stream) (Holds : List ℕ → Type 0) : Type 0 where
  pub taken : List ℕ
  pub read : Consumes before.bytes now.bytes taken
  pub cause : HasFailed before now
  pub holds : Holds taken

-- the input was read to its end, and gave these bytes
pub record ReadsWhole (before now : Stream) (taken : List ℕ) : Type 0 where
  pub read : Consumes before.bytes now.bytes taken
  pub at_end : IsAtEnd now.bytes
  pub all : IfSome before.bytes (λ left. left ≡ taken)
  pub calm : IsCalm before now
