-- A register that is being written, in the words of the kit's `csv` for its writer.
use Rattle.std.specs.Prelude.{◌≡◌, ℕ, List, false, ◌++◌, decimal}
use Rattle.std.specs.declared.alloc.Global.{Global}
use Rattle.std.specs.declared.vec.Vec.{Vec}
use Rattle.csv.specs.Writing.{default_writer, fields_written, has_written, writer_pending, writer_setup, writer_under}
use Rattle.csv.specs.declared.writer.Writer.{Writer}
use Rattle.hall_units.specs.Days.{day_text}
use Rattle.hall_units.specs.Grams.{gram_text}
use Rattle.book_words.specs.declared.views.PackView.{PackView}
use Rattle.pack_register.specs.declared.cells.Cells.{Cells}
use Rattle.pack_register.specs.declared.writer.RegisterWriter.{RegisterWriter}

-- the texts of what a pack has in numbers
pub record AreCellsOf (view : PackView) (cells : Cells) : Type 0 where
  pub pack : cells.pack.items ≡ decimal view.pack
  pub lane : cells.lane.items ≡ decimal view.lane
  pub day : cells.day.items ≡ day_text view.day
  pub gross : cells.gross.items ≡ gram_text view.gross
  pub net : cells.net.items ≡ gram_text view.net

-- a writer with the defaults that has no part of a record
pub record IsBetweenRecords (writer : Writer (Vec ℕ Global)) : Type 0 where
  pub setup : writer_setup writer ≡ default_writer
  pub fields : fields_written writer ≡ 0
  pub clean : has_written writer ≡ false

-- what a writer has written: what it handed on, and then what it still holds
abbrev pub text_of : Writer (Vec ℕ Global) → List ℕ
text_of writer = (writer_under writer).items ++ writer_pending writer

-- the next record may be written
abbrev pub IsReady : RegisterWriter → Type 0
IsReady register = IsBetweenRecords register.writer

-- what was written so far
abbrev pub written : RegisterWriter → List ℕ
written register = text_of register.writer
