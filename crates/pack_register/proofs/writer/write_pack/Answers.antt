use Rattle.pack_register.specs.Register.{record_text}
use Rattle.pack_register.proofs.writer.write_pack.Goals as goal

pub returns-clause-text : goal.returns-clause-text
unfolding record_text
returns-clause-text c =
    let cells = c.requires.cells in
    let words = c.words_of.ensures in
    rw (
      c.as_slice.ensures.value,
      c.as_bytes.ensures,
      c.as_bytes-2.ensures,
      c.as_slice-2.ensures.value,
      c.as_slice-3.ensures.value,
      c.as_slice-4.ensures.value,
      c.as_slice-5.ensures.value,
      cells.pack,
      cells.lane,
      cells.day,
      cells.gross,
      cells.net,
      words.class,
      words.signal,
      words.pile,
    ) at c.in_ok-write_fields.ensures.text
