use Rattle.pack_register.proofs.Fields.{header_is}
use Rattle.pack_register.proofs.writer.write_header.Goals as goal

pub returns-clause-text : goal.returns-clause-text
returns-clause-text c = rw (c.as_slice.ensures, header_is) at c.in_ok-write_fields.ensures.text
