use Rattle.book_file.proofs.Beginnings.{begins, zeros_behind}
use Rattle.book_file.proofs.begin.is_unbegun.Goals as goal

pub returns : goal.returns
returns c =
    let begun = c.header_bytes-begun.result in
    let found = c.header_bytes-begun.ensures in (
      λ is. begins c.args.bytes.now begun found.same (c.are_zeros.ensures.0 is),
      λ of. c.are_zeros.ensures.1 (zeros_behind c.args.bytes.now begun found.same found.differs of),
    )
