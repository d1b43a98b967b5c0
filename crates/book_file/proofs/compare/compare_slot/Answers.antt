use Rattle.book_file.proofs.compare.compare_slot.Goals as goal

-- what reads back as the slot's row would have been the same
pub returns-in-Row-2-clause-other : goal.returns-in-Row-2-clause-other
returns-in-Row-2-clause-other c other rest is begins =
    let yes = c.is_same.ensures.1 (c.in-Row.ensures.back c.args.slot.now rest is begins).0 in
    let no = c.if-is_same.false in
    absurd cc
