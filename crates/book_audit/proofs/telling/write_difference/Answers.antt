use Rattle.std.proofs.Common.{codes}
use Rattle.std.proofs.lemmas.Result.{err_from_is_err_and}
use Rattle.text_streams.proofs.PrintedTexts.{cut_second}
use Rattle.book_audit.specs.Audits.{line}
use Rattle.book_audit.proofs.AuditTexts.{wrote_second, cut_first, wrote_line, cut_line}
use Rattle.book_audit.proofs.telling.write_difference.Goals as goal

pub returns-clause-wrote : goal.returns-clause-wrote
returns-clause-wrote g c =
    wrote_second _ _ _ (line (codes "snapshot differs at row ") c.args.row (codes "\n"))
    (line (codes "snapshot ") c.args.rows (codes "\n"))
    (wrote_line _ _ (codes "snapshot differs at row ") _ _ (codes "\n") c.from.ensures c.in_ok-write_numbered.ensures.wrote)
    (wrote_line _ _ (codes "snapshot ") _ _ (codes "\n") c.from-2.ensures c.in_ok-write_numbered-2.ensures.wrote)

pub returns-in_err-write_numbered-clause-cut : goal.returns-in_err-write_numbered-clause-cut
returns-in_err-write_numbered-clause-cut g c =
    let p = err_from_is_err_and c.from_residual.result c.from_residual.ensures.1 in
    rw p.1 (cut_first _ _ (line (codes "snapshot differs at row ") c.args.row (codes "\n"))
    (line (codes "snapshot ") c.args.rows (codes "\n"))
    (cut_line _ _ (codes "snapshot differs at row ") _ _ (codes "\n") c.from.ensures c.in_err-write_numbered.ensures.cut))

pub returns-in_err-write_numbered-2-clause-cut : goal.returns-in_err-write_numbered-2-clause-cut
returns-in_err-write_numbered-2-clause-cut g c =
    let p = err_from_is_err_and c.from_residual-in_err-write_numbered-2.result
    c.from_residual-in_err-write_numbered-2.ensures.1 in
    rw p.1 (cut_second _ _ _ (line (codes "snapshot differs at row ") c.args.row (codes "\n"))
    (line (codes "snapshot ") c.args.rows (codes "\n"))
    (wrote_line _ _ (codes "snapshot differs at row ") _ _ (codes "\n") c.from.ensures c.in_ok-write_numbered.ensures.wrote)
    (cut_line _ _ (codes "snapshot ") _ _ (codes "\n") c.from-2.ensures c.in_err-write_numbered-2.ensures.cut))
