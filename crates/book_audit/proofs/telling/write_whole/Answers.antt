use Rattle.std.proofs.Common.{codes, ◌++◌}
use Rattle.std.proofs.lemmas.Result.{err_from_is_err_and}
use Rattle.text_streams.proofs.PrintedTexts.{cut_second}
use Rattle.book_audit.specs.Audits.{line, beside_text, digest_text}
use Rattle.book_audit.proofs.AuditTexts.{cut_first, cut_line, wrote_line}
use Rattle.book_audit.proofs.telling.write_whole.Goals as goal

pub returns-in_err-write_numbered-clause-cut : goal.returns-in_err-write_numbered-clause-cut
returns-in_err-write_numbered-clause-cut g c =
    let found = c.args.found.now in
    let p = err_from_is_err_and c.from_residual.result c.from_residual.ensures.1 in
    rw p.1 (cut_first _ _ (line (codes "rows ") found.rows (codes " whole\n"))
    (beside_text found.beside ++ digest_text found.digest) (cut_line _ _ (codes "rows ") _ _ (codes " whole\n") c.from.ensures c.in_err-write_numbered.ensures.cut))

pub returns-in_err-write_beside-clause-cut : goal.returns-in_err-write_beside-clause-cut
returns-in_err-write_beside-clause-cut g c =
    let found = c.args.found.now in
    let p = err_from_is_err_and c.from_residual-in_err-write_beside.result
    c.from_residual-in_err-write_beside.ensures.1 in
    rw p.1 (cut_second _ _ _ (line (codes "rows ") found.rows (codes " whole\n"))
    (beside_text found.beside ++ digest_text found.digest) (wrote_line _ _ (codes "rows ") _ _ (codes " whole\n") c.from.ensures c.in_ok-write_numbered.ensures.wrote)
    (cut_first _ _ (beside_text found.beside) (digest_text found.digest)
    c.in_err-write_beside.ensures.cut))

pub returns-in_err-write_digest-clause-cut : goal.returns-in_err-write_digest-clause-cut
returns-in_err-write_digest-clause-cut g c =
    let found = c.args.found.now in
    let p = err_from_is_err_and c.from_residual-in_err-write_digest.result
    c.from_residual-in_err-write_digest.ensures.1 in
    rw p.1 (cut_second _ _ _ (line (codes "rows ") found.rows (codes " whole\n"))
    (beside_text found.beside ++ digest_text found.digest) (wrote_line _ _ (codes "rows ") _ _ (codes " whole\n") c.from.ensures c.in_ok-write_numbered.ensures.wrote)
    (cut_second _ _ _ (beside_text found.beside) (digest_text found.digest)
    c.in_ok-write_beside.ensures.wrote c.in_err-write_digest.ensures.cut))
