use Rattle.std.proofs.Common.{codes, ◌++◌, rules, ◌≡◌}
use Rattle.std.proofs.lemmas.Result.{err_from_is_err_and}
use Rattle.hex.specs.Hex.{encode_lower}
use Rattle.text_streams.proofs.PrintedTexts.{cut_second}
use Rattle.book_audit.proofs.AuditTexts.{cut_first}
use Rattle.book_audit.proofs.telling.write_digest.Goals as goal

pub returns-in_err-write_text-clause-cut : goal.returns-in_err-write_text-clause-cut
returns-in_err-write_text-clause-cut g c =
    let p = err_from_is_err_and c.from_residual.result c.from_residual.ensures.1 in
    rw p.1 (cut_first _ _ (codes "sha256 ") (encode_lower c.args.digest.now ++ codes "\n")
    c.in_err-write_text.ensures.cut)

pub returns-in_err-write_text-2-clause-cut : goal.returns-in_err-write_text-2-clause-cut
returns-in_err-write_text-2-clause-cut g c =
    let p = err_from_is_err_and c.from_residual-in_err-write_text-2.result
    c.from_residual-in_err-write_text-2.ensures.1 in
    let digits : c.encode_to_slice.new.output ≡ encode_lower c.args.digest.now = search rules in
    rw p.1 (cut_second _ _ _ (codes "sha256 ") (encode_lower c.args.digest.now ++ codes "\n")
    c.in_ok-write_text.ensures.wrote
    (cut_first _ _ (encode_lower c.args.digest.now) (codes "\n")
    (rw digits at c.in_err-write_text-2.ensures.cut)))

pub returns-in_err-write_text-3-clause-cut : goal.returns-in_err-write_text-3-clause-cut
returns-in_err-write_text-3-clause-cut g c =
    let p = err_from_is_err_and c.from_residual-in_err-write_text-3.result
    c.from_residual-in_err-write_text-3.ensures.1 in
    let digits : c.encode_to_slice.new.output ≡ encode_lower c.args.digest.now = search rules in
    rw p.1 (cut_second _ _ _ (codes "sha256 ") (encode_lower c.args.digest.now ++ codes "\n")
    c.in_ok-write_text.ensures.wrote
    (cut_second _ _ _ (encode_lower c.args.digest.now) (codes "\n")
    (rw digits at c.in_ok-write_text-2.ensures.wrote) c.in_err-write_text-3.ensures.cut))
