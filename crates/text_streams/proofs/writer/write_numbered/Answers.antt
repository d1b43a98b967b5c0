use Rattle.std.proofs.Common.{◌++◌, decimal}
use Rattle.std.proofs.lemmas.Result.{err_from_is_err_and}
use Rattle.text_streams.proofs.PrintedTexts.{cut_second}
use Rattle.text_streams.proofs.writer.write_numbered.Goals as goal

pub returns-in_err-write_number-clause-cut : goal.returns-in_err-write_number-clause-cut
returns-in_err-write_number-clause-cut g c =
    let p = err_from_is_err_and c.from_residual-in_err-write_number.result c.from_residual-in_err-write_number.ensures.1 in
    rw p.1 (cut_second _ _ _ c.args.front.now (decimal c.args.number ++ c.args.back.now) c.in_ok-write_text.ensures.wrote c.in_err-write_number.ensures.cut)
