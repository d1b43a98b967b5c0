use Rattle.std.proofs.lemmas.Result.{err_from_is_err_and}
use Rattle.text_streams.proofs.PrintedTexts.{cut_second}
use Rattle.call_endings.specs.Endings.{last_line}
use Rattle.call_endings.proofs.ending.write_last.Goals as goal

pub returns-in_err-write_line-clause-cut : goal.returns-in_err-write_line-clause-cut
returns-in_err-write_line-clause-cut g c =
    let p = err_from_is_err_and c.from_residual-in_err-write_line.result
    c.from_residual-in_err-write_line.ensures.1 in
    rw p.1 (cut_second _ _ _ c.args.unsaid.now (last_line c.args.ending c.args.early)
    c.in_ok-write_text.ensures.wrote c.in_err-write_line.ensures.cut)
