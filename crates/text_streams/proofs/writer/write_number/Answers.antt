use Rattle.std.proofs.Common.{◌≡◌, List, ℕ, decimal, subst, rules}
use Rattle.std.proofs.lemmas.Result.{err_from_is_err_and}
use Rattle.text_streams.specs.Streams.{output_at, WroteAll}
use Rattle.text_streams.proofs.PrintedTexts.{cut_second}
use Rattle.text_streams.proofs.writer.write_number.Goals as goal

pub returns-in_err-write_text-2-clause-cut : goal.returns-in_err-write_text-2-clause-cut
returns-in_err-write_text-2-clause-cut g c =
    let p = err_from_is_err_and c.from_residual-in_err-write_text-2.result c.from_residual-in_err-write_text-2.ensures.1 in
    let text : c.as_bytes.result.now ≡ decimal c.args.number = search rules in
    rw p.1 (cut_second _ _ _ (decimal c.args.number) c.args.back.now (subst (λ (t : List ℕ). WroteAll (output_at g.K.Sink c.args.output.now) (output_at g.K.Sink c.write_text.new.output) t) text c.in_ok-write_text.ensures.wrote) c.in_err-write_text-2.ensures.cut)
