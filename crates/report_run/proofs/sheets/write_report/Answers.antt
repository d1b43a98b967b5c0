use Rattle.std.proofs.Common.{◌++◌, [], List, ℕ, refl, subst}
use Rattle.std.proofs.lemmas.Result.{err_from_is_err_and}
use Rattle.text_streams.specs.Streams.{output_at, IsCutIn}
use Rattle.book_words.specs.Views.{summary}
use Rattle.batch_reports.specs.Texts.{summary_text}
use Rattle.report_run.specs.Reports.{sheets_text}
use Rattle.report_run.proofs.Pieces.{goes_on, cuts, cuts_behind, cut_more}
use Rattle.report_run.proofs.sheets.write_report.Goals as goal

pub returns-in_err-make_way-clause-cut : goal.returns-in_err-make_way-clause-cut
returns-in_err-make_way-clause-cut g c =
    let entries = c.args.book.now.entries in
    let before = output_at g.K.Sink c.args.output.now in
    let now = output_at g.K.Sink c.make_way.new.output in
    let balance = summary_text (summary entries) in
    let left = c.from_residual-in_err-make_way in
    let p = err_from_is_err_and left.result left.ensures.1 in
    rw p.1 (subst (λ (l : List ℕ). IsCutIn before now [] ((l ++ sheets_text entries) ++ balance))
    c.requires.empty
    (cut_more before now (c.args.text.now.items ++ sheets_text entries) balance
    (cuts before (output_at g.K.Sink c.print_sheets.new.output) now c.args.text.now.items
    c.print_sheets.new.text.items [] (sheets_text entries)
    c.in_ok-print_sheets.ensures.printed c.in_err-make_way.ensures.cut)))

pub returns-in_err-flush-clause-cut : goal.returns-in_err-flush-clause-cut
returns-in_err-flush-clause-cut g c =
    let entries = c.args.book.now.entries in
    let before = output_at g.K.Sink c.args.output.now in
    let mid = output_at g.K.Sink c.make_way.new.output in
    let now = output_at g.K.Sink c.flush.new.output in
    let balance = summary_text (summary entries) in
    let left = c.from_residual-in_err-flush in
    let p = err_from_is_err_and left.result left.ensures.1 in
    rw p.1 (subst (λ (l : List ℕ). IsCutIn before now [] ((l ++ sheets_text entries) ++ balance))
    c.requires.empty
    (cuts_behind before mid now c.args.text.now.items c.make_way.new.text.items
    (sheets_text entries) balance
    (goes_on before (output_at g.K.Sink c.print_sheets.new.output) mid c.args.text.now.items
    c.print_sheets.new.text.items c.make_way.new.text.items [] [] [] (sheets_text entries) refl
    c.in_ok-print_sheets.ensures.printed c.in_ok-make_way.ensures.printed)
    (subst (IsCutIn mid now []) c.push_totals.ensures.items c.in_err-flush.ensures.cut)))
