use Rattle.std.proofs.Common.{List, ℕ, ◌++◌, [], subst}
use Rattle.std.proofs.lemmas.Result.{err_from_is_err_and}
use Rattle.text_streams.specs.Streams.{output_at, WroteAll, IsCutIn}
use Rattle.report_run.proofs.Pieces.{cuts, ends}
use Rattle.act_lines.specs.ActViews.{acts_text}
use Rattle.acts_run.proofs.print.write_acts.Goals as goal

pub returns-in_err-print_rows-clause-cut : goal.returns-in_err-print_rows-clause-cut
returns-in_err-print_rows-clause-cut g c =
    let all = acts_text c.args.after c.args.state.now.entries in
    let p = err_from_is_err_and c.from_residual.result c.from_residual.ensures.1 in
    rw p.1 (subst (λ (held : List ℕ). IsCutIn (output_at g.K.Sink c.args.output.now)
    (output_at g.K.Sink c.print_rows.new.output) [] (held ++ all)) c.requires.empty
    c.in_err-print_rows.ensures.cut)

pub returns-in_err-flush-clause-cut : goal.returns-in_err-flush-clause-cut
returns-in_err-flush-clause-cut g c =
    let all = acts_text c.args.after c.args.state.now.entries in
    let start = output_at g.K.Sink c.args.output.now in
    let now = output_at g.K.Sink c.flush.new.output in
    let p = err_from_is_err_and c.from_residual-in_err-flush.result
    c.from_residual-in_err-flush.ensures.1 in
    rw p.1 (subst (λ (held : List ℕ). IsCutIn start now [] (held ++ all)) c.requires.empty
    (cuts start (output_at g.K.Sink c.print_rows.new.output) now c.args.text.now.items
    c.print_rows.new.text.items [] all c.in_ok-print_rows.ensures.printed
    c.in_err-flush.ensures.cut))

pub returns-clause-wrote : goal.returns-clause-wrote
returns-clause-wrote g c =
    let all = acts_text c.args.after c.args.state.now.entries in
    let start = output_at g.K.Sink c.args.output.now in
    let now = output_at g.K.Sink c.flush.new.output in
    subst (λ (held : List ℕ). WroteAll start now (held ++ all)) c.requires.empty
    (ends start (output_at g.K.Sink c.print_rows.new.output) now c.args.text.now.items
    c.print_rows.new.text.items all c.in_ok-print_rows.ensures.printed
    c.in_ok-flush.ensures.wrote)
