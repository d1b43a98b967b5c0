use Rattle.std.proofs.Common.{List, ℕ, ◌++◌, [], sym, subst}
use Rattle.std.proofs.lemmas.Result.{err_from_is_err_and}
use Rattle.text_streams.specs.Streams.{output_at, IsCutIn}
use Rattle.report_run.specs.Printing.{HasPrinted}
use Rattle.list_run.specs.Listing.{lane_lines, desk_lines, rows_line}
use Rattle.list_run.specs.Texts.{line_text}
use Rattle.list_run.proofs.Pieces.{both, cut_first, cut_behind, cut_held}
use Rattle.list_run.proofs.Parts.{text_of, numbered_text}
use Rattle.list_run.proofs.print.print_numbered.Goals as goal

pub returns-in_err-print_lanes-clause-cut : goal.returns-in_err-print_lanes-clause-cut
returns-in_err-print_lanes-clause-cut g c =
    let entries = c.args.state.now.entries in
    let lanes = text_of (lane_lines entries) in
    let desks = text_of (desk_lines entries) in
    let rows = line_text (rows_line entries c.args.limit) in
    let held = c.args.text.now.items in
    let start = output_at g.K.Sink c.args.output.now in
    let now = output_at g.K.Sink c.print_lanes.new.output in
    let p = err_from_is_err_and c.from_residual.result c.from_residual.ensures.1 in
    rw p.1 (subst (λ (text : List ℕ). IsCutIn start now [] (held ++ text))
    (sym (numbered_text entries c.args.limit))
    (cut_first start now held (lanes ++ desks) rows
    (cut_first start now held lanes desks c.in_err-print_lanes.ensures.cut)))

pub returns-in_err-print_desks-clause-cut : goal.returns-in_err-print_desks-clause-cut
returns-in_err-print_desks-clause-cut g c =
    let entries = c.args.state.now.entries in
    let lanes = text_of (lane_lines entries) in
    let desks = text_of (desk_lines entries) in
    let rows = line_text (rows_line entries c.args.limit) in
    let held = c.args.text.now.items in
    let start = output_at g.K.Sink c.args.output.now in
    let mid = output_at g.K.Sink c.print_lanes.new.output in
    let now = output_at g.K.Sink c.print_desks.new.output in
    let left = c.from_residual-in_err-print_desks in
    let p = err_from_is_err_and left.result left.ensures.1 in
    rw p.1 (subst (λ (text : List ℕ). IsCutIn start now [] (held ++ text))
    (sym (numbered_text entries c.args.limit))
    (cut_first start now held (lanes ++ desks) rows
    (cut_behind start mid now held c.print_lanes.new.text.items lanes desks
    c.in_ok-print_lanes.ensures.printed c.in_err-print_desks.ensures.cut)))

pub returns-in_err-print_line-clause-cut : goal.returns-in_err-print_line-clause-cut
returns-in_err-print_line-clause-cut g c =
    let entries = c.args.state.now.entries in
    let lanes = text_of (lane_lines entries) in
    let desks = text_of (desk_lines entries) in
    let rows = line_text (rows_line entries c.args.limit) in
    let held = c.args.text.now.items in
    let start = output_at g.K.Sink c.args.output.now in
    let mid = output_at g.K.Sink c.print_lanes.new.output in
    let later = output_at g.K.Sink c.print_desks.new.output in
    let now = output_at g.K.Sink c.print_line.new.output in
    let one = both start mid later held c.print_lanes.new.text.items c.print_desks.new.text.items
    lanes desks c.in_ok-print_lanes.ensures.printed c.in_ok-print_desks.ensures.printed in
    let left = c.from_residual-in_err-print_line in
    let p = err_from_is_err_and left.result left.ensures.1 in
    rw p.1 (subst (λ (text : List ℕ). IsCutIn start now [] (held ++ text))
    (sym (numbered_text entries c.args.limit))
    (cut_held start later now held c.print_desks.new.text.items (lanes ++ desks) rows one
    c.in_err-print_line.ensures.cut))

pub returns-clause-printed : goal.returns-clause-printed
returns-clause-printed g c =
    let entries = c.args.state.now.entries in
    let lanes = text_of (lane_lines entries) in
    let desks = text_of (desk_lines entries) in
    let rows = line_text (rows_line entries c.args.limit) in
    let held = c.args.text.now.items in
    let start = output_at g.K.Sink c.args.output.now in
    let mid = output_at g.K.Sink c.print_lanes.new.output in
    let later = output_at g.K.Sink c.print_desks.new.output in
    let now = output_at g.K.Sink c.print_line.new.output in
    let one = both start mid later held c.print_lanes.new.text.items c.print_desks.new.text.items
    lanes desks c.in_ok-print_lanes.ensures.printed c.in_ok-print_desks.ensures.printed in
    subst (HasPrinted start now held c.print_line.new.text.items)
    (sym (numbered_text entries c.args.limit))
    (both start later now held c.print_desks.new.text.items c.print_line.new.text.items
    (lanes ++ desks) rows one
    (rw c.rows_line.ensures.line at c.in_ok-print_line.ensures.printed))
