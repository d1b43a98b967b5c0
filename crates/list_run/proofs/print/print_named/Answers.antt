use Rattle.std.proofs.Common.{List, ℕ, ◌++◌, [], sym, subst}
use Rattle.std.proofs.lemmas.Result.{err_from_is_err_and}
use Rattle.text_streams.specs.Streams.{output_at, IsCutIn}
use Rattle.report_run.specs.Printing.{HasPrinted}
use Rattle.list_run.specs.declared.types.Section.TheVariants.{Products, Tares, Batches}
use Rattle.list_run.specs.Listing.{day_line, section_lines}
use Rattle.list_run.specs.Texts.{line_text}
use Rattle.list_run.proofs.Pieces.{both, cut_first, cut_behind}
use Rattle.list_run.proofs.Parts.{text_of, named_text}
use Rattle.list_run.proofs.print.print_named.Goals as goal

pub returns-in_err-print_section-clause-cut : goal.returns-in_err-print_section-clause-cut
returns-in_err-print_section-clause-cut g c =
    let entries = c.args.state.now.entries in
    let day = line_text (day_line entries) in
    let products = text_of (section_lines Products entries) in
    let tares = text_of (section_lines Tares entries) in
    let batches = text_of (section_lines Batches entries) in
    let held = c.args.text.now.items in
    let start = output_at g.K.Sink c.args.output.now in
    let now = output_at g.K.Sink c.print_section.new.output in
    let left = c.from_residual-in_err-print_section in
    let p = err_from_is_err_and left.result left.ensures.1 in
    rw p.1 (subst (λ (text : List ℕ). IsCutIn start now [] (held ++ text))
    (sym (named_text entries))
    (cut_first start now held (day ++ products ++ tares) batches
    (cut_first start now held (day ++ products) tares
    (cut_behind start (output_at g.K.Sink c.print_line.new.output) now held
    c.print_line.new.text.items day products
    (rw c.day_line.ensures.line at c.in_ok-print_line.ensures.printed)
    c.in_err-print_section.ensures.cut))))

pub returns-in_err-print_section-2-clause-cut : goal.returns-in_err-print_section-2-clause-cut
returns-in_err-print_section-2-clause-cut g c =
    let entries = c.args.state.now.entries in
    let day = line_text (day_line entries) in
    let products = text_of (section_lines Products entries) in
    let tares = text_of (section_lines Tares entries) in
    let batches = text_of (section_lines Batches entries) in
    let held = c.args.text.now.items in
    let start = output_at g.K.Sink c.args.output.now in
    let mid = output_at g.K.Sink c.print_section.new.output in
    let now = output_at g.K.Sink c.print_section-2.new.output in
    let one = both start (output_at g.K.Sink c.print_line.new.output) mid held
    c.print_line.new.text.items c.print_section.new.text.items day products
    (rw c.day_line.ensures.line at c.in_ok-print_line.ensures.printed)
    c.in_ok-print_section.ensures.printed in
    let left = c.from_residual-in_err-print_section-2 in
    let p = err_from_is_err_and left.result left.ensures.1 in
    rw p.1 (subst (λ (text : List ℕ). IsCutIn start now [] (held ++ text))
    (sym (named_text entries))
    (cut_first start now held (day ++ products ++ tares) batches
    (cut_behind start mid now held c.print_section.new.text.items (day ++ products) tares one
    c.in_err-print_section-2.ensures.cut)))

pub returns-in_err-print_section-3-clause-cut : goal.returns-in_err-print_section-3-clause-cut
returns-in_err-print_section-3-clause-cut g c =
    let entries = c.args.state.now.entries in
    let day = line_text (day_line entries) in
    let products = text_of (section_lines Products entries) in
    let tares = text_of (section_lines Tares entries) in
    let batches = text_of (section_lines Batches entries) in
    let held = c.args.text.now.items in
    let start = output_at g.K.Sink c.args.output.now in
    let mid = output_at g.K.Sink c.print_section.new.output in
    let later = output_at g.K.Sink c.print_section-2.new.output in
    let now = output_at g.K.Sink c.print_section-3.new.output in
    let one = both start (output_at g.K.Sink c.print_line.new.output) mid held
    c.print_line.new.text.items c.print_section.new.text.items day products
    (rw c.day_line.ensures.line at c.in_ok-print_line.ensures.printed)
    c.in_ok-print_section.ensures.printed in
    let two = both start mid later held c.print_section.new.text.items
    c.print_section-2.new.text.items (day ++ products) tares one
    c.in_ok-print_section-2.ensures.printed in
    let left = c.from_residual-in_err-print_section-3 in
    let p = err_from_is_err_and left.result left.ensures.1 in
    rw p.1 (subst (λ (text : List ℕ). IsCutIn start now [] (held ++ text))
    (sym (named_text entries))
    (cut_behind start later now held c.print_section-2.new.text.items (day ++ products ++ tares)
    batches two c.in_err-print_section-3.ensures.cut))

pub returns-clause-printed : goal.returns-clause-printed
returns-clause-printed g c =
    let entries = c.args.state.now.entries in
    let day = line_text (day_line entries) in
    let products = text_of (section_lines Products entries) in
    let tares = text_of (section_lines Tares entries) in
    let batches = text_of (section_lines Batches entries) in
    let held = c.args.text.now.items in
    let start = output_at g.K.Sink c.args.output.now in
    let mid = output_at g.K.Sink c.print_section.new.output in
    let later = output_at g.K.Sink c.print_section-2.new.output in
    let now = output_at g.K.Sink c.print_section-3.new.output in
    let one = both start (output_at g.K.Sink c.print_line.new.output) mid held
    c.print_line.new.text.items c.print_section.new.text.items day products
    (rw c.day_line.ensures.line at c.in_ok-print_line.ensures.printed)
    c.in_ok-print_section.ensures.printed in
    let two = both start mid later held c.print_section.new.text.items
    c.print_section-2.new.text.items (day ++ products) tares one
    c.in_ok-print_section-2.ensures.printed in
    subst (HasPrinted start now held c.print_section-3.new.text.items) (sym (named_text entries))
    (both start later now held c.print_section-2.new.text.items c.print_section-3.new.text.items
    (day ++ products ++ tares) batches two c.in_ok-print_section-3.ensures.printed)
