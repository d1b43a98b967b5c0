use Rattle.std.proofs.Common.{rules, ◌≡◌, true, ◌+◌, ◌<◌, ◌≤◌, ◌∷◌, List, ℕ, length, drop, get_or, refl, ap, ◌∙◌, subst}
use Rattle.std.proofs.lemmas.Result.{err_from_is_err_and}
use Rattle.std.proofs.lemmas.List.{drop_more}
use Rattle.std.specs.List.{flat_map}
use Rattle.book_words.specs.declared.act.Entry.{Entry}
use Rattle.text_streams.specs.Streams.{output_at}
use Rattle.report_run.specs.Printing.{IsPrinting}
use Rattle.report_run.specs.Reports.{text_if_there}
use Rattle.report_run.proofs.Pieces.{begins, goes_on, cuts}
use Rattle.book_words.specs.Ranges.{is_act_in_range}
use Rattle.book_words.proofs.LegalLemmas.{legal_in_range}
use Rattle.list_run.specs.Listing.{act_line, section_lines}
use Rattle.list_run.specs.Texts.{line_text}
use Rattle.list_run.proofs.Walks.{section_text, next_line, no_lines}
use Rattle.list_run.proofs.print.print_section.Goals as goal

pub loop-entry-init : goal.loop-entry-init
loop-entry-init g c = record {
  printing = begins (output_at g.K.Sink c.args.output.now) c.args.text.now.items
      (flat_map line_text (section_lines c.args.section c.args.state.now.entries));
  room = refl;
}

pub act_line-requires : goal.act_line-requires
act_line-requires g c =
    let entries = c.args.state.now.entries in
    let place = c.loop-entry.entry-index in
    let item = c.entry-item.result in
    let inside : place < length entries = search rules in
    let at : get_or entries place item ≡ item = search rules in
    record {
      range = subst (λ (e : Entry). is_act_in_range e.act ≡ true) at
          (legal_in_range entries c.len-rows.ensures.legal place item inside);
    }

pub loop-entry-preserved : goal.loop-entry-preserved
loop-entry-preserved g c =
    let here = c.loop-entry in
    let section = c.args.section in
    let entries = c.args.state.now.entries in
    let others = drop (here.entry-index + 1) entries in
    let inside : here.entry-index < length entries = search rules in
    let item = c.entry-item.result in
    let at : get_or entries here.entry-index item ≡ item = search rules in
    let is = drop_more entries here.entry-index item inside ∙ ap (λ (e : Entry). e ∷ others) at in
    record {
      printing = goes_on (output_at g.K.Sink c.args.output.now) (output_at g.K.Sink here.output)
          (output_at g.K.Sink c.print_some.new.output) c.args.text.now.items here.text.items
          c.print_some.new.text.items
          (section_text section entries (drop here.entry-index entries))
          (text_if_there line_text (act_line section entries c.entry-item.result.act))
          (section_text section entries others)
          (flat_map line_text (section_lines section entries))
          (next_line section entries (drop here.entry-index entries) c.entry-item.result others
          is) here.invariant.printing
          (rw c.act_line.ensures.line at c.in_ok-print_some.ensures.printed);
      room = c.print_some.ensures.room ∙ here.invariant.room;
    }

pub returns-in_err-print_some-clause-cut : goal.returns-in_err-print_some-clause-cut
returns-in_err-print_some-clause-cut g c =
    let here = c.loop-entry in
    let section = c.args.section in
    let entries = c.args.state.now.entries in
    let p = err_from_is_err_and c.from_residual.result c.from_residual.ensures.1 in
    rw p.1 (cuts (output_at g.K.Sink c.args.output.now) (output_at g.K.Sink here.output)
    (output_at g.K.Sink c.print_some.new.output) c.args.text.now.items here.text.items
    (section_text section entries (drop here.entry-index entries))
    (flat_map line_text (section_lines section entries)) here.invariant.printing
    c.in_err-print_some.ensures.cut)

pub returns-clause-printed : goal.returns-clause-printed
returns-clause-printed g c =
    let here = c.loop-entry in
    let section = c.args.section in
    let entries = c.args.state.now.entries in
    let all : length entries ≤ here.entry-index = search rules in
    subst (λ (left : List ℕ). IsPrinting (output_at g.K.Sink c.args.output.now)
    (output_at g.K.Sink here.output) c.args.text.now.items here.text.items left
    (flat_map line_text (section_lines section entries)))
    (no_lines section entries here.entry-index all) here.invariant.printing
