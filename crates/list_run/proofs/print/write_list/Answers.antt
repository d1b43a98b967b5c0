use Rattle.std.proofs.Common.{List, ℕ, ◌++◌, [], sym, subst}
use Rattle.std.proofs.lemmas.Result.{err_from_is_err_and}
use Rattle.text_streams.specs.Streams.{output_at, WroteAll, IsCutIn}
use Rattle.report_run.proofs.Pieces.{ends}
use Rattle.list_run.specs.Listing.{named_lines, numbered_lines}
use Rattle.list_run.proofs.Pieces.{both, cut_first, cut_behind, cut_sent}
use Rattle.list_run.proofs.Parts.{text_of, listed_text}
use Rattle.list_run.proofs.print.write_list.Goals as goal

pub returns-in_err-print_named-clause-cut : goal.returns-in_err-print_named-clause-cut
returns-in_err-print_named-clause-cut g c =
    let entries = c.args.state.now.entries in
    let start = output_at g.K.Sink c.args.output.now in
    let now = output_at g.K.Sink c.print_named.new.output in
    let named = text_of (named_lines entries) in
    let numbered = text_of (numbered_lines entries c.args.limit) in
    let p = err_from_is_err_and c.from_residual.result c.from_residual.ensures.1 in
    rw p.1 (subst (IsCutIn start now []) (sym (listed_text entries c.args.limit))
    (subst (λ (held : List ℕ). IsCutIn start now [] (held ++ (named ++ numbered))) c.requires.empty
    (cut_first start now c.args.text.now.items named numbered c.in_err-print_named.ensures.cut)))

pub returns-in_err-print_numbered-clause-cut : goal.returns-in_err-print_numbered-clause-cut
returns-in_err-print_numbered-clause-cut g c =
    let entries = c.args.state.now.entries in
    let start = output_at g.K.Sink c.args.output.now in
    let mid = output_at g.K.Sink c.print_named.new.output in
    let now = output_at g.K.Sink c.print_numbered.new.output in
    let named = text_of (named_lines entries) in
    let numbered = text_of (numbered_lines entries c.args.limit) in
    let left = c.from_residual-in_err-print_numbered in
    let p = err_from_is_err_and left.result left.ensures.1 in
    rw p.1 (subst (IsCutIn start now []) (sym (listed_text entries c.args.limit))
    (subst (λ (held : List ℕ). IsCutIn start now [] (held ++ (named ++ numbered))) c.requires.empty
    (cut_behind start mid now c.args.text.now.items c.print_named.new.text.items named numbered
    c.in_ok-print_named.ensures.printed c.in_err-print_numbered.ensures.cut)))

pub returns-in_err-flush-clause-cut : goal.returns-in_err-flush-clause-cut
returns-in_err-flush-clause-cut g c =
    let entries = c.args.state.now.entries in
    let start = output_at g.K.Sink c.args.output.now in
    let mid = output_at g.K.Sink c.print_named.new.output in
    let later = output_at g.K.Sink c.print_numbered.new.output in
    let now = output_at g.K.Sink c.flush.new.output in
    let held = c.args.text.now.items in
    let named = text_of (named_lines entries) in
    let numbered = text_of (numbered_lines entries c.args.limit) in
    let left = c.from_residual-in_err-flush in
    let p = err_from_is_err_and left.result left.ensures.1 in
    rw p.1 (subst (IsCutIn start now []) (sym (listed_text entries c.args.limit))
    (subst (λ (held : List ℕ). IsCutIn start now [] (held ++ (named ++ numbered))) c.requires.empty
    (cut_sent start later now held c.print_numbered.new.text.items (named ++ numbered)
    (both start mid later held c.print_named.new.text.items c.print_numbered.new.text.items named
    numbered c.in_ok-print_named.ensures.printed c.in_ok-print_numbered.ensures.printed)
    c.in_err-flush.ensures.cut)))

pub returns-clause-wrote : goal.returns-clause-wrote
returns-clause-wrote g c =
    let entries = c.args.state.now.entries in
    let start = output_at g.K.Sink c.args.output.now in
    let mid = output_at g.K.Sink c.print_named.new.output in
    let later = output_at g.K.Sink c.print_numbered.new.output in
    let now = output_at g.K.Sink c.flush.new.output in
    let held = c.args.text.now.items in
    let named = text_of (named_lines entries) in
    let numbered = text_of (numbered_lines entries c.args.limit) in
    subst (WroteAll start now) (sym (listed_text entries c.args.limit))
    (subst (λ (held : List ℕ). WroteAll start now (held ++ (named ++ numbered))) c.requires.empty
    (ends start later now held c.print_numbered.new.text.items (named ++ numbered)
    (both start mid later held c.print_named.new.text.items c.print_numbered.new.text.items named
    numbered c.in_ok-print_named.ensures.printed c.in_ok-print_numbered.ensures.printed)
    c.in_ok-flush.ensures.wrote))
