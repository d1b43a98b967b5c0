use Rattle.std.proofs.Common.{◌++◌, List, sym, ◌∙◌, ap, append-nil}
use Rattle.std.specs.List.{flat_map}
use Rattle.paper_form.specs.declared.types.Line as lines
use Rattle.paper_form.specs.Papers.{line_text}
use Rattle.batch_paper.proofs.PaperSamples.{drawn_told, no_lines}
use Rattle.batch_paper.proofs.papers.write_samples.Goals as goal

pub returns-in_ok-write_drawn : goal.returns-in_ok-write_drawn
returns-in_ok-write_drawn c product =
    c.in_ok-write_drawn.ensures
    ∙ drawn_told c.args.state.now.entries c.args.batch.now product c.requires.legal
    c.in-Some.sample.now
    c.args.to.now.items c.args.words.now.first c.args.words.now.second
    (sym c.in-Some.ensures.value) c.requires.first c.requires.second

pub returns-in_default : goal.returns-in_default
returns-in_default c product =
    sym (append-nil c.args.to.now.items)
    ∙ ap (λ (some : List lines.Line). c.args.to.now.items ++ flat_map line_text some)
    (sym (no_lines c.args.state.now.entries c.args.batch.now product c.requires.legal
    (sym c.in_default.ensures.value)))
