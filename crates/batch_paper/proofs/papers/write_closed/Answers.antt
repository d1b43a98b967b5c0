use Rattle.std.proofs.Common.{◌≡◌, ◌≤◌, ℕ, List, length, subst, false, true, None, is_some, sym, ◌∙◌, ap}
use Rattle.paper_form.specs.declared.types.TheConstants.{MAX_PAPER}
use Rattle.book_words.specs.Acts.{product_of}
use Rattle.book_laws.proofs.BatchLaws.{orderly}
use Rattle.batch_paper.proofs.PaperProven.{paper_right}
use Rattle.batch_paper.proofs.papers.write_closed.Goals as goal

pub unreachable-requires : goal.unreachable-requires
unreachable-requires c =
    let entries = c.args.state.now.entries in
    let batch = c.args.batch.now in
    let none : product_of entries batch ≡ None = sym c.product.ensures.value ∙ c.in_default.is in
    let wrong : false ≡ true =
    sym (ap is_some none) ∙ (orderly entries c.requires.legal).known batch
    ∙ ap is_some c.requires.closed in
    cc

pub returns : goal.returns
returns c =
    let entries = c.args.state.now.entries in
    let batch = c.args.batch.now in
    let words = c.in_ok-text.ensures.words in
    paper_right entries batch c.in-Some.product c.requires.legal c.requires.closed
    (sym c.in-Some.ensures.value) c.new.result words.0 words.1
    (c.new.ensures ∙ c.in_ok-text.ensures.text)
    (subst (λ (bytes : List ℕ). length bytes ≤ MAX_PAPER)
    (sym c.new.ensures) c.in_ok-text.ensures.short)
