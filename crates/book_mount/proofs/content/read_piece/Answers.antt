use Rattle.std.proofs.Common.{◌≡◌, ◌∙◌, ◌++◌, sym, List, ℕ, ap, take, rules}
use Rattle.book_journal.specs.Journal.{kept_of}
use Rattle.book_mount.proofs.Parts.{part_read}
use Rattle.book_mount.proofs.content.read_piece.Goals as goal

pub returns-clause-content : goal.returns-clause-content
returns-clause-content g c bytes told ends =
    let items : c.extend_from_slice.new.self.items ≡ c.args.content.now.items
    ++ take c.min-count.result c.blocks-2.new.into = search rules in
    items ∙ ap (λ (l : List ℕ). c.args.content.now.items ++ l)
    (part_read c.args.kept (kept_of c.args.journal.now) bytes c.args.from c.min-count.result
    c.blocks-2.result c.blocks-2.new.into c.requires.kept c.min-count.ensures
    (c.blocks-2.ensures.content bytes told) ends (sym c.is_err.ensures.value ∙ c.if-is_err.false))
