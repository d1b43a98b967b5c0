use Rattle.std.proofs.Common.{rules, ◌≡◌, ◌<◌, length, sym, ◌∙◌}
use Rattle.book_snapshot.specs.declared.layout.TheConstants.{ROW_BYTES}
use Rattle.book_store.proofs.DenseContent.{allowed_at, squeezed_more}
use Rattle.book_store.proofs.rest.squeezed.Goals as goal

pub write_row-requires : goal.write_row-requires
write_row-requires c =
    let inside : c.loop-before.before < length c.args.book.now.entries = search rules in
    allowed_at c.args.book.now.entries c.loop-before.before c.unwrap-entry.result c.requires.legal
    c.lawful_entries_are_allowed.ensures inside
    (sym c.entry.ensures ∙ c.unwrap-entry.ensures)

pub loop-before-preserved : goal.loop-before-preserved
loop-before-preserved c =
    let inside : c.loop-before.before < length c.args.book.now.entries = search rules in
    let long : length c.write_row.result ≡ ROW_BYTES = search rules in
    squeezed_more c.args.book.now.entries c.loop-before.before c.unwrap-entry.result
    c.write_row.result _ _ inside
    (sym c.entry.ensures ∙ c.unwrap-entry.ensures) long c.write_row.ensures c.loop-before.invariant
    c.in_ok-squeeze.ensures.ok
