use Rattle.std.proofs.Common.{rules, ◌≡◌, ◌<◌, ◌≤◌, length, take, List, ℕ, sym, ◌∙◌, ap, subst, arith, length-drop}
use Rattle.device_facts.specs.Prefix.{IsPrefixOf}
use Rattle.book_snapshot.specs.declared.layout.TheConstants.{ROW_BYTES}
use Rattle.book_snapshot.specs.DenseRows.{dense}
use Rattle.book_store.proofs.DenseContent.{allowed_at, IsSqueezed}
use Rattle.book_audit.proofs.Agreeing.{agrees_more, agrees_so_far, agrees_no_more}
use Rattle.book_audit.proofs.beside.agree.Goals as goal

pub write_row-row-requires : goal.write_row-row-requires
write_row-row-requires c =
    let inside : c.loop-before.before < length c.args.book.now.entries = search rules in
    allowed_at c.args.book.now.entries c.loop-before.before c.unwrap-entry.result c.requires.legal
    c.lawful_entries_are_allowed.ensures inside
    (sym c.entry.ensures ∙ c.unwrap-entry.ensures)

pub loop-before-preserved : goal.loop-before-preserved
loop-before-preserved c =
    let content = c.args.content.now in
    let so_far = c.loop-before in
    let inside : so_far.before < length c.args.book.now.entries = search rules in
    let long : length c.write_row-row.result ≡ ROW_BYTES = search rules in
    let there = sym c.entry.ensures ∙ c.unwrap-entry.ensures in
    record {
      within = omega (
        arith,
        c.in-Some.ensures.0,
        ap length c.split_at.ensures.back,
        length-drop so_far.place content,
        so_far.invariant.within,
      );
      so_far = agrees_more c.args.book.now.entries so_far.before so_far.place c.in-Some.taken
          c.unwrap-entry.result c.write_row-row.result content inside there long
          c.write_row-row.ensures so_far.invariant.so_far
          (ap (λ (l : List ℕ). take c.in-Some.taken l) (sym c.split_at.ensures.back)
          ∙ c.in-Some.ensures.1);
    }

pub returns-in_default : goal.returns-in_default
returns-in_default c =
    let content = c.args.content.now in
    let entries = c.args.book.now.entries in
    let so_far = c.loop-before in
    let inside : so_far.before < length entries = search rules in
    let said : so_far.before ≤ c.args.says = search rules in
    let long : length c.write_row-row.result ≡ ROW_BYTES = search rules in
    let there = sym c.entry.ensures ∙ c.unwrap-entry.ensures in
    record {
      agrees = agrees_so_far entries c.args.says so_far.before so_far.place content
          (omega (arith, inside)) said so_far.invariant.so_far;
      no_further = agrees_no_more entries c.args.says so_far.before so_far.place
          c.unwrap-entry.result c.write_row-row.result content inside there long
          c.write_row-row.ensures so_far.invariant.so_far so_far.invariant.within
          (λ prefix. c.in_default.ensures
          (subst (IsPrefixOf (dense c.write_row-row.result)) (sym c.split_at.ensures.back) prefix));
      inside = so_far.invariant.within;
      are = so_far.invariant.so_far.is;
    }

pub returns : goal.returns
returns c =
    let content = c.args.content.now in
    let entries = c.args.book.now.entries in
    let so_far = c.loop-before in
    let most = c.min-most.result in
    let same : so_far.before ≡ most = search rules in
    let given : most ≤ length entries = search rules in
    let said : most ≤ c.args.says = search rules in
    let squeezed = subst (λ (n : ℕ). IsSqueezed entries n (take so_far.place content)) same
    so_far.invariant.so_far in
    record {
      agrees = agrees_so_far entries c.args.says most so_far.place content given said squeezed;
      no_further = λ agrees.
          absurd (omega (arith, agrees.given, agrees.said, c.min-most.ensures, c.len.ensures));
      inside = so_far.invariant.within;
      are = squeezed.is;
    }
