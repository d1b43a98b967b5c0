use Rattle.std.proofs.Common.{◌≡◌, ◌∙◌, ℕ, ap, sym, subst, arith, true, false}
use Rattle.std.proofs.lemmas.Bool.Decides.{Decides-eqb}
use Rattle.std.proofs.lemmas.Slice.Eq.{slice_eq-Decides}
use Rattle.book_snapshot.specs.declared.layout.TheConstants.{TAIL}
use Rattle.book_snapshot.specs.Blocks.{end_block, IsSnapshotSize}
use Rattle.book_snapshot.specs.BlockLaws.{end_rows, end_bytes}
use Rattle.book_snapshot.proofs.ends.read_tail.Goals as goal
use Rattle.book_snapshot.proofs.ends.read_tail.Goals.{else-is_size-via-then-is_size+else-eq, else-is_size-via-else-is_size}

pub returns-then-eq : goal.returns-then-eq
returns-then-eq c =
    let same = (slice_eq-Decides Decides-eqb _ _ _ c.eq.ensures).0 c.if-eq.true in
    (c.is_size.ensures.yes c.if-is_size.true, same ∙ c.tail_block.ensures)

true_and_false : true ≡ false → ⊥
true_and_false is = absurd cc

pub returns : goal.returns
returns c rows bytes size is =
    let rows_are = c.get_u32.ensures
    ∙ end_rows TAIL rows bytes c.args.block.now (omega (arith, size.few_rows)) is in
    let bytes_are = c.get_u64.ensures
    ∙ end_bytes TAIL rows bytes c.args.block.now (omega (arith, size.few_bytes)) is in
    let as_read : IsSnapshotSize c.get_u32.result c.get_u64.result =
    subst (λ (n : ℕ). IsSnapshotSize n c.get_u64.result) (sym rows_are)
    (subst (λ (n : ℕ). IsSnapshotSize rows n) (sym bytes_are) size) in
    elim c.else-is_size.branch [
      | else-is_size-via-then-is_size+else-eq w ↦
          let same : c.args.block.now ≡ w.tail_block.result = is
          ∙ ap (λ (n : ℕ). end_block TAIL n bytes) (sym rows_are)
          ∙ ap (λ (n : ℕ). end_block TAIL c.get_u32.result n) (sym bytes_are)
          ∙ sym w.tail_block.ensures in
          true_and_false (sym ((slice_eq-Decides Decides-eqb _ _ _ w.eq.ensures).1 same) ∙ w.if-eq.false)
      | else-is_size-via-else-is_size w ↦ c.is_size.ensures.no w.if-is_size.false as_read
    ]
