use Rattle.std.proofs.Common.{ℕ, List, ◌++◌, length, sym, subst, ap, ◌∙◌, arith, length-drop}
use Rattle.book_snapshot.specs.declared.layout.TheConstants.{ROW_BYTES}
use Rattle.book_snapshot.specs.DenseRows.{dense, IsRow}
use Rattle.book_file.specs.Comparing.{slot_at}
use Rattle.book_file.proofs.Forms.{form_more}
use Rattle.book_file.proofs.compare.compare_slots.Goals as goal

pub returns-in-Other-clause-differs : goal.returns-in-Other-clause-differs
returns-in-Other-clause-differs c differs = (
  omega (arith, c.loop-slot-test.true),
  λ rest is begins.
      let numbered = subst
      (λ n. IsRow ROW_BYTES n (slot_at c.loop-slot.slot c.args.slots.now))
      (sym c.loop-slot.invariant.number) is in
      let row = subst (λ (r : List ℕ). IsRow ROW_BYTES c.loop-slot.number r)
      (sym c.nth_slot.ensures) numbered in
      let goes = c.split_at.ensures.back ∙ begins
      ∙ ap (λ (r : List ℕ). dense r ++ rest) (sym c.nth_slot.ensures) in
      c.in-Other.ensures.other tt rest row goes,
)

pub loop-slot-preserved : goal.loop-slot-preserved
loop-slot-preserved c =
    let so_far = c.loop-slot in
    let content = c.args.content.now in
    record {
      within = omega (
        arith,
        c.in-Same.ensures.same.0,
        so_far.invariant.within,
        ap length c.split_at.ensures.back,
        length-drop so_far.place content,
      );
      same = form_more so_far.place c.in-Same.taken so_far.slot content c.split_at.result.1.now
          c.args.slots.now c.nth_slot.result.now so_far.invariant.same c.split_at.ensures.back
          c.nth_slot.ensures c.in-Same.ensures.same.1;
      number = omega (arith, c.saturating_add-number.ensures, so_far.invariant.number);
    }
