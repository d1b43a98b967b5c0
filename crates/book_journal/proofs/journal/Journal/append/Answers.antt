use Rattle.std.proofs.Common.{◌⊎◌, ◌∙◌, ⊎_elim, inl, inr, ℕ, List, [], ◌∷◌, ◌++◌, ap, subst, arith, Some}
use Rattle.disk_core.specs.Disk.{overwritten}
use Rattle.book_journal.specs.declared.layout.TheConstants.{CLOSED}
use Rattle.book_journal.specs.Rows.{Recovers, gate_behind}
use Rattle.book_journal.specs.Journal.{RecoversOrHangs}
use Rattle.book_journal.specs.Appending.{TouchesSlot, cleared, closed_gate}
use Rattle.book_journal.proofs.Calls.{no_both, row_over_gate}
use Rattle.book_journal.proofs.Journals.{images_keep, none_hangs, told_after, touches_on}
use Rattle.book_journal.proofs.Moments.{leaves_in, leaves_on}
use Rattle.book_journal.proofs.Results.{ok_at_err, err_at}
use Rattle.book_journal.proofs.journal.Journal.append.Goals as goal

-- the closing of the gate failed
pub returns-in_err-close-clause-appends : goal.returns-in_err-close-clause-appends
returns-in_err-close-clause-appends g c rows has =
    let old = c.args.self.now in
    let kept = c.close.ensures.keeps rows has in
    record {
      done = ok_at_err _ c.from_residual.result _ c.from_residual.ensures.1;
      failed = err_at c.from_residual.result _ kept.has;
      hung = λ hung hangs. err_at c.from_residual.result _ (inr (c.close.ensures.hung hung hangs));
      moments = leaves_in g.D.Disk old.disk c.close.new.self.disk _ _ kept.moments (λ f left. inl left);
    }

pub returns-in_err-close-clause-images : goal.returns-in_err-close-clause-images
returns-in_err-close-clause-images g c =
    images_keep g.D.Disk g.met.D.Disk.reads_image g.met.D.Disk.only_now c.close.new.self

-- the mark couldn't be cleared
pub returns-in_err-unmark-clause-appends : goal.returns-in_err-unmark-clause-appends
returns-in_err-unmark-clause-appends g c rows has =
    let old = c.args.self.now in
    let row = c.args.row.now in
    let mid = c.close.new.self in
    let new = c.unmark.new.self in
    let P : List ℕ → Type 0 = λ f. RecoversOrHangs g.D.Disk old rows f ⊎ Recovers f (rows ++ row ∷ []) in
    let kept = c.close.ensures.keeps rows has in
    let quiet = c.unmark.ensures.keeps rows kept.has in
    let calm = c.in_ok-close.ensures.closed in
    record {
      done = ok_at_err _ c.from_residual-in_err-unmark.result _ c.from_residual-in_err-unmark.ensures.1;
      failed = err_at c.from_residual-in_err-unmark.result _ quiet.has;
      hung = λ hung hangs. no_both new.hanging hangs.hangs (c.unmark.ensures.hanging ∙ calm);
      moments = leaves_on g.D.Disk old.disk mid.disk new.disk P
          (leaves_in g.D.Disk old.disk mid.disk _ P kept.moments (λ f left. inl left))
          (leaves_in g.D.Disk mid.disk new.disk _ P quiet.moments
          (λ f left. inl (inl (none_hangs g.D.Disk g.met.D.Disk.reads_image
          g.met.D.Disk.only_now mid rows f calm left))));
    }

pub returns-in_err-unmark-clause-images : goal.returns-in_err-unmark-clause-images
returns-in_err-unmark-clause-images g c =
    images_keep g.D.Disk g.met.D.Disk.reads_image g.met.D.Disk.only_now c.unmark.new.self

pub returns-in_err-unmark-clause-touched : goal.returns-in_err-unmark-clause-touched
returns-in_err-unmark-clause-touched g c b told now told_now =
    let old = c.args.self.now in
    let mid = told_after _ _ b c.close.ensures.tells told in
    let first = c.close.ensures.touched b told mid.0 mid.1 in
    let second = c.unmark.ensures.touched mid.0 mid.1 now told_now in
    touches_on old.count b mid.0 now first
    (subst (λ (n : ℕ). TouchesSlot n mid.0 now) c.close.ensures.count second)

-- the row couldn't be put
pub returns-in_err-put-clause-appends : goal.returns-in_err-put-clause-appends
returns-in_err-put-clause-appends g c rows has =
    let old = c.args.self.now in
    let row = c.args.row.now in
    let mid = c.close.new.self in
    let clear = c.unmark.new.self in
    let new = c.put.new.self in
    let P : List ℕ → Type 0 = λ f. RecoversOrHangs g.D.Disk old rows f ⊎ Recovers f (rows ++ row ∷ []) in
    let kept = c.close.ensures.keeps rows has in
    let quiet = c.unmark.ensures.keeps rows kept.has in
    let calm = c.in_ok-close.ensures.closed in
    let puts = c.in_err-put.ensures.puts rows quiet.has in
    record {
      done = ok_at_err _ c.from_residual-in_err-put.result _ c.from_residual-in_err-put.ensures.1;
      failed = err_at c.from_residual-in_err-put.result _ puts.failed;
      hung = λ hung hangs. err_at c.from_residual-in_err-put.result _ (inl (puts.hung hung hangs));
      moments = leaves_on g.D.Disk old.disk mid.disk new.disk P
          (leaves_in g.D.Disk old.disk mid.disk _ P kept.moments (λ f left. inl left))
          (leaves_on g.D.Disk mid.disk clear.disk new.disk P
          (leaves_in g.D.Disk mid.disk clear.disk _ P quiet.moments
          (λ f left. inl (inl (none_hangs g.D.Disk g.met.D.Disk.reads_image
          g.met.D.Disk.only_now mid rows f calm left))))
          (leaves_in g.D.Disk clear.disk new.disk _ P puts.moments
          (λ f left. ⊎_elim (λ without. inl (inl without)) (λ with_it. inr with_it) left)));
    }

pub returns-in_err-put-clause-images : goal.returns-in_err-put-clause-images
returns-in_err-put-clause-images g c =
    images_keep g.D.Disk g.met.D.Disk.reads_image g.met.D.Disk.only_now c.put.new.self

pub returns-in_err-put-clause-touched : goal.returns-in_err-put-clause-touched
returns-in_err-put-clause-touched g c b told now told_now =
    let old = c.args.self.now in
    let mid = told_after _ _ b c.close.ensures.tells told in
    let clear = told_after _ _ mid.0 c.unmark.ensures.tells mid.1 in
    let first = c.close.ensures.touched b told mid.0 mid.1 in
    let second = c.unmark.ensures.touched mid.0 mid.1 clear.0 clear.1 in
    let third = c.put.ensures.touched clear.0 clear.1 now told_now in
    touches_on old.count b mid.0 now first
    (touches_on old.count mid.0 clear.0 now
    (subst (λ (n : ℕ). TouchesSlot n mid.0 clear.0) c.close.ensures.count second)
    (subst (λ (n : ℕ). TouchesSlot n clear.0 now)
    (c.unmark.ensures.count ∙ c.close.ensures.count) third))

-- the row was appended
pub returns-clause-appends : goal.returns-clause-appends
returns-clause-appends g c rows has =
    let old = c.args.self.now in
    let row = c.args.row.now in
    let mid = c.close.new.self in
    let clear = c.unmark.new.self in
    let new = c.put.new.self in
    let P : List ℕ → Type 0 = λ f. RecoversOrHangs g.D.Disk old rows f ⊎ Recovers f (rows ++ row ∷ []) in
    let kept = c.close.ensures.keeps rows has in
    let quiet = c.unmark.ensures.keeps rows kept.has in
    let calm = c.in_ok-close.ensures.closed in
    let puts = c.in_ok-put.ensures.puts rows quiet.has in
    record {
      done = puts.done;
      failed = tt;
      hung = λ hung hangs. tt;
      moments = leaves_on g.D.Disk old.disk mid.disk new.disk P
          (leaves_in g.D.Disk old.disk mid.disk _ P kept.moments (λ f left. inl left))
          (leaves_on g.D.Disk mid.disk clear.disk new.disk P
          (leaves_in g.D.Disk mid.disk clear.disk _ P quiet.moments
          (λ f left. inl (inl (none_hangs g.D.Disk g.met.D.Disk.reads_image
          g.met.D.Disk.only_now mid rows f calm left))))
          (leaves_in g.D.Disk clear.disk new.disk _ P puts.moments
          (λ f left. ⊎_elim (λ without. inl (inl without)) (λ with_it. inr with_it) left)));
    }

pub returns-clause-images : goal.returns-clause-images
returns-clause-images g c = images_keep g.D.Disk g.met.D.Disk.reads_image g.met.D.Disk.only_now
    c.put.new.self

pub returns-clause-written : goal.returns-clause-written
returns-clause-written g c b told =
    let old = c.args.self.now in
    let mid = c.close.new.self in
    let row = c.args.row.now in
    let closed = c.in_ok-close.ensures.written b told in
    let clear = c.in_ok-unmark.ensures.written (closed_gate old b) closed in
    let put = c.in_ok-put.ensures.written (cleared mid.marked (closed_gate old b)) clear in
    let long = (c.requires.sound.gate b told).long in
    put ∙ ap (λ (l : List ℕ). Some l)
    (ap (λ (n : ℕ). overwritten (cleared mid.marked (closed_gate old b)) (gate_behind n)
    (row ++ CLOSED ∷ [])) (c.unmark.ensures.count ∙ c.close.ensures.count)
    ∙ ap (λ m. overwritten (cleared m (closed_gate old b)) (gate_behind old.count)
    (row ++ CLOSED ∷ [])) c.close.ensures.marked
    ∙ row_over_gate old.hanging old.marked b row (gate_behind old.count) (omega arith)
    (omega (arith, long)))

pub returns-clause-touched : goal.returns-clause-touched
returns-clause-touched g c b told now told_now =
    let old = c.args.self.now in
    let mid = told_after _ _ b c.close.ensures.tells told in
    let clear = told_after _ _ mid.0 c.unmark.ensures.tells mid.1 in
    let first = c.close.ensures.touched b told mid.0 mid.1 in
    let second = c.unmark.ensures.touched mid.0 mid.1 clear.0 clear.1 in
    let third = c.put.ensures.touched clear.0 clear.1 now told_now in
    touches_on old.count b mid.0 now first
    (touches_on old.count mid.0 clear.0 now
    (subst (λ (n : ℕ). TouchesSlot n mid.0 clear.0) c.close.ensures.count second)
    (subst (λ (n : ℕ). TouchesSlot n clear.0 now)
    (c.unmark.ensures.count ∙ c.close.ensures.count) third))
