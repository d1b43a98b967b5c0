use Rattle.std.proofs.Common.{◌+◌, ◌-◌, ◌++◌, sym, subst, List, [], ℕ, Option, length, arith, length-drop, ap}
use Rattle.std.proofs.lemmas.Result.{err_from_is_err_and}
use Rattle.book_words.specs.declared.act.Entry.{Entry}
use Rattle.book_mount.specs.Listing.{content_rows}
use Rattle.book_mount.specs.Opening.{HasRead, ReadsOn}
use Rattle.book_mount.proofs.Exits.{handed_on, grows_none, grows_on}
use Rattle.book_mount.proofs.Walks.{content_before, content_behind, content_whole, content_ends, content_goes_on, none_there}
use Rattle.book_mount.proofs.content.replay_content.Goals as goal

pub loop-before-init : goal.loop-before-init
loop-before-init c = record {
  within = omega arith;
  count = ap length c.requires.empty;
  grows = grows_none c.args.book.now;
  reads = λ listed left read.
      subst (λ (entries : List Entry). HasRead listed entries
      (content_rows (c.args.rows - 0) 1 c.args.content.now ++ left)) (sym c.requires.empty)
      (subst (λ (l : List (Option (List ℕ))). HasRead listed [] (l ++ left))
      (sym (content_whole c.args.rows c.args.content.now)) read);
}

pub loop-before-preserved : goal.loop-before-preserved
loop-before-preserved c =
    let so_far = c.loop-before in
    let rest = c.split_at.result.1.now in
    let content = c.args.content.now in
    let step = c.in_ok-place.ensures in
    record {
      within = omega (
        arith,
        step.within,
        so_far.invariant.within,
        ap length c.split_at.ensures.back,
        length-drop so_far.place content,
      );
      count = step.count;
      grows = grows_on c.args.book.now so_far.book c.replay_form.new.book so_far.invariant.grows
          c.replay_form.ensures.grows;
      reads = λ listed left read.
          content_behind listed left c.replay_form.new.book.entries c.args.rows so_far.before
          so_far.place c.in_ok-place.field-0 content rest c.split_at.ensures.back
          (step.reads listed left (c.args.rows - (so_far.before + 1))
          (content_before listed left so_far.book.entries c.args.rows so_far.before so_far.place
          content rest c.loop-before-test.true c.split_at.ensures.back
          (so_far.invariant.reads listed left read)));
    }

pub returns-in_err-place-clause-reads : goal.returns-in_err-place-clause-reads
returns-in_err-place-clause-reads c listed left read =
    let so_far = c.loop-before in
    let rest = c.split_at.result.1.now in
    let stops = c.in_err-place.ensures.reads listed left (c.args.rows - (so_far.before + 1))
    (content_before listed left so_far.book.entries c.args.rows so_far.before so_far.place
    c.args.content.now rest c.loop-before-test.true c.split_at.ensures.back
    (so_far.invariant.reads listed left read)) in
    let p = err_from_is_err_and c.from_residual.result c.from_residual.ensures.1 in
    handed_on (λ r. ReadsOn listed c.replay_form.new.book.entries left r) c.from_residual.result p.0
    _ p.1 p.2 stops

pub returns-then-place-content-clause-reads : goal.returns-then-place-content-clause-reads
returns-then-place-content-clause-reads c listed left read =
    let so_far = c.loop-before in
    none_there listed left so_far.book.entries (c.args.rows + 1) (omega (arith, so_far.invariant.count))
    (subst (λ (l : List (Option (List ℕ))). HasRead listed so_far.book.entries (l ++ left))
    (content_goes_on c.args.rows so_far.before so_far.place c.args.content.now
    c.loop-before-test.false c.if-place-content.true)
    (so_far.invariant.reads listed left read))

pub returns-clause-reads : goal.returns-clause-reads
returns-clause-reads c listed left read =
    let so_far = c.loop-before in
    subst (λ (l : List (Option (List ℕ))). HasRead listed so_far.book.entries (l ++ left))
    (content_ends c.args.rows so_far.before so_far.place c.args.content.now c.loop-before-test.false
    c.if-place-content.false)
    (so_far.invariant.reads listed left read)
