use Rattle.std.proofs.Common.{◌∙◌, ◌≤◌, sym, subst, List, [], ℕ, Option, refl, length, arith}
use Rattle.std.proofs.lemmas.Result.{err_from_is_err_and}
use Rattle.book_journal.specs.Journal.{count_of}
use Rattle.book_journal.specs.Rows.{gate_behind}
use Rattle.book_mount.specs.Opening.{HasRead, ReadsOn}
use Rattle.book_mount.proofs.Exits.{handed_on, grows_none, grows_on, read_none, read_on, count_kept}
use Rattle.book_mount.proofs.Walks.{slots_next, slots_none, slots_first}
use Rattle.book_mount.proofs.slots.read_slots.Goals as goal

pub loop-before-init : goal.loop-before-init
loop-before-init g c = record {
  count = sym c.len-first.ensures;
  behind = omega (arith, c.len-first.ensures);
  grows = grows_none c.args.book.now;
  read = read_none g.D.Disk c.args.journal.now;
  calm = refl;
  asked = omega arith;
  reads = λ bytes told long rows read.
      subst (λ (l : List (Option (List ℕ))). HasRead rows c.args.book.now.entries l)
      (slots_first (count_of c.args.journal.now) c.len-first.result
      (length c.args.book.now.entries) bytes c.len-first.ensures) read;
}

pub returns-in_err-read_slot-clause-reads : goal.returns-in_err-read_slot-clause-reads
returns-in_err-read_slot-clause-reads g c bytes told long rows read =
    let so_far = c.loop-before in
    let count = count_of c.args.journal.now in
    let same = count_kept g.D.Disk c.args.journal.now so_far.journal so_far.invariant.read in
    let next = subst (λ (l : List (Option (List ℕ))). HasRead rows so_far.book.entries l)
    (slots_next count so_far.before bytes
    (omega (arith, c.loop-before-test.true, c.count-count.ensures)))
    (so_far.invariant.reads bytes told long rows read) in
    let stops = c.in_err-read_slot.ensures.reads bytes (so_far.invariant.read.unmoved.reads ∙ told)
    (subst (λ (n : ℕ). gate_behind n ≤ length bytes) (sym same) long) rows _ next in
    let p = err_from_is_err_and c.from_residual.result c.from_residual.ensures.1 in
    handed_on (λ r. ReadsOn rows c.read_slot.new.book.entries [] r) c.from_residual.result p.0 _ p.1
    p.2 stops

pub returns-in_err-read_slot-clause-grows : goal.returns-in_err-read_slot-clause-grows
returns-in_err-read_slot-clause-grows g c =
    grows_on c.args.book.now c.loop-before.book c.read_slot.new.book c.loop-before.invariant.grows
    c.read_slot.ensures.grows

pub returns-in_err-read_slot-clause-read : goal.returns-in_err-read_slot-clause-read
returns-in_err-read_slot-clause-read g c =
    read_on g.D.Disk c.args.journal.now c.loop-before.journal c.read_slot.new.journal
    c.loop-before.invariant.read c.read_slot.ensures.read

pub loop-before-preserved : goal.loop-before-preserved
loop-before-preserved g c =
    let so_far = c.loop-before in
    let step = c.in_ok-read_slot.ensures in
    let count = count_of c.args.journal.now in
    let same = count_kept g.D.Disk c.args.journal.now so_far.journal so_far.invariant.read in
    record {
      count = step.count;
      behind = omega (arith, so_far.invariant.behind);
      grows = grows_on c.args.book.now so_far.book c.read_slot.new.book so_far.invariant.grows
          c.read_slot.ensures.grows;
      read = read_on g.D.Disk c.args.journal.now so_far.journal c.read_slot.new.journal
          so_far.invariant.read c.read_slot.ensures.read;
      calm = step.cause ∙ so_far.invariant.calm;
      asked = omega (arith, c.read_slot.ensures.asked, so_far.invariant.asked, so_far.invariant.behind);
      reads = λ bytes told long rows read.
          let next = subst (λ (l : List (Option (List ℕ))). HasRead rows so_far.book.entries l)
          (slots_next count so_far.before bytes
          (omega (arith, c.loop-before-test.true, c.count-count.ensures)))
          (so_far.invariant.reads bytes told long rows read) in
          step.reads bytes (so_far.invariant.read.unmoved.reads ∙ told)
          (subst (λ (n : ℕ). gate_behind n ≤ length bytes) (sym same) long) rows _ next;
    }

pub returns-clause-reads : goal.returns-clause-reads
returns-clause-reads g c bytes told long rows read =
    let so_far = c.loop-before in
    subst (λ (l : List (Option (List ℕ))). HasRead rows so_far.book.entries l)
    (slots_none (count_of c.args.journal.now) so_far.before bytes
    (omega (arith, c.loop-before-test.false, c.count-count.ensures)))
    (so_far.invariant.reads bytes told long rows read)
