use Rattle.std.proofs.Common.{◌≡◌, ◌∙◌, ◌≤◌, ℕ, List, length, ap, refl, sym, subst, arith, Option, Some, None, is_some, Bool, true, false, nat_lt, if◌then◌else◌, [], ◌∷◌}
use Rattle.std.proofs.lemmas.Bool.Decides.{nat_tests}
use Rattle.device_facts.specs.Known.{TellsAsBefore}
use Rattle.disk_core.specs.Disk.{Only, overwritten}
use Rattle.book_snapshot.specs.DenseRows.{content}
use Rattle.book_snapshot.specs.Layout.{snapshot_end}
use Rattle.book_snapshot.specs.Blocks.{IsSnapshotSize}
use Rattle.book_journal.specs.declared.layout.TheConstants.{MARKED, CLOSED}
use Rattle.book_snapshot.specs.declared.layout.TheConstants.{MARK, ROW_BYTES}
use Rattle.book_journal.specs.declared.journal.Journal.{Journal}
use Rattle.book_journal.proofs.ByteWrites.{overwritten_size}
use Rattle.book_journal.specs.Rows.{Recovers, SnapshotAgrees}
use Rattle.book_journal.specs.Appending.{cleared}
use Rattle.book_journal.specs.Marking.{with_snapshot, kept_disk, HoldsSnapshot}
use Rattle.book_journal.proofs.Calls.{synced_has, markable}
use Rattle.book_journal.proofs.Signs.{laid_agrees, laid_holds}
use Rattle.book_journal.proofs.Journals.{image_keeps, none_hangs, not_hangs, told_as, tells_on}
use Rattle.book_journal.proofs.Moments.{goes_on, leaves_in, leaves_on}
use Rattle.book_journal.proofs.journal.Journal.keep.Goals as goal

-- the mark was cleared, or it wasn't
pub returns-in_err-unmark-clause-keeps : goal.returns-in_err-unmark-clause-keeps
returns-in_err-unmark-clause-keeps g c rows has of_rows =
    let old = c.args.self.now in
    let kept = c.unmark.ensures.keeps rows has in
    record {
      has = kept.has;
      moments = leaves_in g.D.Disk old.disk c.unmark.new.self.disk _
          (λ f. Recovers f rows) kept.moments
          (λ f left. none_hangs g.D.Disk g.met.D.Disk.reads_image g.met.D.Disk.only_now old rows f
          (not_hangs old.hanging c.requires.calm) left);
    }

pub returns-in_err-size-clause-keeps : goal.returns-in_err-size-clause-keeps
returns-in_err-size-clause-keeps g c rows has of_rows =
    let old = c.args.self.now in
    let mid = c.unmark.new.self in
    let calm = not_hangs old.hanging c.requires.calm in
    let quiet = c.unmark.ensures.hanging ∙ calm in
    let kept = c.unmark.ensures.keeps rows has in
    record {
      has = synced_has g.D.Disk mid c.len.new.self rows c.len.ensures.reads c.len.ensures.images
          kept.has;
      moments = goes_on g.D.Disk old.disk mid.disk c.len.new.self (λ f. Recovers f rows)
          (g.D.Disk.image c.len.new.self)
          (leaves_in g.D.Disk old.disk mid.disk _ (λ f. Recovers f rows) kept.moments
          (λ f left. none_hangs g.D.Disk g.met.D.Disk.reads_image g.met.D.Disk.only_now old rows
          f calm left))
          c.len.ensures.time
          (λ f is. none_hangs g.D.Disk g.met.D.Disk.reads_image g.met.D.Disk.only_now mid rows f
          quiet (image_keeps g.D.Disk g.met.D.Disk.reads_image g.met.D.Disk.only_now mid rows
          kept.has f (c.len.ensures.images f is)));
    }

pub returns-then-size-snapshot_end-clause-keeps : goal.returns-then-size-snapshot_end-clause-keeps
returns-then-size-snapshot_end-clause-keeps g c rows has of_rows =
    let old = c.args.self.now in
    let mid = c.unmark.new.self in
    let calm = not_hangs old.hanging c.requires.calm in
    let quiet = c.unmark.ensures.hanging ∙ calm in
    let kept = c.unmark.ensures.keeps rows has in
    record {
      has = synced_has g.D.Disk mid c.len.new.self rows c.len.ensures.reads c.len.ensures.images
          kept.has;
      moments = goes_on g.D.Disk old.disk mid.disk c.len.new.self (λ f. Recovers f rows)
          (g.D.Disk.image c.len.new.self)
          (leaves_in g.D.Disk old.disk mid.disk _ (λ f. Recovers f rows) kept.moments
          (λ f left. none_hangs g.D.Disk g.met.D.Disk.reads_image g.met.D.Disk.only_now old rows
          f calm left))
          c.len.ensures.time
          (λ f is. none_hangs g.D.Disk g.met.D.Disk.reads_image g.met.D.Disk.only_now mid rows f
          quiet (image_keeps g.D.Disk g.met.D.Disk.reads_image g.met.D.Disk.only_now mid rows
          kept.has f (c.len.ensures.images f is)));
    }

-- the snapshot couldn't be laid
pub returns-in_err-lay-clause-keeps : goal.returns-in_err-lay-clause-keeps
returns-in_err-lay-clause-keeps g c rows has of_rows =
    let old = c.args.self.now in
    let mid = c.unmark.new.self in
    let calm = not_hangs old.hanging c.requires.calm in
    let quiet = c.unmark.ensures.hanging ∙ calm in
    let kept = c.unmark.ensures.keeps rows has in
    let there = synced_has g.D.Disk mid c.len.new.self rows c.len.ensures.reads c.len.ensures.images
    kept.has in
    let so_far = goes_on g.D.Disk old.disk mid.disk c.len.new.self (λ f. Recovers f rows)
    (g.D.Disk.image c.len.new.self)
    (leaves_in g.D.Disk old.disk mid.disk _ (λ f. Recovers f rows) kept.moments
    (λ f left. none_hangs g.D.Disk g.met.D.Disk.reads_image g.met.D.Disk.only_now old rows f
    calm left))
    c.len.ensures.time
    (λ f is. none_hangs g.D.Disk g.met.D.Disk.reads_image g.met.D.Disk.only_now mid rows f quiet
    (image_keeps g.D.Disk g.met.D.Disk.reads_image g.met.D.Disk.only_now mid rows kept.has f
    (c.len.ensures.images f is))) in
    let laid = c.lay.ensures.keeps rows there in
    record {
      has = laid.has;
      moments =
          leaves_on g.D.Disk old.disk c.len.new.self c.lay.new.self.disk
          (λ f. Recovers f rows) so_far laid.moments;
    }

-- the end of a snapshot under equal numbers
size_same : (count n m : ℕ) → n ≡ m → snapshot_end count n ≡ snapshot_end count m
size_same count n m same = ap (λ (k : ℕ). snapshot_end count k) same

count_same : (n m size : ℕ) → n ≡ m → snapshot_end n size ≡ snapshot_end m size
count_same n m size same = ap (λ (k : ℕ). snapshot_end k size) same

-- the mark couldn't be set
pub returns-in_err-mark-clause-keeps : goal.returns-in_err-mark-clause-keeps
returns-in_err-mark-clause-keeps g c rows has of_rows =
    let old = c.args.self.now in
    let mid = c.unmark.new.self in
    let bytes = c.as_slice-2.result.now in
    let calm = not_hangs old.hanging c.requires.calm in
    let quiet = c.unmark.ensures.hanging ∙ calm in
    let kept = c.unmark.ensures.keeps rows has in
    let b = kept.has.bytes in
    let there = synced_has g.D.Disk mid c.len.new.self rows c.len.ensures.reads c.len.ensures.images
    kept.has in
    let so_far = goes_on g.D.Disk old.disk mid.disk c.len.new.self (λ f. Recovers f rows)
    (g.D.Disk.image c.len.new.self)
    (leaves_in g.D.Disk old.disk mid.disk _ (λ f. Recovers f rows) kept.moments
    (λ f left. none_hangs g.D.Disk g.met.D.Disk.reads_image g.met.D.Disk.only_now old rows f
    calm left))
    c.len.ensures.time
    (λ f is. none_hangs g.D.Disk g.met.D.Disk.reads_image g.met.D.Disk.only_now mid rows f quiet
    (image_keeps g.D.Disk g.met.D.Disk.reads_image g.met.D.Disk.only_now mid rows kept.has f
    (c.len.ensures.images f is))) in
    let laid = c.lay.ensures.keeps rows there in
    let same = ap length c.as_slice-2.ensures in
    let size_is : IsSnapshotSize mid.count (length bytes) =
    record {
      some_rows = omega (arith, c.requires.some_rows, c.unmark.ensures.count);
      few_rows =
          c.unmark.ensures.sound.few;
      some_bytes = omega (arith, c.requires.some_bytes, same);
      few_bytes = omega (arith, c.requires.few_bytes, same);
    } in
    let short : length b ≤ snapshot_end mid.count (length bytes) =
    omega (
      arith,
      c.in_ok-size.ensures.length b kept.has.told,
      c.if-size-snapshot_end.false,
      c.snapshot_end.ensures,
      ap length c.as_slice.ensures,
      same,
      size_same mid.count (length c.as_slice.result.now) (length bytes)
          (ap length c.as_slice.ensures ∙ sym same),
    ) in
    let is = c.in_ok-lay.ensures.laid b (c.len.ensures.reads ∙ kept.has.told) short in
    let as_laid : with_snapshot mid.count bytes b ≡ laid.has.bytes = cc (is.0, laid.has.told) in
    let long = (c.unmark.ensures.sound.gate b kept.has.told).long in
    let counts : length rows ≡ mid.count = ap length (sym kept.has.are) ∙ kept.has.stands.rows in
    let agrees = laid_agrees mid.count bytes b size_is long rows counts
    (c.as_slice-2.ensures ∙ of_rows) in
    let ready = markable g.D.Disk c.lay.new.self rows laid.has
    (ap (λ j. j.hanging) c.lay.ensures.same ∙ quiet)
    (ap (λ j. j.marked) c.lay.ensures.same ∙ c.in_ok-unmark.ensures.unmarked)
    (subst (λ (l : List ℕ). Only l (g.D.Disk.image c.lay.new.self.disk)) as_laid is.1)
    (subst (λ (l : List ℕ). SnapshotAgrees rows l) as_laid agrees) in
    let marked = (c.mark.ensures.marks rows ready).0 in
    record {
      has = marked.has;
      moments = leaves_on g.D.Disk old.disk c.len.new.self c.mark.new.self.disk
          (λ f. Recovers f rows) so_far
          (leaves_on g.D.Disk c.len.new.self c.lay.new.self.disk c.mark.new.self.disk
          (λ f. Recovers f rows) laid.moments
          (leaves_in g.D.Disk c.lay.new.self.disk c.mark.new.self.disk _
          (λ f. Recovers f rows) marked.moments
          (λ f left. none_hangs g.D.Disk g.met.D.Disk.reads_image g.met.D.Disk.only_now
          (record c.lay.new.self { marked = true }) rows f
          (ap (λ j. j.hanging) c.lay.ensures.same ∙ quiet) left)));
    }

-- the snapshot was kept
pub returns-clause-keeps : goal.returns-clause-keeps
returns-clause-keeps g c rows has of_rows =
    let old = c.args.self.now in
    let mid = c.unmark.new.self in
    let bytes = c.as_slice-2.result.now in
    let calm = not_hangs old.hanging c.requires.calm in
    let quiet = c.unmark.ensures.hanging ∙ calm in
    let kept = c.unmark.ensures.keeps rows has in
    let b = kept.has.bytes in
    let there = synced_has g.D.Disk mid c.len.new.self rows c.len.ensures.reads c.len.ensures.images
    kept.has in
    let so_far = goes_on g.D.Disk old.disk mid.disk c.len.new.self (λ f. Recovers f rows)
    (g.D.Disk.image c.len.new.self)
    (leaves_in g.D.Disk old.disk mid.disk _ (λ f. Recovers f rows) kept.moments
    (λ f left. none_hangs g.D.Disk g.met.D.Disk.reads_image g.met.D.Disk.only_now old rows f
    calm left))
    c.len.ensures.time
    (λ f is. none_hangs g.D.Disk g.met.D.Disk.reads_image g.met.D.Disk.only_now mid rows f quiet
    (image_keeps g.D.Disk g.met.D.Disk.reads_image g.met.D.Disk.only_now mid rows kept.has f
    (c.len.ensures.images f is))) in
    let laid = c.lay.ensures.keeps rows there in
    let same = ap length c.as_slice-2.ensures in
    let size_is : IsSnapshotSize mid.count (length bytes) =
    record {
      some_rows = omega (arith, c.requires.some_rows, c.unmark.ensures.count);
      few_rows =
          c.unmark.ensures.sound.few;
      some_bytes = omega (arith, c.requires.some_bytes, same);
      few_bytes = omega (arith, c.requires.few_bytes, same);
    } in
    let short : length b ≤ snapshot_end mid.count (length bytes) =
    omega (
      arith,
      c.in_ok-size.ensures.length b kept.has.told,
      c.if-size-snapshot_end.false,
      c.snapshot_end.ensures,
      ap length c.as_slice.ensures,
      same,
      size_same mid.count (length c.as_slice.result.now) (length bytes)
          (ap length c.as_slice.ensures ∙ sym same),
    ) in
    let is = c.in_ok-lay.ensures.laid b (c.len.ensures.reads ∙ kept.has.told) short in
    let as_laid : with_snapshot mid.count bytes b ≡ laid.has.bytes = cc (is.0, laid.has.told) in
    let long = (c.unmark.ensures.sound.gate b kept.has.told).long in
    let counts : length rows ≡ mid.count = ap length (sym kept.has.are) ∙ kept.has.stands.rows in
    let agrees = laid_agrees mid.count bytes b size_is long rows counts
    (c.as_slice-2.ensures ∙ of_rows) in
    let ready = markable g.D.Disk c.lay.new.self rows laid.has
    (ap (λ j. j.hanging) c.lay.ensures.same ∙ quiet)
    (ap (λ j. j.marked) c.lay.ensures.same ∙ c.in_ok-unmark.ensures.unmarked)
    (subst (λ (l : List ℕ). Only l (g.D.Disk.image c.lay.new.self.disk)) as_laid is.1)
    (subst (λ (l : List ℕ). SnapshotAgrees rows l) as_laid agrees) in
    let marked = (c.mark.ensures.marks rows ready).0 in
    record {
      has = marked.has;
      moments = leaves_on g.D.Disk old.disk c.len.new.self c.mark.new.self.disk
          (λ f. Recovers f rows) so_far
          (leaves_on g.D.Disk c.len.new.self c.lay.new.self.disk c.mark.new.self.disk
          (λ f. Recovers f rows) laid.moments
          (leaves_in g.D.Disk c.lay.new.self.disk c.mark.new.self.disk _
          (λ f. Recovers f rows) marked.moments
          (λ f left. none_hangs g.D.Disk g.met.D.Disk.reads_image g.met.D.Disk.only_now
          (record c.lay.new.self { marked = true }) rows f
          (ap (λ j. j.hanging) c.lay.ensures.same ∙ quiet) left)));
    }

-- no longer than the end: the snapshot is laid
kept_here : {D : Type 0} (journal : Journal D) (content b : List ℕ)
    → length b ≤ snapshot_end journal.count (length content)
    → overwritten (with_snapshot journal.count content (cleared journal.marked b)) MARK
    (MARKED ∷ []) ≡ kept_disk journal content b
kept_here journal content b short = at (snapshot_end journal.count (length content)) (length b) short
  where
    at : (end size : ℕ) → size ≤ end
        → overwritten (with_snapshot journal.count content (cleared journal.marked b)) MARK
        (MARKED ∷ []) ≡ (if nat_lt end size then cleared journal.marked b else overwritten
        (with_snapshot journal.count content (cleared journal.marked b)) MARK (MARKED ∷ []))
    at end size le =
        sym (otherwise (nat_lt end size) (cleared journal.marked b)
        (overwritten (with_snapshot journal.count content (cleared journal.marked b)) MARK
        (MARKED ∷ [])) (not_lt end size le))
      where
        not_lt : (m n : ℕ) → n ≤ m → nat_lt m n ≡ false
        not_lt m n le = grind (arith, nat_tests)

        otherwise : (test : Bool) (x y : List ℕ) → test ≡ false → (if test then x else y) ≡ y
        otherwise false x y is = refl
        otherwise true x y is = absurd cc

-- clearing the mark leaves the length
cleared_size : (marked : Bool) (b : List ℕ) → ROW_BYTES ≤ length b → length (cleared marked b) ≡ length b
cleared_size false b long = refl
cleared_size true b long = omega
    (arith, long, overwritten_size b MARK (CLOSED ∷ []) (omega (arith, long)))

pub returns-clause-written : goal.returns-clause-written
returns-clause-written g c b told =
    let old = c.args.self.now in
    let mid = c.unmark.new.self in
    let bytes = c.as_slice-2.result.now in
    let clear = cleared old.marked b in
    let told_clear = c.in_ok-unmark.ensures.written b told in
    let same = ap length c.as_slice-2.ensures in
    let header = (c.requires.sound.gate b told).header in
    let size = cleared_size old.marked b header.long in
    let short : length clear ≤ snapshot_end mid.count (length bytes) =
    omega (
      arith,
      c.in_ok-size.ensures.length clear told_clear,
      c.if-size-snapshot_end.false,
      c.snapshot_end.ensures,
      size_same mid.count (length c.as_slice.result.now) (length bytes)
          (ap length c.as_slice.ensures ∙ sym same),
    ) in
    let is = c.in_ok-lay.ensures.laid clear (c.len.ensures.reads ∙ told_clear) short in
    c.in_ok-mark.ensures.written (with_snapshot mid.count bytes clear) is.0
    ∙ ap (λ (l : List ℕ). Some l)
    (ap (λ (n : ℕ). overwritten (with_snapshot n bytes clear) MARK (MARKED ∷ [])) c.unmark.ensures.count
    ∙ ap (λ (l : List ℕ). overwritten (with_snapshot old.count l clear) MARK (MARKED ∷ []))
    c.as_slice-2.ensures
    ∙ kept_here old c.args.content.now b
    (omega (
      arith,
      short,
      size,
      c.unmark.ensures.count,
      size_same mid.count (length bytes) (length c.args.content.now) same,
      count_same mid.count old.count (length c.args.content.now) c.unmark.ensures.count,
    )))

pub returns-clause-fits : goal.returns-clause-fits
returns-clause-fits g c b told small now told_now =
    let old = c.args.self.now in
    let mid = c.unmark.new.self in
    let bytes = c.as_slice-2.result.now in
    let clear = cleared old.marked b in
    let told_clear = c.in_ok-unmark.ensures.written b told in
    let same = ap length c.as_slice-2.ensures in
    let short : length clear ≤ snapshot_end mid.count (length bytes) =
    omega (
      arith,
      c.in_ok-size.ensures.length clear told_clear,
      c.if-size-snapshot_end.false,
      c.snapshot_end.ensures,
      size_same mid.count (length c.as_slice.result.now) (length bytes)
          (ap length c.as_slice.ensures ∙ sym same),
    ) in
    let is = c.in_ok-lay.ensures.laid clear (c.len.ensures.reads ∙ told_clear) short in
    let gate = c.unmark.ensures.sound.gate clear told_clear in
    let size_is : IsSnapshotSize mid.count (length bytes) =
    record {
      some_rows = omega (arith, c.requires.some_rows, c.unmark.ensures.count);
      few_rows =
          c.unmark.ensures.sound.few;
      some_bytes = omega (arith, c.requires.some_bytes, same);
      few_bytes = omega (arith, c.requires.few_bytes, same);
    } in
    let holds = laid_holds mid.count bytes clear size_is gate.header gate.long in
    let at_end =
    subst (λ (n : ℕ). HoldsSnapshot n bytes
    (overwritten (with_snapshot mid.count bytes clear) MARK (MARKED ∷ [])))
    c.unmark.ensures.count holds in
    let of_content =
    subst (λ (l : List ℕ). HoldsSnapshot old.count l
    (overwritten (with_snapshot mid.count bytes clear) MARK (MARKED ∷ []))) c.as_slice-2.ensures
    at_end in
    told_as _ (overwritten (with_snapshot mid.count bytes clear) MARK (MARKED ∷ []))
    (HoldsSnapshot old.count c.args.content.now)
    (c.in_ok-mark.ensures.written (with_snapshot mid.count bytes clear) is.0) of_content now
    told_now

-- a disk that was longer stays so
pub returns-then-size-snapshot_end-clause-holds : goal.returns-then-size-snapshot_end-clause-holds
returns-then-size-snapshot_end-clause-holds g c now told_now short =
    let old = c.args.self.now in
    let mid = c.unmark.new.self in
    let content = c.args.content.now in
    absurd (omega (
      arith,
      short,
      c.if-size-snapshot_end.true,
      c.in_ok-size.ensures.length now (sym c.len.ensures.reads ∙ told_now),
      c.snapshot_end.ensures,
      c.unmark.ensures.count,
      size_same mid.count (length c.as_slice.result.now) (length content) (ap length c.as_slice.ensures),
      count_same mid.count old.count (length content) c.unmark.ensures.count,
    ))

-- what a device tells was told before
told_before : (before told : Option (List ℕ)) (now : List ℕ) → TellsAsBefore before told
    → told ≡ Some now → (bytes : List ℕ) × (before ≡ Some bytes)
told_before (Some bytes) told now tells is = (bytes, refl)
told_before None told now tells is =
    absurd (let clash : true ≡ false = sym (ap is_some is) ∙ tells in cc)

-- and on another the snapshot was laid
pub returns-clause-holds : goal.returns-clause-holds
returns-clause-holds g c now told_now short =
    let old = c.args.self.now in
    let mid = c.unmark.new.self in
    let bytes = c.as_slice-2.result.now in
    let content = c.args.content.now in
    let laid = tells_on (g.D.Disk.reads c.len.new.self) (g.D.Disk.reads c.lay.new.self.disk)
    (g.D.Disk.reads c.mark.new.self.disk) c.lay.ensures.tells c.mark.ensures.tells in
    let looked = ap is_some c.len.ensures.reads in
    let first = told_before (g.D.Disk.reads old.disk) (g.D.Disk.reads c.mark.new.self.disk) now
    (laid ∙ looked ∙ c.unmark.ensures.tells) told_now in
    let b = first.0 in
    let told = first.1 in
    let header = (c.requires.sound.gate b told).header in
    let size = cleared_size old.marked b header.long in
    let clear = cleared old.marked b in
    let told_clear = c.in_ok-unmark.ensures.written b told in
    let same = ap length c.as_slice-2.ensures in
    let small : length clear ≤ snapshot_end mid.count (length bytes) =
    omega (
      arith,
      c.in_ok-size.ensures.length clear told_clear,
      c.if-size-snapshot_end.false,
      c.snapshot_end.ensures,
      size_same mid.count (length c.as_slice.result.now) (length bytes)
          (ap length c.as_slice.ensures ∙ sym same),
    ) in
    returns-clause-fits g c b told
    (omega (
      arith,
      small,
      size,
      c.unmark.ensures.count,
      size_same mid.count (length bytes) (length content) same,
      count_same mid.count old.count (length content) c.unmark.ensures.count,
    )) now told_now
