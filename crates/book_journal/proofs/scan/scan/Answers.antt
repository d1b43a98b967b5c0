use Rattle.std.proofs.Common.{◌≡◌, ◌∙◌, ◌-◌, ◌⊎◌, inl, inr, ℕ, List, length, drop, ap, sym, subst, arith, false, not, ◌==◌}
use Rattle.book_journal.specs.declared.layout.TheConstants.{MAX_SLOTS}
use Rattle.book_journal.specs.Rows.{Recovers, open_rows, starts_open, gate_behind}
use Rattle.book_journal.specs.Mounting.{rows_before}
use Rattle.book_journal.specs.Closing.{IsFull}
use Rattle.book_journal.proofs.AskedBytes.{asks_scanning}
use Rattle.book_journal.proofs.Results.{err_at}
use Rattle.book_journal.proofs.EndGates.{still_recovers, still_behind}
use Rattle.book_journal.proofs.OpenEnds.{journal_of, first_within, counted_within, slots_counted, rows_are_counted}
use Rattle.book_journal.proofs.Moments.{leaves_on, unmoved_leaves, unmoved_on}
use Rattle.book_journal.proofs.scan.scan.Goals as goal

-- the slots that were counted, from the first that the snapshot doesn't hold
all_from : (first first' count : ℕ) (b : List ℕ) → first ≡ first'
    → length (open_rows (count - first) (drop (gate_behind first) b)) ≡ count - first
    → length (open_rows (count - first') (drop (gate_behind first') b)) ≡ count - first'
all_from first first' count b same all =
    subst (λ (n : ℕ). length (open_rows (count - n) (drop (gate_behind n) b)) ≡ count - n) same all

full_or_closed : (count : ℕ) (b : List ℕ) → (count ≡ MAX_SLOTS)
    ⊎ (starts_open (drop (gate_behind count) b) ≡ false) → IsFull count
    ⊎ (starts_open (drop (gate_behind count) b) ≡ false)
full_or_closed count b (inl full) = inl (omega (arith, full))
full_or_closed count b (inr closed) = inr closed

pub close_behind-requires-clause-ends : goal.close_behind-requires-clause-ends
close_behind-requires-clause-ends g c b told_mid =
    let kept = c.in_ok-kept.kept in
    let count = c.in_ok-count.count in
    let u = unmoved_on g.D.Disk _ _ _ c.find_snapshot.ensures.unmoved c.count_rows.ensures.unmoved in
    let told = sym u.reads ∙ told_mid in
    let told_first = c.find_snapshot.ensures.unmoved.reads ∙ told in
    let front = c.requires b told in
    let of = c.in_ok-kept.ensures.found b told front.size_is front.header front.mark_is in
    let first = c.rows_before-first.ensures in
    let all = all_from c.rows_before-first.result (rows_before kept) count b first
    (c.in_ok-count.ensures.all b told_first front.size_is) in
    record {
      size_is = front.size_is;
      header = front.header;
      within = counted_within (rows_before kept) count b
          (omega (arith, c.in_ok-count.ensures.least, first))
          (first_within b kept front.header of) all;
      end = full_or_closed count b (c.in_ok-count.ensures.end b told_first front.size_is);
    }

pub returns-in_err-close_behind-clause-moments : goal.returns-in_err-close_behind-clause-moments
returns-in_err-close_behind-clause-moments g c b told only rows recovers few =
    let kept = c.in_ok-kept.kept in
    let count = c.in_ok-count.count in
    let old = c.args.disk.now in
    let mid = c.count_rows.new.disk in
    let u = unmoved_on g.D.Disk old c.find_snapshot.new.disk mid c.find_snapshot.ensures.unmoved
    c.count_rows.ensures.unmoved in
    let told_first = c.find_snapshot.ensures.unmoved.reads ∙ told in
    let front = c.requires b told in
    let of = c.in_ok-kept.ensures.found b told front.size_is front.header front.mark_is in
    let first = c.rows_before-first.ensures in
    let all = all_from c.rows_before-first.result (rows_before kept) count b first
    (c.in_ok-count.ensures.all b told_first front.size_is) in
    let slots = slots_counted (rows_before kept) count b
    (omega (arith, c.in_ok-count.ensures.least, first)) c.in_ok-count.ensures.most all
    (c.in_ok-count.ensures.end b told_first front.size_is) in
    leaves_on g.D.Disk old mid c.close_behind.new.disk (λ f. Recovers f rows)
    (unmoved_leaves g.D.Disk old mid (λ f. Recovers f rows) g.met.D.Disk.only_now u
    (still_recovers g.D.Disk old b rows only recovers))
    (c.close_behind.ensures.moments b (u.reads ∙ told)
    (λ f is. only f (u.images f is)) rows recovers
    (rows_are_counted b rows kept count (journal_of b rows front.header recovers) of few slots))

pub returns-clause-finds : goal.returns-clause-finds
returns-clause-finds g c b told only =
    let kept = c.in_ok-kept.kept in
    let count = c.in_ok-count.count in
    let old = c.args.disk.now in
    let mid = c.count_rows.new.disk in
    let u = unmoved_on g.D.Disk old c.find_snapshot.new.disk mid c.find_snapshot.ensures.unmoved
    c.count_rows.ensures.unmoved in
    let told_first = c.find_snapshot.ensures.unmoved.reads ∙ told in
    let front = c.requires b told in
    let of = c.in_ok-kept.ensures.found b told front.size_is front.header front.mark_is in
    let first = c.rows_before-first.ensures in
    let all = all_from c.rows_before-first.result (rows_before kept) count b first
    (c.in_ok-count.ensures.all b told_first front.size_is) in
    let closed = c.in_ok-close_behind.ensures.reads b (u.reads ∙ told)
    (λ f is. only f (u.images f is)) in
    let slots = slots_counted (rows_before kept) count b
    (omega (arith, c.in_ok-count.ensures.least, first)) c.in_ok-count.ensures.most all
    (c.in_ok-count.ensures.end b told_first front.size_is) in
    record {
      header = front.header;
      snapshot = of;
      slots = slots;
      mark = ap (λ (n : ℕ). not (n == 0)) front.mark_is;
      reads = closed.0;
      only = closed.1;
      still = λ found is. still_behind b kept found count of slots is;
    }

pub returns-clause-moments : goal.returns-clause-moments
returns-clause-moments g c b told only rows recovers few =
    let kept = c.in_ok-kept.kept in
    let count = c.in_ok-count.count in
    let old = c.args.disk.now in
    let mid = c.count_rows.new.disk in
    let u = unmoved_on g.D.Disk old c.find_snapshot.new.disk mid c.find_snapshot.ensures.unmoved
    c.count_rows.ensures.unmoved in
    let told_first = c.find_snapshot.ensures.unmoved.reads ∙ told in
    let front = c.requires b told in
    let of = c.in_ok-kept.ensures.found b told front.size_is front.header front.mark_is in
    let first = c.rows_before-first.ensures in
    let all = all_from c.rows_before-first.result (rows_before kept) count b first
    (c.in_ok-count.ensures.all b told_first front.size_is) in
    let slots = slots_counted (rows_before kept) count b
    (omega (arith, c.in_ok-count.ensures.least, first)) c.in_ok-count.ensures.most all
    (c.in_ok-count.ensures.end b told_first front.size_is) in
    leaves_on g.D.Disk old mid c.close_behind.new.disk (λ f. Recovers f rows)
    (unmoved_leaves g.D.Disk old mid (λ f. Recovers f rows) g.met.D.Disk.only_now u
    (still_recovers g.D.Disk old b rows only recovers))
    (c.close_behind.ensures.moments b (u.reads ∙ told)
    (λ f is. only f (u.images f is)) rows recovers
    (rows_are_counted b rows kept count (journal_of b rows front.header recovers) of few slots))

pub returns-in_err-count-clause-asked_failed : goal.returns-in_err-count-clause-asked_failed
returns-in_err-count-clause-asked_failed g c b told =
    let front = c.requires b told in
    let told_first = c.find_snapshot.ensures.unmoved.reads ∙ told in
    let of = c.in_ok-kept.ensures.found b told front.size_is front.header front.mark_is in
    let most = c.count_rows.ensures.asked_most b told_first front.size_is in
    err_at c.from_residual-in_err-count.result _
    (asks_scanning b c.in_ok-kept.kept c.rows_before-first.result c.piece_slots.result
    (g.D.Disk.asked c.args.disk.now) (g.D.Disk.asked c.count_rows.new.disk) of
    c.rows_before-first.ensures c.piece_slots.ensures
    (omega (arith, c.find_snapshot.ensures.asked, most)))

pub returns-in_err-close_behind-clause-asked_failed : goal.returns-in_err-close_behind-clause-asked_failed
returns-in_err-close_behind-clause-asked_failed g c b told =
    let front = c.requires b told in
    let told_first = c.find_snapshot.ensures.unmoved.reads ∙ told in
    let of = c.in_ok-kept.ensures.found b told front.size_is front.header front.mark_is in
    let most = c.count_rows.ensures.asked_most b told_first front.size_is in
    err_at c.from_residual-in_err-close_behind.result _
    (asks_scanning b c.in_ok-kept.kept c.rows_before-first.result c.piece_slots.result
    (g.D.Disk.asked c.args.disk.now) (g.D.Disk.asked c.close_behind.new.disk) of
    c.rows_before-first.ensures c.piece_slots.ensures
    (omega (arith, c.find_snapshot.ensures.asked, most, c.close_behind.ensures.asked)))
