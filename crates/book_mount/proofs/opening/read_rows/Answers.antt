use Rattle.std.proofs.Common.{◌∙◌, ◌≤◌, sym, subst, List, [], ℕ, Option, length}
use Rattle.std.proofs.lemmas.Result.{err_from_is_err_and}
use Rattle.book_journal.specs.Journal.{count_of, kept_of}
use Rattle.book_journal.specs.Mounting.{rows_before}
use Rattle.book_journal.specs.Rows.{gate_behind}
use Rattle.book_mount.specs.Opening.{HasRead, ReadsOn, rows_there}
use Rattle.book_mount.proofs.Exits.{handed_on, grows_on, read_on, count_kept}
use Rattle.book_mount.proofs.OneMoreRow.{read_start}
use Rattle.book_mount.proofs.Walks.{slots_behind_snapshot}
use Rattle.book_mount.proofs.opening.read_rows.Goals as goal

pub returns-in_err-read_snapshot-clause-reads : goal.returns-in_err-read_snapshot-clause-reads
returns-in_err-read_snapshot-clause-reads g c bytes told there =
    let old = c.args.journal.now in
    let rows = rows_there (kept_of old) (count_of old) bytes in
    let stops = c.in_err-read_snapshot.ensures.reads bytes told there.ends there.counted rows _
    (read_start rows) in
    let p = err_from_is_err_and c.from_residual.result c.from_residual.ensures.1 in
    handed_on (λ r. ReadsOn rows c.read_snapshot.new.book.entries [] r) c.from_residual.result p.0 _
    p.1 p.2 stops

pub returns-in_err-read_slots-clause-reads : goal.returns-in_err-read_slots-clause-reads
returns-in_err-read_slots-clause-reads g c bytes told there =
    let old = c.args.journal.now in
    let mid = c.read_snapshot.new.journal in
    let rows = rows_there (kept_of old) (count_of old) bytes in
    let first = c.in_ok-read_snapshot.ensures.reads bytes told there.ends there.counted rows _
    (read_start rows) in
    let same = count_kept g.D.Disk old mid c.read_snapshot.ensures.read in
    let next = subst (λ (l : List (Option (List ℕ))). HasRead rows c.read_snapshot.new.book.entries l)
    (slots_behind_snapshot (count_of old) (count_of mid) (rows_before (kept_of old))
    (length c.read_snapshot.new.book.entries) bytes same c.in_ok-read_snapshot.ensures.count
    there.counted) first in
    let stops = c.in_err-read_slots.ensures.reads bytes
    (c.read_snapshot.ensures.read.unmoved.reads ∙ told)
    (subst (λ (n : ℕ). gate_behind n ≤ length bytes) (sym same) there.long) rows next in
    let p = err_from_is_err_and c.from_residual-in_err-read_slots.result
    c.from_residual-in_err-read_slots.ensures.1 in
    handed_on (λ r. ReadsOn rows c.read_slots.new.book.entries [] r)
    c.from_residual-in_err-read_slots.result p.0 _ p.1 p.2 stops

pub returns-in_err-read_slots-clause-grows : goal.returns-in_err-read_slots-clause-grows
returns-in_err-read_slots-clause-grows g c =
    grows_on c.args.book.now c.read_snapshot.new.book c.read_slots.new.book
    c.read_snapshot.ensures.grows c.read_slots.ensures.grows

pub returns-in_err-read_slots-clause-read : goal.returns-in_err-read_slots-clause-read
returns-in_err-read_slots-clause-read g c =
    read_on g.D.Disk c.args.journal.now c.read_snapshot.new.journal c.read_slots.new.journal
    c.read_snapshot.ensures.read c.read_slots.ensures.read

pub returns-clause-reads : goal.returns-clause-reads
returns-clause-reads g c bytes told there =
    let old = c.args.journal.now in
    let mid = c.read_snapshot.new.journal in
    let rows = rows_there (kept_of old) (count_of old) bytes in
    let first = c.in_ok-read_snapshot.ensures.reads bytes told there.ends there.counted rows _
    (read_start rows) in
    let same = count_kept g.D.Disk old mid c.read_snapshot.ensures.read in
    let next = subst (λ (l : List (Option (List ℕ))). HasRead rows c.read_snapshot.new.book.entries l)
    (slots_behind_snapshot (count_of old) (count_of mid) (rows_before (kept_of old))
    (length c.read_snapshot.new.book.entries) bytes same c.in_ok-read_snapshot.ensures.count
    there.counted) first in
    c.in_ok-read_slots.ensures.reads bytes (c.read_snapshot.ensures.read.unmoved.reads ∙ told)
    (subst (λ (n : ℕ). gate_behind n ≤ length bytes) (sym same) there.long) rows next

pub returns-clause-grows : goal.returns-clause-grows
returns-clause-grows g c = grows_on c.args.book.now c.read_snapshot.new.book c.read_slots.new.book
    c.read_snapshot.ensures.grows c.read_slots.ensures.grows

pub returns-clause-read : goal.returns-clause-read
returns-clause-read g c = read_on g.D.Disk c.args.journal.now c.read_snapshot.new.journal
    c.read_slots.new.journal c.read_snapshot.ensures.read c.read_slots.ensures.read
