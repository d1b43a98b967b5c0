use Rattle.std.proofs.Common.{◌∙◌, ◌≤◌, inr, ℕ, List, length, refl, sym, subst, arith}
use Rattle.book_snapshot.specs.declared.layout.TheConstants.{MARK, ROW_BYTES}
use Rattle.book_journal.specs.declared.layout.TheConstants.{NEW_BYTES}
use Rattle.book_journal.specs.Rows.{Recovers}
use Rattle.book_journal.proofs.EndGates.{still_recovers}
use Rattle.book_journal.proofs.Fronts.{front_read, header_read, difference_read, no_header}
use Rattle.book_journal.proofs.OpenEnds.{short_none}
use Rattle.book_journal.proofs.Moments.{leaves_on, leaves_in, unmoved_by, unmoved_on, unmoved_leaves}
use Rattle.book_journal.proofs.mount.open.Goals as goal

pub scan-requires : goal.scan-requires
scan-requires g c b told_mid =
    let told_len = sym c.read_at.ensures.reads ∙ told_mid in
    let told = sym c.len.ensures.reads ∙ told_len in
    let size = c.in_ok-size.ensures.length b told in
    let long : ROW_BYTES ≤ length b = omega (arith, size, c.if-size.false) in
    let same = front_read b c.read_at.new.into c.in_ok-read_at.field-0 c.read_at.auto.into long
    (c.in_ok-read_at.ensures.count b told_len) (c.in_ok-read_at.ensures.bytes b told_len) in
    record {
      size_is = size;
      header = header_read b c.read_at.new.into long same c.in_default.ensures;
      mark_is = same MARK (omega arith);
    }

pub returns-in_err-found-clause-moments : goal.returns-in_err-found-clause-moments
returns-in_err-found-clause-moments g c b told only rows recovers few =
    let old = c.args.disk.now in
    let first = c.len.new.self in
    let mid = c.read_at.new.self in
    let u = unmoved_on g.D.Disk old first mid
    (unmoved_by g.D.Disk old first c.len.ensures.reads c.len.ensures.images c.len.ensures.time)
    (unmoved_by g.D.Disk first mid c.read_at.ensures.reads c.read_at.ensures.images
    c.read_at.ensures.time) in
    leaves_on g.D.Disk old mid c.scan.new.disk (λ f. Recovers f rows)
    (unmoved_leaves g.D.Disk old mid (λ f. Recovers f rows) g.met.D.Disk.only_now u
    (still_recovers g.D.Disk old b rows only recovers))
    (c.scan.ensures.moments b (u.reads ∙ told) (λ f is. only f (u.images f is)) rows recovers few)

pub returns-in_default-clause-moments : goal.returns-in_default-clause-moments
returns-in_default-clause-moments g c b told only rows recovers few =
    let old = c.args.disk.now in
    let first = c.len.new.self in
    let mid = c.read_at.new.self in
    let u = unmoved_on g.D.Disk old first mid
    (unmoved_by g.D.Disk old first c.len.ensures.reads c.len.ensures.images c.len.ensures.time)
    (unmoved_by g.D.Disk first mid c.read_at.ensures.reads c.read_at.ensures.images
    c.read_at.ensures.time) in
    leaves_on g.D.Disk old mid c.scan.new.disk (λ f. Recovers f rows)
    (unmoved_leaves g.D.Disk old mid (λ f. Recovers f rows) g.met.D.Disk.only_now u
    (still_recovers g.D.Disk old b rows only recovers))
    (c.scan.ensures.moments b (u.reads ∙ told) (λ f is. only f (u.images f is)) rows recovers few)

pub returns-then-size-2-clause-cause : goal.returns-then-size-2-clause-cause
returns-then-size-2-clause-cause g c =
    let old = c.args.disk.now in
    let first = c.len.new.self in
    let mid = c.read_at.new.self in
    record {
      named = λ b told.
          let told_len = c.len.ensures.reads ∙ told in
          let size = c.in_ok-size.ensures.length b told in
          let long : ROW_BYTES ≤ length b = omega (arith, size, c.if-size.false) in
          let same = front_read b c.read_at.new.into c.in_ok-read_at.field-0 c.read_at.auto.into
          long (c.in_ok-read_at.ensures.count b told_len)
          (c.in_ok-read_at.ensures.bytes b told_len) in (
            omega (arith, size, c.if-size-2.true),
            difference_read b c.read_at.new.into c.in-Some.place same c.in-Some.ensures,
          );
      unmoved = unmoved_on g.D.Disk old first mid
          (unmoved_by g.D.Disk old first c.len.ensures.reads c.len.ensures.images
          c.len.ensures.time) (unmoved_by g.D.Disk first mid c.read_at.ensures.reads
          c.read_at.ensures.images c.read_at.ensures.time);
      calm = c.in_ok-read_at.ensures.cause ∙ c.in_ok-size.ensures.cause;
      asked = omega (arith, c.len.ensures.asked, c.read_at.ensures.asked_most, c.read_at.auto.into);
    }

pub returns-in_err-create-2-clause-moments : goal.returns-in_err-create-2-clause-moments
returns-in_err-create-2-clause-moments g c b told only rows recovers few =
    let old = c.args.disk.now in
    let first = c.len.new.self in
    let mid = c.read_at.new.self in
    let u = unmoved_on g.D.Disk old first mid
    (unmoved_by g.D.Disk old first c.len.ensures.reads c.len.ensures.images c.len.ensures.time)
    (unmoved_by g.D.Disk first mid c.read_at.ensures.reads c.read_at.ensures.images
    c.read_at.ensures.time) in
    let short : length b ≤ NEW_BYTES =
    omega (arith, c.in_ok-size.ensures.length b told, c.if-size-2.false) in
    let none = short_none b rows short recovers in
    leaves_on g.D.Disk old mid c.create-2.new.disk (λ f. Recovers f rows)
    (unmoved_leaves g.D.Disk old mid (λ f. Recovers f rows) g.met.D.Disk.only_now u
    (still_recovers g.D.Disk old b rows only recovers))
    (leaves_in g.D.Disk mid c.create-2.new.disk _ (λ f. Recovers f rows)
    (c.create-2.ensures.moments b (u.reads ∙ told) (λ f is. only f (u.images f is)) short)
    (λ f is. subst (λ (rs : List (List ℕ)). Recovers f rs) (sym none) is))

pub returns-clause-moments : goal.returns-clause-moments
returns-clause-moments g c b told only rows recovers few =
    let old = c.args.disk.now in
    let first = c.len.new.self in
    let mid = c.read_at.new.self in
    let u = unmoved_on g.D.Disk old first mid
    (unmoved_by g.D.Disk old first c.len.ensures.reads c.len.ensures.images c.len.ensures.time)
    (unmoved_by g.D.Disk first mid c.read_at.ensures.reads c.read_at.ensures.images
    c.read_at.ensures.time) in
    let short : length b ≤ NEW_BYTES =
    omega (arith, c.in_ok-size.ensures.length b told, c.if-size-2.false) in
    let none = short_none b rows short recovers in
    leaves_on g.D.Disk old mid c.create-2.new.disk (λ f. Recovers f rows)
    (unmoved_leaves g.D.Disk old mid (λ f. Recovers f rows) g.met.D.Disk.only_now u
    (still_recovers g.D.Disk old b rows only recovers))
    (leaves_in g.D.Disk mid c.create-2.new.disk _ (λ f. Recovers f rows)
    (c.create-2.ensures.moments b (u.reads ∙ told) (λ f is. only f (u.images f is)) short)
    (λ f is. subst (λ (rs : List (List ℕ)). Recovers f rs) (sym none) is))

pub returns-clause-mounted : goal.returns-clause-mounted
returns-clause-mounted g c b told only =
    let told_len = c.len.ensures.reads ∙ told in
    let told_mid = c.read_at.ensures.reads ∙ told_len in
    let size = c.in_ok-size.ensures.length b told in
    let long : ROW_BYTES ≤ length b = omega (arith, size, c.if-size.false) in
    let short : length b ≤ NEW_BYTES = omega (arith, size, c.if-size-2.false) in
    let same = front_read b c.read_at.new.into c.in_ok-read_at.field-0 c.read_at.auto.into long
    (c.in_ok-read_at.ensures.count b told_len) (c.in_ok-read_at.ensures.bytes b told_len) in
    let made = c.in_ok-create-2.ensures.reads b told_mid short in
    inr record {
      foreign = no_header b c.in-Some.place
          (difference_read b c.read_at.new.into c.in-Some.place same c.in-Some.ensures);
      short = short;
      snapshot = refl;
      slots = refl;
      mark = refl;
      reads = made.0;
      only = made.1;
    }
