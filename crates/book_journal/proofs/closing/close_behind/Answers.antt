use Rattle.std.proofs.Common.{◌≡◌, ◌∙◌, ℕ, List, [], ◌∷◌, ap, refl, sym, subst, arith, Some, false}
use Rattle.disk_core.specs.Disk.{Only}
use Rattle.book_journal.specs.declared.layout.TheConstants.{CLOSED}
use Rattle.book_journal.specs.Rows.{Recovers, gate_behind}
use Rattle.book_journal.specs.Mounting.{stands_closed, closed_behind}
use Rattle.book_journal.proofs.EndGates.{ending_moments, closed_written, still_recovers}
use Rattle.book_journal.proofs.Moments.{leaves_on, unmoved_leaves}
use Rattle.book_journal.proofs.JournalSteps.{settles_at}
use Rattle.book_journal.proofs.closing.close_behind.Goals as goal

pub returns-in_err-settle-clause-moments : goal.returns-in_err-settle-clause-moments
returns-in_err-settle-clause-moments g c b told only rows recovers counts =
    let count = c.args.count in
    let old = c.args.disk.now in
    let mid = c.is_closed.new.disk in
    let new = c.settle.new.disk in
    let at = c.requires.ends b told in
    let u = c.is_closed.ensures.unmoved in
    let other : stands_closed (gate_behind count) b ≡ false =
    subst (λ (p : ℕ). stands_closed p b ≡ false) c.gate_behind-gate.ensures
    (sym (c.in_ok-is_closed.ensures.told b told at.size_is) ∙ c.if-branch.false) in
    let s = settles_at g.D.Disk _ (gate_behind count) (CLOSED ∷ [])
    (CLOSED ∷ []) c.settle.result b mid new c.gate_behind-gate.ensures refl
    (c.settle.ensures.settles b (u.reads ∙ told)) in
    leaves_on g.D.Disk old mid new (λ f. Recovers f rows)
    (unmoved_leaves g.D.Disk old mid (λ f. Recovers f rows) g.met.D.Disk.only_now u
    (still_recovers g.D.Disk old b rows only recovers))
    (ending_moments g.D.Disk g.met.D.Disk.reads_image g.met.D.Disk.only_now c.args.size count mid b
    (λ f is. only f (u.images f is)) at
    (omega (arith, c.if-count-gt-MAX_ROWS.false)) other c.settle.result new s rows recovers
    counts)

pub returns-clause-moments : goal.returns-clause-moments
returns-clause-moments g c b told only rows recovers counts =
    let count = c.args.count in
    let old = c.args.disk.now in
    let mid = c.is_closed.new.disk in
    let new = c.settle.new.disk in
    let at = c.requires.ends b told in
    let u = c.is_closed.ensures.unmoved in
    let other : stands_closed (gate_behind count) b ≡ false =
    subst (λ (p : ℕ). stands_closed p b ≡ false) c.gate_behind-gate.ensures
    (sym (c.in_ok-is_closed.ensures.told b told at.size_is) ∙ c.if-branch.false) in
    let s = settles_at g.D.Disk _ (gate_behind count) (CLOSED ∷ [])
    (CLOSED ∷ []) c.settle.result b mid new c.gate_behind-gate.ensures refl
    (c.settle.ensures.settles b (u.reads ∙ told)) in
    leaves_on g.D.Disk old mid new (λ f. Recovers f rows)
    (unmoved_leaves g.D.Disk old mid (λ f. Recovers f rows) g.met.D.Disk.only_now u
    (still_recovers g.D.Disk old b rows only recovers))
    (ending_moments g.D.Disk g.met.D.Disk.reads_image g.met.D.Disk.only_now c.args.size count mid b
    (λ f is. only f (u.images f is)) at
    (omega (arith, c.if-count-gt-MAX_ROWS.false)) other c.settle.result new s rows recovers
    counts)

pub returns-clause-reads : goal.returns-clause-reads
returns-clause-reads g c b told only =
    let count = c.args.count in
    let mid = c.is_closed.new.disk in
    let new = c.settle.new.disk in
    let at = c.requires.ends b told in
    let u = c.is_closed.ensures.unmoved in
    let other : stands_closed (gate_behind count) b ≡ false =
    subst (λ (p : ℕ). stands_closed p b ≡ false) c.gate_behind-gate.ensures
    (sym (c.in_ok-is_closed.ensures.told b told at.size_is) ∙ c.if-branch.false) in
    let s = settles_at g.D.Disk _ (gate_behind count) (CLOSED ∷ [])
    (CLOSED ∷ []) _ b mid new c.gate_behind-gate.ensures refl
    (c.in_ok-settle.ensures.settles b (u.reads ∙ told)) in
    let is : s.now ≡ closed_behind count b = s.done.0
    ∙ sym (closed_written count b (omega (arith, c.if-count-gt-MAX_ROWS.false)) other) in (
      s.told ∙ ap (λ (l : List ℕ). Some l) is,
      subst (λ (l : List ℕ). Only l (g.D.Disk.image new)) is s.done.1,
    )
