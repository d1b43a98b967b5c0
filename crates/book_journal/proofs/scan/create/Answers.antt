use Rattle.std.proofs.Common.{◌≡◌, ◌∙◌, inr, ℕ, List, [], length, ap, refl, subst, arith, Some}
use Rattle.disk_core.specs.Disk.{Only}
use Rattle.book_journal.specs.Rows.{Recovers}
use Rattle.book_journal.specs.Mounting.{new_journal}
use Rattle.book_journal.proofs.ByteWrites.{overwritten_end}
use Rattle.book_journal.proofs.Moments.{started, goes_on}
use Rattle.book_journal.proofs.JournalSteps.{settles_at}
use Rattle.book_journal.proofs.scan.create.Goals as goal

pub returns-in_err-settle-clause-moments : goal.returns-in_err-settle-clause-moments
returns-in_err-settle-clause-moments g c b told only short =
    let old = c.args.disk.now in
    let new = c.settle.new.disk in
    let s = settles_at g.D.Disk 0 0 _ new_journal c.settle.result b old new refl
    c.new_journal.ensures (c.settle.ensures.settles b told) in
    goes_on g.D.Disk old old new (λ f. Recovers f []) _
    (started g.D.Disk old (λ f. Recovers f [])
    (λ f was. inr (
      omega (arith, short, ap length (only f (g.met.D.Disk.only_now old f was))),
      refl,
    )))
    s.moments
    (λ f torn. inr (
      omega (
        arith,
        torn.2.no_longer,
        ap length (only torn.0 torn.1),
        short,
        s.torn.no_longer,
      ),
      refl,
    ))

pub returns-clause-moments : goal.returns-clause-moments
returns-clause-moments g c b told only short =
    let old = c.args.disk.now in
    let new = c.settle.new.disk in
    let s = settles_at g.D.Disk 0 0 _ new_journal c.settle.result b old new refl
    c.new_journal.ensures (c.settle.ensures.settles b told) in
    goes_on g.D.Disk old old new (λ f. Recovers f []) _
    (started g.D.Disk old (λ f. Recovers f [])
    (λ f was. inr (
      omega (arith, short, ap length (only f (g.met.D.Disk.only_now old f was))),
      refl,
    )))
    s.moments
    (λ f torn. inr (
      omega (
        arith,
        torn.2.no_longer,
        ap length (only torn.0 torn.1),
        short,
        s.torn.no_longer,
      ),
      refl,
    ))

pub returns-clause-reads : goal.returns-clause-reads
returns-clause-reads g c b told short =
    let new = c.settle.new.disk in
    let s = settles_at g.D.Disk 0 0 _ new_journal _ b c.args.disk.now new refl c.new_journal.ensures
    (c.in_ok-settle.ensures.settles b told) in
    let is : s.now ≡ new_journal = s.done.0 ∙ overwritten_end b 0 new_journal (omega (arith, short)) in (
      s.told ∙ ap (λ (l : List ℕ). Some l) is,
      subst (λ (l : List ℕ). Only l (g.D.Disk.image new)) is s.done.1,
    )
