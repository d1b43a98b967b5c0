use Rattle.std.proofs.Common.{◌≡◌, ◌∙◌, inl, ℕ, List, Result, Err, MatchResult, sym, subst, arith}
use Rattle.std.proofs.lemmas.Result.{err_from_is_err_and}
use Rattle.device_facts.specs.Count.{Counted}
use Rattle.disk_core.specs.Disk.{Elapses}
use Rattle.disk_core.specs.declared.disk.Disk as disk
use Rattle.book_journal.specs.declared.types.JournalFault.{JournalFault}
use Rattle.book_journal.specs.declared.types.JournalFault.TheVariants.{Failed, NotJournal}
use Rattle.book_journal.specs.Mounting.{IsCauseOf}
use Rattle.book_journal.specs.Rows.{Recovers}
use Rattle.book_journal.proofs.Moments.{from_sync, unmoved_by, unmoved_on}
use Rattle.book_journal.proofs.mount.start.Goals as goal

pub returns-in_err-found-clause-moments : goal.returns-in_err-found-clause-moments
returns-in_err-found-clause-moments g c b told rows recovers few =
    let only = c.in_ok-sync.ensures.stable b told in
    inl (from_sync g.D.Disk c.args.disk.now c.sync.new.self c.open.new.disk b
    (λ (f : List ℕ). Recovers f rows) g.met.D.Disk.only_now only c.sync.ensures.images
    c.sync.ensures.time recovers
    (c.open.ensures.moments b (c.sync.ensures.reads ∙ told) only rows recovers few))

pub returns-clause-moments : goal.returns-clause-moments
returns-clause-moments g c b told rows recovers few =
    let only = c.in_ok-sync.ensures.stable b told in
    inl (from_sync g.D.Disk c.args.disk.now c.sync.new.self c.open.new.disk b
    (λ (f : List ℕ). Recovers f rows) g.met.D.Disk.only_now only c.sync.ensures.images
    c.sync.ensures.time recovers
    (c.open.ensures.moments b (c.sync.ensures.reads ∙ told) only rows recovers few))

-- a cause behind a sync
cause_on : {D : Type 0} (g : disk.Ghosts D) (why : JournalFault) (old mid new : D)
    → g.reads mid ≡ g.reads old → ((c : List ℕ) → g.image mid c → g.image old c)
    → Elapses (g.time old) (g.time mid) (g.since old) (g.since mid) (g.image mid)
    → g.faults mid ≡ g.faults old → g.asked mid ≡ g.asked old → IsCauseOf g why mid new
    → IsCauseOf g why old new
cause_on g Failed old mid new reads images time calm asked is =
    subst (λ (n : ℕ). Counted n (g.faults new) 1) calm is
cause_on g (NotJournal place) old mid new reads images time calm asked is = record {
  named = λ b told. is.named b (reads ∙ told);
  unmoved = unmoved_on g old mid new (unmoved_by g old mid reads images time) is.unmoved;
  calm = is.calm ∙ calm;
  asked = omega (arith, is.asked, asked);
}

matched : {T E : Type 0} (result : Result T E) (error : E) (P : T → Type 0) (Q : E → Type 0)
    → result ≡ Err error → Q error → MatchResult result P Q
matched result error P Q is holds = subst (λ r. MatchResult r P Q) (sym is) holds

pub returns-in_err-found-clause-cause : goal.returns-in_err-found-clause-cause
returns-in_err-found-clause-cause g c =
    let old = c.args.disk.now in
    let new = c.open.new.disk in
    let p = err_from_is_err_and c.from_residual-in_err-found.result
    c.from_residual-in_err-found.ensures.1 in
    let there = cause_on g.D.Disk c.in_err-found.field-0.0 old c.sync.new.self new
    c.sync.ensures.reads c.sync.ensures.images c.sync.ensures.time c.in_ok-sync.ensures.cause
    c.sync.ensures.asked c.in_err-found.ensures.cause in
    matched c.from_residual-in_err-found.result p.0 _ _ p.1
    (subst (λ (why : JournalFault). IsCauseOf g.D.Disk why old new) (sym p.2) there)
