use Rattle.std.proofs.Common.{◌≡◌, ◌∙◌, inr, ℕ, List, [], ◌∷◌, ap, refl, sym, arith, Some, Bool, if◌then◌else◌}
use Rattle.disk_core.specs.Disk.{overwritten}
use Rattle.book_journal.specs.declared.layout.TheConstants.{CLOSED}
use Rattle.book_journal.specs.Rows.{gate_behind, row_behind}
use Rattle.book_journal.specs.Appending.{TouchesSlot}
use Rattle.book_journal.proofs.Calls.{kept_still, closing, closed}
use Rattle.book_journal.proofs.Journals.{told_on, told_as, told_before, gate_torn, touches_torn}
use Rattle.book_journal.proofs.Signs.{gate_row_kept}
use Rattle.book_journal.proofs.JournalSteps.{settles_at}
use Rattle.book_journal.proofs.journal.Journal.close.Goals as goal

pub returns-then-not-self-clause-keeps : goal.returns-then-not-self-clause-keeps
returns-then-not-self-clause-keeps g c rows has =
    kept_still g.D.Disk g.met.D.Disk.reads_image g.met.D.Disk.only_now c.args.self.now rows has

pub returns-in_err-settle-clause-keeps : goal.returns-in_err-settle-clause-keeps
returns-in_err-settle-clause-keeps g c rows has =
    let journal = c.args.self.now in
    let s = settles_at g.D.Disk _ (gate_behind journal.count) (CLOSED ∷ [])
    (CLOSED ∷ []) c.settle.result has.bytes journal.disk c.settle.new.disk c.gate_behind.ensures
    refl (c.settle.ensures.settles has.bytes has.told) in
    closing g.D.Disk g.met.D.Disk.reads_image g.met.D.Disk.only_now journal rows has
    c.if-not-self.false c.settle.result c.settle.new.disk s

pub returns-in_err-settle-clause-hung : goal.returns-in_err-settle-clause-hung
returns-in_err-settle-clause-hung g c hung hangs =
    let journal = c.args.self.now in
    let before = told_before _ _ _ c.settle.ensures.tells hangs.told in
    let s = settles_at g.D.Disk _ (gate_behind journal.count) (CLOSED ∷ [])
    (CLOSED ∷ []) c.settle.result before.0 journal.disk c.settle.new.disk c.gate_behind.ensures
    refl (c.settle.ensures.settles before.0 before.1) in
    let same : s.now ≡ hangs.bytes = cc (s.told, hangs.told) in
    let long = (c.requires.gate before.0 before.1).long in
    record {
      hangs = hangs.hangs;
      bytes = before.0;
      told = before.1;
      stands = gate_row_kept journal.count before.0 s.now long s.torn
          ∙ ap (λ (l : List ℕ). row_behind journal.count l) same ∙ hangs.stands;
    }

pub returns-in_err-settle-clause-touched : goal.returns-in_err-settle-clause-touched
returns-in_err-settle-clause-touched g c b told =
    let journal = c.args.self.now in
    let s = settles_at g.D.Disk _ (gate_behind journal.count) (CLOSED ∷ [])
    (CLOSED ∷ []) c.settle.result b journal.disk c.settle.new.disk c.gate_behind.ensures refl
    (c.settle.ensures.settles b told) in
    told_as _ s.now (TouchesSlot journal.count b) s.told
    (touches_torn journal.count (gate_behind journal.count) 1 _ b s.now s.torn
    (inr (omega arith, omega arith)) (omega arith))

pub returns-in_err-settle-clause-sound : goal.returns-in_err-settle-clause-sound
returns-in_err-settle-clause-sound g c = record {
  few = c.requires.few;
  gate = told_on _ _ c.settle.ensures.tells _ (λ b told.
      let journal = c.args.self.now in
      let s = settles_at g.D.Disk _ (gate_behind journal.count) (CLOSED ∷ [])
      (CLOSED ∷ []) c.settle.result b journal.disk c.settle.new.disk c.gate_behind.ensures refl
      (c.settle.ensures.settles b told) in (
        s.now,
        s.told,
        gate_torn journal.count (gate_behind journal.count) 1 _ b s.now s.torn
            (inr (omega arith)) (c.requires.gate b told),
      ));
}

pub returns-clause-keeps : goal.returns-clause-keeps
returns-clause-keeps g c rows has =
    let journal = c.args.self.now in
    let s = settles_at g.D.Disk _ (gate_behind journal.count) (CLOSED ∷ [])
    (CLOSED ∷ []) _ has.bytes journal.disk c.settle.new.disk c.gate_behind.ensures refl
    (c.in_ok-settle.ensures.settles has.bytes has.told) in
    closed g.D.Disk g.met.D.Disk.reads_image g.met.D.Disk.only_now journal rows has
    c.if-not-self.false _ c.settle.new.disk s s.done

pub returns-clause-written : goal.returns-clause-written
returns-clause-written g c b told =
    let journal = c.args.self.now in
    let s = settles_at g.D.Disk _ (gate_behind journal.count) (CLOSED ∷ [])
    (CLOSED ∷ []) _ b journal.disk c.settle.new.disk c.gate_behind.ensures refl
    (c.in_ok-settle.ensures.settles b told) in
    s.told ∙ ap (λ (l : List ℕ). Some l)
    (s.done.0 ∙ sym
    (ap (λ (h : Bool). if h then overwritten b (gate_behind journal.count) (CLOSED ∷ []) else b)
    c.if-not-self.false))

pub returns-clause-touched : goal.returns-clause-touched
returns-clause-touched g c b told =
    let journal = c.args.self.now in
    let s = settles_at g.D.Disk _ (gate_behind journal.count) (CLOSED ∷ [])
    (CLOSED ∷ []) c.settle.result b journal.disk c.settle.new.disk c.gate_behind.ensures refl
    (c.settle.ensures.settles b told) in
    told_as _ s.now (TouchesSlot journal.count b) s.told
    (touches_torn journal.count (gate_behind journal.count) 1 _ b s.now s.torn
    (inr (omega arith, omega arith)) (omega arith))

pub returns-clause-sound : goal.returns-clause-sound
returns-clause-sound g c = record {
  few = c.requires.few;
  gate = told_on _ _ c.settle.ensures.tells _ (λ b told.
      let journal = c.args.self.now in
      let s = settles_at g.D.Disk _ (gate_behind journal.count) (CLOSED ∷ [])
      (CLOSED ∷ []) c.settle.result b journal.disk c.settle.new.disk c.gate_behind.ensures refl
      (c.settle.ensures.settles b told) in (
        s.now,
        s.told,
        gate_torn journal.count (gate_behind journal.count) 1 _ b s.now s.torn
            (inr (omega arith)) (c.requires.gate b told),
      ));
}
