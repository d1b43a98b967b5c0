use Rattle.std.proofs.Common.{◌∙◌, inl, ℕ, List, ap, refl, arith, Some}
use Rattle.book_snapshot.specs.declared.layout.TheConstants.{MARK}
use Rattle.book_journal.specs.Appending.{TouchesSlot}
use Rattle.book_journal.proofs.Calls.{signed, signed_as}
use Rattle.book_journal.proofs.Journals.{told_on, told_as, gate_torn, touches_torn}
use Rattle.book_journal.proofs.Results.{ok_at_err}
use Rattle.book_journal.proofs.journal.Journal.mark.Goals as goal

pub returns-in_err-settle-clause-marks : goal.returns-in_err-settle-clause-marks
returns-in_err-settle-clause-marks g c rows has = (
  signed g.D.Disk g.met.D.Disk.reads_image g.met.D.Disk.only_now c.args.self.now rows has
      c.requires.marked c.args.byte c.settle.result c.settle.new.disk
      (c.settle.ensures.settles has.bytes has.told),
  ok_at_err _ c.from_residual.result _ c.from_residual.ensures.1,
)

pub returns-in_err-settle-clause-touched : goal.returns-in_err-settle-clause-touched
returns-in_err-settle-clause-touched g c b told =
    let s = c.settle.ensures.settles b told in
    told_as _ s.now (TouchesSlot c.args.self.now.count b) s.told
    (touches_torn c.args.self.now.count MARK 1 _ b s.now s.torn (inl (refl, refl))
    (omega arith))

pub returns-in_err-settle-clause-sound : goal.returns-in_err-settle-clause-sound
returns-in_err-settle-clause-sound g c = record {
  few = c.requires.sound.few;
  gate = told_on _ _ c.settle.ensures.tells _ (λ b told.
      let s = c.settle.ensures.settles b told in (
        s.now,
        s.told,
        gate_torn c.args.self.now.count MARK 1 _ b s.now s.torn (inl (refl, refl))
            (c.requires.sound.gate b told),
      ));
}

pub returns-clause-marks : goal.returns-clause-marks
returns-clause-marks g c rows has =
    let s = c.in_ok-settle.ensures.settles has.bytes has.told in (
      signed g.D.Disk g.met.D.Disk.reads_image g.met.D.Disk.only_now c.args.self.now rows has
          c.requires.marked c.args.byte _ c.settle.new.disk s,
      signed_as g.D.Disk g.met.D.Disk.reads_image g.met.D.Disk.only_now c.args.self.now rows has
          c.requires.marked c.args.byte _ c.settle.new.disk s,
    )

pub returns-clause-written : goal.returns-clause-written
returns-clause-written g c b told = let s = c.in_ok-settle.ensures.settles b told in s.told
    ∙ ap (λ (l : List ℕ). Some l) s.done.0

pub returns-clause-touched : goal.returns-clause-touched
returns-clause-touched g c b told =
    let s = c.settle.ensures.settles b told in
    told_as _ s.now (TouchesSlot c.args.self.now.count b) s.told
    (touches_torn c.args.self.now.count MARK 1 _ b s.now s.torn (inl (refl, refl))
    (omega arith))

pub returns-clause-sound : goal.returns-clause-sound
returns-clause-sound g c = record {
  few = c.requires.sound.few;
  gate = told_on _ _ c.settle.ensures.tells _ (λ b told.
      let s = c.settle.ensures.settles b told in (
        s.now,
        s.told,
        gate_torn c.args.self.now.count MARK 1 _ b s.now s.torn (inl (refl, refl))
            (c.requires.sound.gate b told),
      ));
}
