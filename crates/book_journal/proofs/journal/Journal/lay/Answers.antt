use Rattle.std.proofs.Common.{◌≡◌, ◌∙◌, ◌+◌, ℕ, List, length, ap, refl, subst, Some}
use Rattle.disk_core.specs.Disk.{Only, overwritten}
use Rattle.book_snapshot.specs.Blocks.{IsSnapshotSize}
use Rattle.book_journal.specs.Rows.{Recovers, gate_behind}
use Rattle.book_journal.specs.Marking.{behind_closed_gate, with_snapshot}
use Rattle.book_journal.proofs.Calls.{laid_has, laid_leaves, synced_has}
use Rattle.book_journal.proofs.Signs.{laid_all}
use Rattle.book_journal.proofs.BehindGate.{behind_at, gate_stays}
use Rattle.book_journal.proofs.Journals.{image_keeps, none_hangs, told_on, tells_by}
use Rattle.book_journal.proofs.Moments.{goes_on}
use Rattle.book_journal.proofs.journal.Journal.lay.Goals as goal

pub returns-in_err-write_snapshot-clause-keeps : goal.returns-in_err-write_snapshot-clause-keeps
returns-in_err-write_snapshot-clause-keeps g c rows has =
    let journal = c.args.self.now in
    let new = c.write_snapshot.new.disk in
    let w = behind_at g.D.Disk _ (gate_behind journal.count + 1) _
    (behind_closed_gate c.args.kept.rows c.args.content.now) c.write_snapshot.result has.bytes
    journal.disk new (ap (λ (n : ℕ). gate_behind n + 1) c.requires.rows) refl
    (c.write_snapshot.ensures.writes has.bytes has.told) in
    record {
      has = laid_has g.D.Disk g.met.D.Disk.reads_image g.met.D.Disk.only_now journal rows has
          c.requires.closed c.requires.unmarked _ c.write_snapshot.result new w;
      moments = laid_leaves g.D.Disk g.met.D.Disk.reads_image g.met.D.Disk.only_now journal rows has
          c.requires.closed c.requires.unmarked _ c.write_snapshot.result new w;
    }

pub returns-in_err-write_snapshot-clause-sound : goal.returns-in_err-write_snapshot-clause-sound
returns-in_err-write_snapshot-clause-sound g c = record {
  few = c.requires.sound.few;
  gate = told_on _ _ c.write_snapshot.ensures.tells _ (λ b told.
      let journal = c.args.self.now in
      let new = c.write_snapshot.new.disk in
      let w = behind_at g.D.Disk _ (gate_behind journal.count + 1) _
      (behind_closed_gate c.args.kept.rows c.args.content.now) c.write_snapshot.result b
      journal.disk new (ap (λ (n : ℕ). gate_behind n + 1) c.requires.rows) refl
      (c.write_snapshot.ensures.writes b told) in (
        w.now,
        w.told,
        gate_stays g.D.Disk journal.count _ c.write_snapshot.result b journal.disk new
            w (c.requires.sound.gate b told),
      ));
}

pub returns-in_err-sync-clause-keeps : goal.returns-in_err-sync-clause-keeps
returns-in_err-sync-clause-keeps g c rows has =
    let journal = c.args.self.now in
    let mid = c.write_snapshot.new.disk in
    let new = c.sync.new.self in
    let w = behind_at g.D.Disk _ (gate_behind journal.count + 1) _
    (behind_closed_gate c.args.kept.rows c.args.content.now) _ has.bytes journal.disk mid
    (ap (λ (n : ℕ). gate_behind n + 1) c.requires.rows) refl
    (c.in_ok-write_snapshot.ensures.writes has.bytes has.told) in
    let laid = laid_has g.D.Disk g.met.D.Disk.reads_image g.met.D.Disk.only_now journal rows has
    c.requires.closed c.requires.unmarked _ _ mid w in
    record {
      has = synced_has g.D.Disk (record journal { disk = mid }) new rows c.sync.ensures.reads
          c.sync.ensures.images laid;
      moments = goes_on g.D.Disk journal.disk mid new (λ f. Recovers f rows) (g.D.Disk.image new)
          (laid_leaves g.D.Disk g.met.D.Disk.reads_image g.met.D.Disk.only_now journal rows has
          c.requires.closed c.requires.unmarked _ _ mid w)
          c.sync.ensures.time (λ f is. none_hangs g.D.Disk g.met.D.Disk.reads_image
          g.met.D.Disk.only_now (record journal { disk = mid }) rows f c.requires.closed
          (image_keeps g.D.Disk g.met.D.Disk.reads_image g.met.D.Disk.only_now
          (record journal { disk = mid }) rows laid f (c.sync.ensures.images f is)));
    }

pub returns-in_err-sync-clause-sound : goal.returns-in_err-sync-clause-sound
returns-in_err-sync-clause-sound g c = record {
  few = c.requires.sound.few;
  gate = told_on _ _ (tells_by _ _ _ c.write_snapshot.ensures.tells c.sync.ensures.reads) _ (λ b told.
      let journal = c.args.self.now in
      let mid = c.write_snapshot.new.disk in
      let w = behind_at g.D.Disk _ (gate_behind journal.count + 1) _
      (behind_closed_gate c.args.kept.rows c.args.content.now) _ b journal.disk mid
      (ap (λ (n : ℕ). gate_behind n + 1) c.requires.rows) refl
      (c.in_ok-write_snapshot.ensures.writes b told) in (
        w.now,
        c.sync.ensures.reads ∙ w.told,
        gate_stays g.D.Disk journal.count _ _ b journal.disk mid w
            (c.requires.sound.gate b told),
      ));
}

pub returns-clause-keeps : goal.returns-clause-keeps
returns-clause-keeps g c rows has =
    let journal = c.args.self.now in
    let mid = c.write_snapshot.new.disk in
    let new = c.sync.new.self in
    let w = behind_at g.D.Disk _ (gate_behind journal.count + 1) _
    (behind_closed_gate c.args.kept.rows c.args.content.now) _ has.bytes journal.disk mid
    (ap (λ (n : ℕ). gate_behind n + 1) c.requires.rows) refl
    (c.in_ok-write_snapshot.ensures.writes has.bytes has.told) in
    let laid = laid_has g.D.Disk g.met.D.Disk.reads_image g.met.D.Disk.only_now journal rows has
    c.requires.closed c.requires.unmarked _ _ mid w in
    record {
      has = synced_has g.D.Disk (record journal { disk = mid }) new rows c.sync.ensures.reads
          c.sync.ensures.images laid;
      moments = goes_on g.D.Disk journal.disk mid new (λ f. Recovers f rows) (g.D.Disk.image new)
          (laid_leaves g.D.Disk g.met.D.Disk.reads_image g.met.D.Disk.only_now journal rows has
          c.requires.closed c.requires.unmarked _ _ mid w)
          c.sync.ensures.time (λ f is. none_hangs g.D.Disk g.met.D.Disk.reads_image
          g.met.D.Disk.only_now (record journal { disk = mid }) rows f c.requires.closed
          (image_keeps g.D.Disk g.met.D.Disk.reads_image g.met.D.Disk.only_now
          (record journal { disk = mid }) rows laid f (c.sync.ensures.images f is)));
    }

pub returns-clause-laid : goal.returns-clause-laid
returns-clause-laid g c b told short =
    let journal = c.args.self.now in
    let content = c.args.content.now in
    let mid = c.write_snapshot.new.disk in
    let new = c.sync.new.self in
    let w = c.in_ok-write_snapshot.ensures.writes b told in
    let size : IsSnapshotSize journal.count (length content) =
    subst (λ (n : ℕ). IsSnapshotSize n (length content)) c.requires.rows
    (subst (λ (n : ℕ). IsSnapshotSize c.args.kept.rows n) c.requires.bytes c.requires.size) in
    let long = (c.requires.sound.gate b told).long in
    let all = laid_all journal.count content b size long short in
    let is : w.now ≡ with_snapshot journal.count content b = w.done
    ∙ ap (λ (n : ℕ). overwritten b (gate_behind n + 1) (behind_closed_gate n content))
    c.requires.rows ∙ all in (
      c.sync.ensures.reads ∙ w.told ∙ ap (λ (l : List ℕ). Some l) is,
      subst (λ (l : List ℕ). Only l (g.D.Disk.image new)) is (c.in_ok-sync.ensures.stable w.now w.told),
    )

pub returns-clause-sound : goal.returns-clause-sound
returns-clause-sound g c = record {
  few = c.requires.sound.few;
  gate = told_on _ _ (tells_by _ _ _ c.write_snapshot.ensures.tells c.sync.ensures.reads) _ (λ b told.
      let journal = c.args.self.now in
      let mid = c.write_snapshot.new.disk in
      let w = behind_at g.D.Disk _ (gate_behind journal.count + 1) _
      (behind_closed_gate c.args.kept.rows c.args.content.now) _ b journal.disk mid
      (ap (λ (n : ℕ). gate_behind n + 1) c.requires.rows) refl
      (c.in_ok-write_snapshot.ensures.writes b told) in (
        w.now,
        c.sync.ensures.reads ∙ w.told,
        gate_stays g.D.Disk journal.count _ _ b journal.disk mid w
            (c.requires.sound.gate b told),
      ));
}
