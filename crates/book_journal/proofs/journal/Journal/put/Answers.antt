use Rattle.std.proofs.Common.{◌≡◌, ◌+◌, ◌-◌, ◌∙◌, inr, ℕ, List, [], ◌∷◌, ◌++◌, length, drop, ap, refl, sym, arith, Some, IsTrue, false, length-drop, length-append}
use Rattle.disk_core.specs.Disk.{overwritten}
use Rattle.book_snapshot.specs.declared.layout.TheConstants.{ROW_BYTES, OPEN}
use Rattle.book_journal.specs.declared.layout.TheConstants.{CLOSED}
use Rattle.book_journal.specs.Rows.{gate_behind, row_behind}
use Rattle.book_journal.specs.Appending.{TouchesSlot}
use Rattle.book_journal.proofs.Calls.{unput, unput_moments, half_put, half_row, put_moments, put, no_both}
use Rattle.book_journal.proofs.Journals.{told_on, told_as, told_before, tells_on, row_is, gate_torn, touches_torn, touches_on}
use Rattle.book_journal.proofs.ByteWrites.{overwritten_front, overwritten_size}
use Rattle.book_journal.proofs.JournalSteps.{settles_at}
use Rattle.book_journal.proofs.Results.{ok_at_err, err_at}
use Rattle.book_journal.proofs.journal.Journal.put.Goals as goal

tail_size : (row : List ℕ) → length row ≡ ROW_BYTES → length (drop 1 row) ≡ ROW_BYTES - 1
tail_size row long = omega (arith, length-drop 1 row, long)

-- the first write failed
pub returns-in_err-settle-clause-puts : goal.returns-in_err-settle-clause-puts
returns-in_err-settle-clause-puts g c rows has =
    let journal = c.args.self.now in
    let row = c.args.row.now in
    let tail = drop 1 row in
    let s = settles_at g.D.Disk _ (gate_behind journal.count + 1) _
    (tail ++ CLOSED ∷ []) c.settle.result has.bytes journal.disk c.settle.new.disk
    (ap (λ (p : ℕ). p + 1) c.gate_behind-gate.ensures) c.behind_gate.ensures
    (c.settle.ensures.settles has.bytes has.told) in
    let is_row = row_is row c.told-row c.requires.row.numbered.gate in
    record {
      done = ok_at_err _ c.from_residual.result _ c.from_residual.ensures.1;
      failed = err_at c.from_residual.result _
          (unput g.D.Disk g.met.D.Disk.reads_image g.met.D.Disk.only_now journal rows has
          c.requires.closed c.requires.unmarked row tail
          (tail_size row c.told-row) is_row c.requires.row c.settle.result c.settle.new.disk s);
      hung = λ hung hangs. no_both journal.hanging hangs.hangs c.requires.closed;
      moments = unput_moments g.D.Disk g.met.D.Disk.reads_image g.met.D.Disk.only_now journal rows
          has c.requires.closed c.requires.unmarked row tail
          (tail_size row c.told-row) is_row c.requires.row c.settle.result c.settle.new.disk s;
    }

pub returns-in_err-settle-clause-touched : goal.returns-in_err-settle-clause-touched
returns-in_err-settle-clause-touched g c b told =
    let journal = c.args.self.now in
    let row = c.args.row.now in
    let tail = drop 1 row in
    let s = settles_at g.D.Disk _ (gate_behind journal.count + 1) _
    (tail ++ CLOSED ∷ []) c.settle.result b journal.disk c.settle.new.disk
    (ap (λ (p : ℕ). p + 1) c.gate_behind-gate.ensures) c.behind_gate.ensures
    (c.settle.ensures.settles b told) in
    let size = length-append tail (CLOSED ∷ []) in
    told_as _ s.now (TouchesSlot journal.count b) s.told
    (touches_torn journal.count (gate_behind journal.count + 1)
    (length (tail ++ CLOSED ∷ [])) _ b s.now s.torn
    (inr (omega arith, omega (arith, size, tail_size row c.told-row)))
    (omega (arith, size, tail_size row c.told-row)))

pub returns-in_err-settle-clause-sound : goal.returns-in_err-settle-clause-sound
returns-in_err-settle-clause-sound g c = record {
  few = c.requires.sound.few;
  gate = told_on _ _ c.settle.ensures.tells _ (λ b told.
      let journal = c.args.self.now in
      let tail = drop 1 c.args.row.now in
      let s = settles_at g.D.Disk _ (gate_behind journal.count + 1) _
      (tail ++ CLOSED ∷ []) c.settle.result b journal.disk c.settle.new.disk
      (ap (λ (p : ℕ). p + 1) c.gate_behind-gate.ensures) c.behind_gate.ensures
      (c.settle.ensures.settles b told) in (
        s.now,
        s.told,
        gate_torn journal.count (gate_behind journal.count + 1)
            (length (tail ++ CLOSED ∷ [])) _ b s.now s.torn (inr (omega arith))
            (c.requires.sound.gate b told),
      ));
}

pub settle-requires-2-clause-within : goal.settle-requires-2-clause-within
settle-requires-2-clause-within g c now told_now =
    let journal = c.args.self.now in
    let before = told_before _ _ now c.settle.ensures.tells told_now in
    let s = c.settle.ensures.settles before.0 before.1 in
    let same : s.now ≡ now = cc (s.told, told_now) in
    let long = (c.requires.sound.gate before.0 before.1).long in
    omega (arith, long, s.torn.no_shorter, ap length same, c.gate_behind-gate.ensures)

-- the second write failed
pub returns-in_err-settle-2-clause-puts : goal.returns-in_err-settle-2-clause-puts
returns-in_err-settle-2-clause-puts g c rows has =
    let journal = c.args.self.now in
    let row = c.args.row.now in
    let tail = drop 1 row in
    let mid = c.settle.new.disk in
    let new = c.settle-2.new.disk in
    let s = settles_at g.D.Disk _ (gate_behind journal.count + 1) _
    (tail ++ CLOSED ∷ []) _ has.bytes journal.disk mid
    (ap (λ (p : ℕ). p + 1) c.gate_behind-gate.ensures) c.behind_gate.ensures
    (c.in_ok-settle.ensures.settles has.bytes has.told) in
    let s' = settles_at g.D.Disk _ (gate_behind journal.count) (OPEN ∷ [])
    (OPEN ∷ []) c.settle-2.result s.now mid new c.gate_behind-gate.ensures refl
    (c.settle-2.ensures.settles s.now s.told) in
    let is_row = row_is row c.told-row c.requires.row.numbered.gate in
    let size = tail_size row c.told-row in
    record {
      done = ok_at_err _ c.from_residual-in_err-settle-2.result _
          c.from_residual-in_err-settle-2.ensures.1;
      failed = err_at c.from_residual-in_err-settle-2.result _
          (half_put g.D.Disk g.met.D.Disk.reads_image g.met.D.Disk.only_now journal rows has
          c.requires.closed c.requires.unmarked row tail size is_row c.requires.row _ mid s s.done
          c.settle-2.result new s');
      hung = λ hung hangs.
          let same : hangs.bytes ≡ s'.now = cc (s'.told, hangs.told) in
          sym hangs.stands ∙ ap (λ (l : List ℕ). row_behind journal.count l) same
          ∙ half_row g.D.Disk g.met.D.Disk.reads_image g.met.D.Disk.only_now journal rows has
          c.requires.closed c.requires.unmarked row tail size is_row c.requires.row _ mid s
          s.done c.settle-2.result new s';
      moments = put_moments g.D.Disk g.met.D.Disk.reads_image g.met.D.Disk.only_now journal rows has
          c.requires.closed c.requires.unmarked row tail size is_row c.requires.row _ mid s s.done
          c.settle-2.result new s';
    }

pub returns-in_err-settle-2-clause-touched : goal.returns-in_err-settle-2-clause-touched
returns-in_err-settle-2-clause-touched g c b told =
    let journal = c.args.self.now in
    let row = c.args.row.now in
    let tail = drop 1 row in
    let mid = c.settle.new.disk in
    let s = settles_at g.D.Disk _ (gate_behind journal.count + 1) _
    (tail ++ CLOSED ∷ []) c.settle.result b journal.disk mid
    (ap (λ (p : ℕ). p + 1) c.gate_behind-gate.ensures) c.behind_gate.ensures
    (c.settle.ensures.settles b told) in
    let s' = settles_at g.D.Disk _ (gate_behind journal.count) (OPEN ∷ [])
    (OPEN ∷ []) c.settle-2.result s.now mid c.settle-2.new.disk c.gate_behind-gate.ensures refl
    (c.settle-2.ensures.settles s.now s.told) in
    let size = length-append tail (CLOSED ∷ []) in
    told_as _ s'.now (TouchesSlot journal.count b) s'.told
    (touches_on journal.count b s.now s'.now
    (touches_torn journal.count (gate_behind journal.count + 1)
    (length (tail ++ CLOSED ∷ [])) _ b s.now s.torn
    (inr (omega arith, omega (arith, size, tail_size row c.told-row)))
    (omega (arith, size, tail_size row c.told-row)))
    (touches_torn journal.count (gate_behind journal.count) 1 _ s.now s'.now s'.torn
    (inr (omega arith, omega arith)) (omega arith)))

pub returns-in_err-settle-2-clause-sound : goal.returns-in_err-settle-2-clause-sound
returns-in_err-settle-2-clause-sound g c = record {
  few = c.requires.sound.few;
  gate = told_on _ _ (tells_on _ _ _ c.settle.ensures.tells c.settle-2.ensures.tells) _ (λ b told.
      let journal = c.args.self.now in
      let tail = drop 1 c.args.row.now in
      let mid = c.settle.new.disk in
      let s = settles_at g.D.Disk _ (gate_behind journal.count + 1) _
      (tail ++ CLOSED ∷ []) c.settle.result b journal.disk mid
      (ap (λ (p : ℕ). p + 1) c.gate_behind-gate.ensures) c.behind_gate.ensures
      (c.settle.ensures.settles b told) in
      let s' = settles_at g.D.Disk _ (gate_behind journal.count) (OPEN ∷ [])
      (OPEN ∷ []) c.settle-2.result s.now mid c.settle-2.new.disk c.gate_behind-gate.ensures
      refl (c.settle-2.ensures.settles s.now s.told) in (
        s'.now,
        s'.told,
        gate_torn journal.count (gate_behind journal.count) 1 _ s.now s'.now s'.torn (inr (omega arith))
            (gate_torn journal.count (gate_behind journal.count + 1)
            (length (tail ++ CLOSED ∷ [])) _ b s.now s.torn (inr (omega arith))
            (c.requires.sound.gate b told)),
      ));
}

-- both were done
pub returns-clause-puts : goal.returns-clause-puts
returns-clause-puts g c rows has =
    let journal = c.args.self.now in
    let row = c.args.row.now in
    let tail = drop 1 row in
    let mid = c.settle.new.disk in
    let new = c.settle-2.new.disk in
    let s = settles_at g.D.Disk _ (gate_behind journal.count + 1) _
    (tail ++ CLOSED ∷ []) _ has.bytes journal.disk mid
    (ap (λ (p : ℕ). p + 1) c.gate_behind-gate.ensures) c.behind_gate.ensures
    (c.in_ok-settle.ensures.settles has.bytes has.told) in
    let s' = settles_at g.D.Disk _ (gate_behind journal.count) (OPEN ∷ [])
    (OPEN ∷ []) _ s.now mid new c.gate_behind-gate.ensures refl
    (c.in_ok-settle-2.ensures.settles s.now s.told) in
    let is_row = row_is row c.told-row c.requires.row.numbered.gate in
    let size = tail_size row c.told-row in
    record {
      done = put g.D.Disk g.met.D.Disk.reads_image g.met.D.Disk.only_now journal rows has
          c.requires.closed c.requires.unmarked row tail size is_row c.requires.row _ mid s s.done _
          new s' s'.done;
      failed = tt;
      hung = λ hung hangs. absurd (no_hang hangs.hangs);
      moments = put_moments g.D.Disk g.met.D.Disk.reads_image g.met.D.Disk.only_now journal rows has
          c.requires.closed c.requires.unmarked row tail size is_row c.requires.row _ mid s s.done _
          new s';
    }
  where
    no_hang : IsTrue false → ⊥
    no_hang is = cc

pub returns-clause-written : goal.returns-clause-written
returns-clause-written g c b told =
    let journal = c.args.self.now in
    let row = c.args.row.now in
    let tail = drop 1 row in
    let mid = c.settle.new.disk in
    let new = c.settle-2.new.disk in
    let s = settles_at g.D.Disk _ (gate_behind journal.count + 1) _
    (tail ++ CLOSED ∷ []) _ b journal.disk mid
    (ap (λ (p : ℕ). p + 1) c.gate_behind-gate.ensures) c.behind_gate.ensures
    (c.in_ok-settle.ensures.settles b told) in
    let s' = settles_at g.D.Disk _ (gate_behind journal.count) (OPEN ∷ [])
    (OPEN ∷ []) _ s.now mid new c.gate_behind-gate.ensures refl
    (c.in_ok-settle-2.ensures.settles s.now s.told) in
    let long = (c.requires.sound.gate b told).long in
    s'.told ∙ ap (λ (l : List ℕ). Some l)
    (s'.done.0
    ∙ ap (λ (l : List ℕ). overwritten l (gate_behind journal.count) (OPEN ∷ [])) s.done.0
    ∙ overwritten_front b (gate_behind journal.count) (gate_behind journal.count + 1) OPEN
    (tail ++ CLOSED ∷ []) (omega (arith, long)) refl
    ∙ ap (λ (l : List ℕ). overwritten b (gate_behind journal.count) (l ++ CLOSED ∷ []))
    (row_is row c.told-row c.requires.row.numbered.gate))

pub returns-clause-touched : goal.returns-clause-touched
returns-clause-touched g c b told =
    let journal = c.args.self.now in
    let row = c.args.row.now in
    let tail = drop 1 row in
    let mid = c.settle.new.disk in
    let s = settles_at g.D.Disk _ (gate_behind journal.count + 1) _
    (tail ++ CLOSED ∷ []) c.settle.result b journal.disk mid
    (ap (λ (p : ℕ). p + 1) c.gate_behind-gate.ensures) c.behind_gate.ensures
    (c.settle.ensures.settles b told) in
    let s' = settles_at g.D.Disk _ (gate_behind journal.count) (OPEN ∷ [])
    (OPEN ∷ []) c.settle-2.result s.now mid c.settle-2.new.disk c.gate_behind-gate.ensures refl
    (c.settle-2.ensures.settles s.now s.told) in
    let size = length-append tail (CLOSED ∷ []) in
    told_as _ s'.now (TouchesSlot journal.count b) s'.told
    (touches_on journal.count b s.now s'.now
    (touches_torn journal.count (gate_behind journal.count + 1)
    (length (tail ++ CLOSED ∷ [])) _ b s.now s.torn
    (inr (omega arith, omega (arith, size, tail_size row c.told-row)))
    (omega (arith, size, tail_size row c.told-row)))
    (touches_torn journal.count (gate_behind journal.count) 1 _ s.now s'.now s'.torn
    (inr (omega arith, omega arith)) (omega arith)))

pub returns-clause-sound : goal.returns-clause-sound
returns-clause-sound g c = record {
  few = omega (arith, c.requires.room);
  gate = told_on _ _ (tells_on _ _ _ c.settle.ensures.tells c.settle-2.ensures.tells) _ (λ b told.
      let journal = c.args.self.now in
      let row = c.args.row.now in
      let tail = drop 1 row in
      let mid = c.settle.new.disk in
      let s = settles_at g.D.Disk _ (gate_behind journal.count + 1) _
      (tail ++ CLOSED ∷ []) _ b journal.disk mid
      (ap (λ (p : ℕ). p + 1) c.gate_behind-gate.ensures) c.behind_gate.ensures
      (c.in_ok-settle.ensures.settles b told) in
      let s' = settles_at g.D.Disk _ (gate_behind journal.count) (OPEN ∷ [])
      (OPEN ∷ []) c.settle-2.result s.now mid c.settle-2.new.disk c.gate_behind-gate.ensures
      refl (c.settle-2.ensures.settles s.now s.told) in
      let long = (c.requires.sound.gate b told).long in
      let size = length-append tail (CLOSED ∷ []) in
      let staged = overwritten_size b (gate_behind journal.count + 1) (tail ++ CLOSED ∷ [])
      (omega (arith, long)) in
      let still = gate_torn journal.count (gate_behind journal.count) 1 _ s.now s'.now s'.torn
      (inr (omega arith))
      (gate_torn journal.count (gate_behind journal.count + 1)
      (length (tail ++ CLOSED ∷ [])) _ b s.now s.torn (inr (omega arith))
      (c.requires.sound.gate b told)) in (
        s'.now,
        s'.told,
        record {
          header = still.header;
          long =
              omega (
                arith,
                ap length s.done.0,
                staged,
                size,
                tail_size row c.told-row,
                s'.torn.no_shorter,
              );
        },
      ));
}
