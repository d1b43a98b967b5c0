use Rattle.std.proofs.Common.{◌+◌, ◌∙◌, ℕ, List, length, refl, sym, subst, arith}
use Rattle.disk_core.specs.Disk.{overwritten, Torn}
use Rattle.disk_core.specs.Tears.{torn_by, length-overwritten}
use Rattle.book_journal.proofs.Moments.{elapses_in, elapses_on}
use Rattle.book_journal.proofs.Results.{ok_at_err}
use Rattle.book_journal.proofs.settle.settle.Goals as goal

pub returns-in_err-write_at-clause-settles : goal.returns-in_err-write_at-clause-settles
returns-in_err-write_at-clause-settles g c there told =
    let w = c.in_err-write_at.ensures.writes there told in
    record {
      now = w.now;
      told = w.told_now;
      done = ok_at_err _ c.from_residual.result _ c.from_residual.ensures.1;
      torn = w.cut_short;
      images = w.images;
      moments = elapses_in _ _ c.write_at.ensures.time w.images;
    }

pub returns-in_err-sync-clause-settles : goal.returns-in_err-sync-clause-settles
returns-in_err-sync-clause-settles g c there told =
    let w = c.in_ok-write_at.ensures.writes there told in
    let bytes = c.args.bytes.now in
    let within = c.requires.within there told in
    let torn : Torn c.args.place (length bytes) (c.args.place + length bytes) there
    (overwritten there c.args.place bytes) =
    torn_by there c.args.place (length bytes) (c.args.place + length bytes) bytes refl
    (omega (arith, within, length-overwritten there c.args.place bytes)) in
    let images = λ (f : List ℕ) (is : g.D.Disk.image c.sync.new.self f). w.images f
    (c.sync.ensures.images f is) in
    record {
      now = w.now;
      told = c.sync.ensures.reads ∙ w.told_now;
      done = ok_at_err _ c.from_residual-in_err-sync.result _ c.from_residual-in_err-sync.ensures.1;
      torn = subst (λ (f : List ℕ). Torn c.args.place (length bytes)
          (c.args.place + length bytes) there f) (sym w.done) torn;
      images = images;
      moments = elapses_on _ (elapses_in _ _ c.write_at.ensures.time w.images)
          (elapses_in _ _ c.sync.ensures.time images);
    }

pub returns-clause-settles : goal.returns-clause-settles
returns-clause-settles g c there told =
    let w = c.in_ok-write_at.ensures.writes there told in
    let bytes = c.args.bytes.now in
    let within = c.requires.within there told in
    let torn : Torn c.args.place (length bytes) (c.args.place + length bytes) there
    (overwritten there c.args.place bytes) =
    torn_by there c.args.place (length bytes) (c.args.place + length bytes) bytes refl
    (omega (arith, within, length-overwritten there c.args.place bytes)) in
    let images = λ (f : List ℕ) (is : g.D.Disk.image c.sync.new.self f). w.images f
    (c.sync.ensures.images f is) in
    record {
      now = w.now;
      told = c.sync.ensures.reads ∙ w.told_now;
      done = (w.done, c.in_ok-sync.ensures.stable w.now w.told_now);
      torn = subst (λ (f : List ℕ). Torn c.args.place (length bytes)
          (c.args.place + length bytes) there f) (sym w.done) torn;
      images = images;
      moments = elapses_on _ (elapses_in _ _ c.write_at.ensures.time w.images)
          (elapses_in _ _ c.sync.ensures.time images);
    }
