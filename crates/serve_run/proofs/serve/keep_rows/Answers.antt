use Rattle.std.proofs.Common.{◌≡◌, inl, ℕ, sym, ap, ◌∙◌, subst, arith, length}
use Rattle.book_core.specs.View.{BookView}
use Rattle.book_store.specs.Stores.{disk_of, entries_of, held_of}
use Rattle.book_store.proofs.StoreFacts.{images_hold}
use Rattle.session_jobs.proofs.SessionLemmas.{run_rested}
use Rattle.serve_run.specs.Plans.{CountsRest}
use Rattle.serve_run.proofs.RunLemmas.{unfinished, unkept_count, unkept_rests, unless_kept}
use Rattle.serve_run.proofs.serve.keep_rows.Goals as goal

pub returns-in-Ok : goal.returns-in-Ok
returns-in-Ok g c =
    let disk = g.D.Disk in
    let old = c.args.store.now in
    let new = c.keep_snapshot.new.store in
    let r = c.keep_snapshot.ensures in
    let same = ap (λ (b : BookView). b.entries) r.book in
    let cause = c.in-Ok.ensures.goes.cause in
    record {
      kept = record {
        same = same;
        limit = ap (λ (b : BookView). b.limit) r.book;
        sound = r.sound;
        counts = (cause, omega (arith, c.if-faults-gt0.false), c.if-lack.false);
        kept = λ held start run. run_rested disk held start old new r.book r.keeps
            (images_hold disk g.met.D.Disk.reads_image g.met.D.Disk.only_now new) (inl cause) run;
        snapshot = λ finished calm grown. c.in-Ok.ensures.snapshot
            (omega (arith, grown, ap length same, r.goes.held))
            (λ hangs. calm (c.in-Ok.ensures.goes.calm tt hangs));
        untouched = unless_kept c.args.faults c.args.lack
            (omega (arith, c.if-faults-gt0.false)) c.if-lack.false r.idle;
      };
    }

pub returns-in-Err : goal.returns-in-Err
returns-in-Err g c =
    let disk = g.D.Disk in
    let old = c.args.store.now in
    let new = c.keep_snapshot.new.store in
    let before = disk.faults (disk_of old) in
    let now = disk.faults (disk_of new) in
    let r = c.keep_snapshot.ensures in
    let stop = c.in-Err.stop in
    let fails = c.in-Err.ensures.stops in
    let cause = c.in-Err.ensures.goes.cause in
    let none : c.args.faults ≡ 0 = omega (arith, c.if-faults-gt0.false) in
    record {
      kept = record {
        same = ap (λ (b : BookView). b.entries) r.book;
        limit = ap (λ (b : BookView). b.limit) r.book;
        sound = r.sound;
        counts = subst (CountsRest before now c.args.faults c.args.lack) (sym c.unkept.ensures)
            (unkept_rests (held_of old) (entries_of old) before now c.args.faults c.args.lack stop
            fails cause none);
        kept = λ held start run. run_rested disk held start old new r.book r.keeps
            (images_hold disk g.met.D.Disk.reads_image g.met.D.Disk.only_now new)
            (unkept_count (held_of old) (entries_of old) before now stop fails cause) run;
        snapshot = λ finished. absurd (unfinished stop (sym c.unkept.ensures ∙ finished));
        untouched = unless_kept c.args.faults c.args.lack none c.if-lack.false r.idle;
      };
    }
