use Rattle.std.proofs.Common.{◌≡◌, Some, ap, ◌∙◌, subst}
use Rattle.book_words.specs.declared.act.Ask.{Ask as Asked}
use Rattle.book_words.specs.declared.caller.AskError.{AskError}
use Rattle.book_words.specs.declared.caller.AskError.TheVariants as error
use Rattle.store_runs.specs.Books.{Store}
use Rattle.store_runs.specs.Callers.{CallerView, known_of, IsReachedBy}
use Rattle.lane_worker.specs.Endings.{ask_stop}
use Rattle.lane_worker.specs.Works.{IsWork}
use Rattle.store_runs.specs.Books.{stored_book}
use Rattle.store_runs.specs.Runs.{Goes}
use Rattle.script_events.specs.LaneWorks.{lane_state, step_behind, IsWorked}
use Rattle.script_events.proofs.WorkSteps.{Broke, site_with, with_broke, works, goes, calm_on}
use Rattle.script_events.proofs.work.work_lane.Goals as goal

pub returns : goal.returns
returns g c =
    let mid = c.turn.new.self in
    let new = c.run_lane-end.new.caller in
    let was = lane_state g.L.Cell g.L.Gate c.args.lane.now in
    let now = lane_state g.L.Cell g.L.Gate c.run_lane-end.new.lane in
    let end = c.run_lane-end.result in
    let step = c.step_behind-step.result in
    let store = ap (λ (v : CallerView g.row.D.Denot). v.store) c.turn.ensures in
    let calm = ap (λ (v : CallerView g.row.D.Denot). v.faults) c.turn.ensures ∙ c.requires.calm in
    let by = ap (λ (v : CallerView g.row.D.Denot). v.by) c.turn.ensures ∙ c.from.ensures in
    let is : IsWork (IsReachedBy g.D.Disk mid new) (Broke g.D.Disk mid new)
    (site_with (known_of mid) was) (site_with (known_of new) now) c.args.number c.args.batch end =
    with_broke (site_with (known_of mid) was) (site_with (known_of new) now) c.args.number
    c.args.batch end (λ answered next why b. record {
      between = b.between;
      before = b.before;
      later = b.later;
      answer = b.answer;
    }) c.run_lane-end.ensures.works in
    let stops : (next : Asked) (why : AskError) → end.stop ≡ ask_stop why
    → (why ≡ error.DiskFault → new.failed ≡ Some next)
    → step ≡ step_behind c.args.number next why =
    λ next why told failed. c.step_behind-step.ensures.stops next why told
    (λ same. c.failed.ensures ∙ failed same) in
    record {
      works = subst (λ (s : Store g.row.D.Denot). IsWorked (stored_book s) (stored_book new.store)
          was now c.args.number c.args.batch end step) store
          (works g.D.Disk g.met.D.Disk.reads_image g.met.D.Disk.only_now mid new was now
          c.args.number c.args.batch end step calm by is c.step_behind-step.ensures.goes_on stops);
      goes = subst (λ (s : Store g.row.D.Denot). Goes g.D.Disk step s new.store) store
          (goes g.D.Disk g.met.D.Disk.reads_image g.met.D.Disk.only_now mid new was now
          c.args.number c.args.batch end step calm by is c.step_behind-step.ensures.goes_on stops);
      calm = calm_on g.D.Disk g.met.D.Disk.reads_image g.met.D.Disk.only_now mid new was now
          c.args.number c.args.batch end step calm by is c.step_behind-step.ensures.goes_on stops;
    }
