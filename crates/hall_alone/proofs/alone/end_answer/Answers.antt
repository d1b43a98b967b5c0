use Rattle.std.proofs.Common.{List, [], refl, sym, ap, ◌∙◌, subst}
use Rattle.std.proofs.lemmas.List.{with_items_is}
use Rattle.book_words.specs.Soundness.{IsSound}
use Rattle.script_run.specs.Outside.{all_said}
use Rattle.hall_alone.specs.declared.ended.Ended.{Ended}
use Rattle.hall_alone.specs.Calls.{EndsAs, IsUsage, Leaves, LeavesOutcome, call_between}
use Rattle.text_streams.specs.Streams.{output_at}
use Rattle.call_endings.proofs.EndingLemmas.{status_named, status_two, usage_two}
use Rattle.hall_alone.proofs.alone.end_answer.Goals as goal

pub returns-clause-words : goal.returns-clause-words
returns-clause-words g c = λ asked read.
    let outcome = c.do_answer-outcome.result in
    let said = output_at g.K.Sink c.do_answer-outcome.new.output in
    let now = output_at g.K.Sink c.end_call.new.output in
    let words = c.do_answer-outcome.ensures.words asked read in (
      (λ two. words.0 (status_two outcome.ending outcome.log.told [] said now
          c.end_call.result.status c.end_call.ensures.last two)),
      (λ none. usage_two outcome.ending outcome.log.told [] said now c.end_call.result.status
          c.end_call.ensures.last (words.1 none)),
    )

pub returns-clause-usage : goal.returns-clause-usage
unfolding Leaves
returns-clause-usage g c = λ two.
    let outcome = c.do_answer-outcome.result in
    let said = output_at g.K.Sink c.do_answer-outcome.new.output in
    let now = output_at g.K.Sink c.end_call.new.output in
    let left = with_items_is c.args.lanes c.do_answer-outcome.new.lanes
    (c.do_answer-outcome.auto.lanes ∙ c.deref_mut.ensures.len) in
    subst (λ (e : Ended _ _ _). LeavesOutcome (IsUsage c.args.disk) e (call_between
    g.S.Source g.K.Sink g.L.Cell g.L.Gate c.args.input.now c.do_answer-outcome.new.input
    c.args.output.now c.end_call.new.output c.args.lanes.items e.lanes.items
    (all_said e.lane_ends) e.rows)) (sym c.end_call.ensures.ended)
    (record {
      outcome = outcome;
      said = said;
      disk_left = refl;
      held = refl;
      rows = refl;
      ends = refl;
      no_doors = refl;
      holds = subst (λ (ls : List _). IsUsage c.args.disk outcome (call_between
          g.S.Source g.K.Sink g.L.Cell g.L.Gate c.args.input.now c.do_answer-outcome.new.input
          c.args.output.now c.do_answer-outcome.new.output c.args.lanes.items ls
          outcome.log.told outcome.rows)) (sym left)
          (subst (λ (ls : List _). IsUsage c.args.disk outcome (call_between
          g.S.Source g.K.Sink g.L.Cell g.L.Gate c.args.input.now c.do_answer-outcome.new.input
          c.args.output.now c.do_answer-outcome.new.output ls c.do_answer-outcome.new.lanes
          outcome.log.told outcome.rows))
          c.deref_mut.ensures.value (c.do_answer-outcome.ensures.usage
          (status_two outcome.ending outcome.log.told [] said now
          c.end_call.result.status c.end_call.ensures.last two)));
      last = c.end_call.ensures.last;
    })

pub returns-clause-ends : goal.returns-clause-ends
unfolding Leaves
returns-clause-ends g c = λ asked wanted read asks.
    let outcome = c.do_answer-outcome.result in
    let left = with_items_is c.args.lanes c.do_answer-outcome.new.lanes
    (c.do_answer-outcome.auto.lanes ∙ c.deref_mut.ensures.len) in
    subst (λ (e : Ended _ _ _). LeavesOutcome (EndsAs g.D.Disk wanted c.args.disk) e
    (call_between g.S.Source g.K.Sink g.L.Cell g.L.Gate c.args.input.now
    c.do_answer-outcome.new.input c.args.output.now c.end_call.new.output c.args.lanes.items
    e.lanes.items (all_said e.lane_ends) e.rows)) (sym c.end_call.ensures.ended)
    (record {
      outcome = outcome;
      said = output_at g.K.Sink c.do_answer-outcome.new.output;
      disk_left = refl;
      held = refl;
      rows = refl;
      ends = refl;
      no_doors = refl;
      holds = subst (λ (ls : List _). EndsAs g.D.Disk wanted c.args.disk outcome (call_between
          g.S.Source g.K.Sink g.L.Cell g.L.Gate c.args.input.now c.do_answer-outcome.new.input
          c.args.output.now c.do_answer-outcome.new.output c.args.lanes.items ls
          outcome.log.told outcome.rows)) (sym left)
          (subst (λ (ls : List _). EndsAs g.D.Disk wanted c.args.disk outcome (call_between
          g.S.Source g.K.Sink g.L.Cell g.L.Gate c.args.input.now c.do_answer-outcome.new.input
          c.args.output.now c.do_answer-outcome.new.output ls c.do_answer-outcome.new.lanes
          outcome.log.told outcome.rows))
          c.deref_mut.ensures.value (c.do_answer-outcome.ensures.ends asked wanted read asks));
      last = c.end_call.ensures.last;
    })

pub returns-clause-doors : goal.returns-clause-doors
returns-clause-doors g c = ap (λ (e : Ended _ _ _). e.doors) c.end_call.ensures.ended

pub returns-clause-status : goal.returns-clause-status
returns-clause-status g c =
    status_named c.do_answer-outcome.result.ending c.do_answer-outcome.result.log.told []
    (output_at g.K.Sink c.do_answer-outcome.new.output) (output_at g.K.Sink c.end_call.new.output)
    c.end_call.result.status c.end_call.ensures.last

pub returns-clause-rows : goal.returns-clause-rows
returns-clause-rows g c =
    subst (λ (e : Ended _ _ _). IsSound e.rows) (sym c.end_call.ensures.ended)
    c.do_answer-outcome.ensures.rows
