use Rattle.std.proofs.Common.{◌≡◌, Ok, Err, Some, None, inr, sym, ◌∙◌, subst}
use Rattle.command_line.specs.Taken.{seen}
use Rattle.command_line.specs.Words.{Wanted, bytes_of, wanted_of}
use Rattle.hall_alone.specs.Outside.{all_said}
use Rattle.hall_alone.specs.Calls.{Leaves, call_between}
use Rattle.hall_top.specs.Serving.{EndsServe}
use Rattle.hall_alone.proofs.CallEnds.{serve_unopened}
use Rattle.hall_alone.proofs.RequestOrder.{requests_once}
use Rattle.hall_alone.proofs.WordsRead.{both_ways, read_right, same_asked}
use Rattle.hall_top.proofs.top.hall.Goals as goal

pub returns-else-is_serve-clause-words : goal.returns-else-is_serve-clause-words
returns-else-is_serve-clause-words g c =
    let asked = wanted_of (bytes_of c.args.words.now) in
    c.end_answer.ensures.words asked
    (read_right asked (Ok c.in-Ok.wanted) c.in-Ok.ensures.ok tt)

pub returns-in-Err-clause-words : goal.returns-in-Err-clause-words
returns-in-Err-clause-words g c =
    let asked = wanted_of (bytes_of c.args.words.now) in
    c.end_answer-in-Err.ensures.words asked
    (read_right asked (Err c.in-Err.why) tt c.in-Err.ensures.err)

pub returns-in-Err-clause-ends : goal.returns-in-Err-clause-ends
returns-in-Err-clause-ends g c = λ wanted asks other.
    let asked = wanted_of (bytes_of c.args.words.now) in
    c.end_answer-in-Err.ensures.ends asked wanted
    (read_right asked (Err c.in-Err.why) tt c.in-Err.ensures.err) asks

pub returns-in-Err-clause-serves : goal.returns-in-Err-clause-serves
unfolding EndsServe Leaves
returns-in-Err-clause-serves g c = λ wanted asks serves.
    let asked = wanted_of (bytes_of c.args.words.now) in
    let ended = c.end_answer-in-Err.result in
    let leaves = c.end_answer-in-Err.ensures.ends asked wanted
    (read_right asked (Err c.in-Err.why) tt c.in-Err.ensures.err) asks in
    inr (
      serve_unopened g.D.Disk wanted c.args.disk ended
          (call_between g.S.Source g.K.Sink g.L.Cell g.L.Gate c.args.input.now
          c.end_answer-in-Err.new.input c.args.output.now c.end_answer-in-Err.new.output
          c.args.lanes.items ended.lanes.items (all_said ended.lane_ends) ended.rows) serves leaves,
      c.end_answer-in-Err.ensures.doors,
    )

-- what is asked is `serve`: it served
pub returns-then-is_serve-clause-words : goal.returns-then-is_serve-clause-words
returns-then-is_serve-clause-words g c = (
  (λ two. absurd (c.serve.ensures.status.1 two)),
  (λ none. absurd (let clash : None ≡ Some (seen c.in-Ok.wanted) = sym none ∙ c.in-Ok.ensures.ok in
      cc)),
)

pub returns-then-is_serve-clause-usage : goal.returns-then-is_serve-clause-usage
returns-then-is_serve-clause-usage g c = λ two. absurd (c.serve.ensures.status.1 two)

pub returns-then-is_serve-clause-ends : goal.returns-then-is_serve-clause-ends
returns-then-is_serve-clause-ends g c = λ wanted asks other. absurd (both_ways
    (wanted_of (bytes_of c.args.words.now)) (seen c.in-Ok.wanted) wanted c.in-Ok.ensures.ok asks
    (sym c.is_serve.ensures ∙ c.if-is_serve.true) other)

pub returns-then-is_serve-clause-doors : goal.returns-then-is_serve-clause-doors
returns-then-is_serve-clause-doors g c = λ wanted asks other. absurd (both_ways
    (wanted_of (bytes_of c.args.words.now)) (seen c.in-Ok.wanted) wanted c.in-Ok.ensures.ok asks
    (sym c.is_serve.ensures ∙ c.if-is_serve.true) other)

pub returns-then-is_serve-clause-serves : goal.returns-then-is_serve-clause-serves
returns-then-is_serve-clause-serves g c = λ wanted asks serves.
    subst (λ (w : Wanted). EndsServe g.S.Source g.K.Sink g.D.Disk g.L.Cell g.L.Gate g.O.Source
    g.O.Door w.limit c.args.input.now c.serve.new.input c.args.output.now
    c.serve.new.output c.args.disk c.args.lanes c.args.doors c.serve.result)
    (same_asked (wanted_of (bytes_of c.args.words.now)) (seen c.in-Ok.wanted) wanted
    c.in-Ok.ensures.ok asks) c.serve.ensures.serves

pub returns-then-is_serve-clause-status : goal.returns-then-is_serve-clause-status
returns-then-is_serve-clause-status g c = c.serve.ensures.status.0

pub returns-then-is_serve-clause-rows : goal.returns-then-is_serve-clause-rows
returns-then-is_serve-clause-rows g c = c.serve.ensures.rows

pub returns-then-is_serve-clause-requests : goal.returns-then-is_serve-clause-requests
returns-then-is_serve-clause-requests g c = requests_once c.serve.result.rows c.serve.ensures.rows

-- it is another command
pub returns-else-is_serve-clause-usage : goal.returns-else-is_serve-clause-usage
returns-else-is_serve-clause-usage g c = c.end_answer.ensures.usage

pub returns-else-is_serve-clause-ends : goal.returns-else-is_serve-clause-ends
returns-else-is_serve-clause-ends g c = λ wanted asks other.
    let asked = wanted_of (bytes_of c.args.words.now) in
    c.end_answer.ensures.ends asked wanted
    (read_right asked (Ok c.in-Ok.wanted) c.in-Ok.ensures.ok tt) asks

pub returns-else-is_serve-clause-doors : goal.returns-else-is_serve-clause-doors
returns-else-is_serve-clause-doors g c = λ wanted asks other. c.end_answer.ensures.doors

pub returns-else-is_serve-clause-serves : goal.returns-else-is_serve-clause-serves
returns-else-is_serve-clause-serves g c = λ wanted asks serves. absurd (both_ways
    (wanted_of (bytes_of c.args.words.now)) wanted (seen c.in-Ok.wanted) asks c.in-Ok.ensures.ok
    serves (sym c.is_serve.ensures ∙ c.if-is_serve.false))

pub returns-else-is_serve-clause-status : goal.returns-else-is_serve-clause-status
returns-else-is_serve-clause-status g c = c.end_answer.ensures.status

pub returns-else-is_serve-clause-rows : goal.returns-else-is_serve-clause-rows
returns-else-is_serve-clause-rows g c = c.end_answer.ensures.rows

pub returns-else-is_serve-clause-requests : goal.returns-else-is_serve-clause-requests
returns-else-is_serve-clause-requests g c =
    requests_once c.end_answer.result.rows c.end_answer.ensures.rows

-- nothing was read of the words
pub returns-in-Err-clause-usage : goal.returns-in-Err-clause-usage
returns-in-Err-clause-usage g c = c.end_answer-in-Err.ensures.usage

pub returns-in-Err-clause-doors : goal.returns-in-Err-clause-doors
returns-in-Err-clause-doors g c = λ wanted asks other. c.end_answer-in-Err.ensures.doors

pub returns-in-Err-clause-status : goal.returns-in-Err-clause-status
returns-in-Err-clause-status g c = c.end_answer-in-Err.ensures.status

pub returns-in-Err-clause-rows : goal.returns-in-Err-clause-rows
returns-in-Err-clause-rows g c = c.end_answer-in-Err.ensures.rows

pub returns-in-Err-clause-requests : goal.returns-in-Err-clause-requests
returns-in-Err-clause-requests g c =
    requests_once c.end_answer-in-Err.result.rows c.end_answer-in-Err.ensures.rows
