use Rattle.std.proofs.lemmas.Result.{err_from_is_err_and}
use Rattle.text_streams.specs.Streams.{input_at}
use Rattle.standby_hall.proofs.FollowSteps.{head_stops, head_lacks, head_inside, head_spares}
use Rattle.standby_hall.proofs.following.first_head.Goals as goal

pub returns-in_err-head-clause-stops : goal.returns-in_err-head-clause-stops
returns-in_err-head-clause-stops g c =
    let p = err_from_is_err_and c.from_residual.result c.from_residual.ensures.1 in
    rw (p.1, p.2) (λ held. head_stops held (input_at g.S.Source c.args.input.now)
    (input_at g.S.Source c.next_head.new.input) c.in_err-head.field-0.0
    c.in_err-head.ensures.stops)

pub returns-in_err-head-clause-inside : goal.returns-in_err-head-clause-inside
returns-in_err-head-clause-inside g c =
    let p = err_from_is_err_and c.from_residual.result c.from_residual.ensures.1 in
    rw (p.1, p.2) (head_inside (input_at g.S.Source c.args.input.now)
    (input_at g.S.Source c.next_head.new.input) c.in_err-head.field-0.0
    c.in_err-head.ensures.stops)

pub returns-in_err-head-clause-spares : goal.returns-in_err-head-clause-spares
returns-in_err-head-clause-spares g c =
    let p = err_from_is_err_and c.from_residual.result c.from_residual.ensures.1 in
    rw (p.1, p.2) (head_spares (input_at g.S.Source c.args.input.now)
    (input_at g.S.Source c.next_head.new.input) c.in_err-head.field-0.0
    c.in_err-head.ensures.stops)

pub returns-in-None-clause-stops : goal.returns-in-None-clause-stops
returns-in-None-clause-stops g c = λ held.
    head_lacks held (input_at g.S.Source c.args.input.now)
    (input_at g.S.Source c.next_head.new.input) _ c.in-None.is c.in_ok-head.ensures.found
