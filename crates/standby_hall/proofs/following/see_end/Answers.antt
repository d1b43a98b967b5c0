use Rattle.std.proofs.Common.{rules, ◌≡◌, ◌≤◌, length, take, arith}
use Rattle.std.proofs.lemmas.List.{length-take}
use Rattle.text_streams.specs.Streams.{input_at}
use Rattle.standby_hall.proofs.FollowSteps.{at_end_of, at_extra, end_fails}
use Rattle.standby_hall.proofs.following.see_end.Goals as goal

pub returns-in-Ok-eq0-clause-explained : goal.returns-in-Ok-eq0-clause-explained
returns-in-Ok-eq0-clause-explained g c = λ start held rows adopted all added.
    let none : c.in-Ok-eq0.field-0 ≡ 0 = search rules in
    at_end_of start (input_at g.S.Source c.args.input.now) (input_at g.S.Source c.fill.new.input) held
    rows c.args.head.now all adopted 1 (take c.in-Ok-eq0.field-0 c.fill.new.into) added
    c.in-Ok-eq0.ensures.taken (omega arith)
    (omega (arith, none, length-take c.in-Ok-eq0.field-0 c.fill.new.into))

pub returns-in-Ok-clause-explained : goal.returns-in-Ok-clause-explained
returns-in-Ok-clause-explained g c = λ start held rows adopted all added.
    let some : 1 ≤ c.in-Ok.field-0 = search rules in
    let long : length c.fill.new.into ≡ 1 = search rules in
    at_extra start (input_at g.S.Source c.args.input.now) (input_at g.S.Source c.fill.new.input) held
    rows c.args.head.now all (take c.in-Ok.field-0 c.fill.new.into) c.in-Ok.ensures.taken.read
    (omega (arith, some, long, length-take c.in-Ok.field-0 c.fill.new.into))
    c.in-Ok.ensures.taken.calm

pub returns-in-Err-clause-explained : goal.returns-in-Err-clause-explained
returns-in-Err-clause-explained g c = λ start held rows adopted all added.
    end_fails start (input_at g.S.Source c.args.input.now) (input_at g.S.Source c.fill.new.input) held
    rows c.args.head.now all c.in-Err.ensures.failed
