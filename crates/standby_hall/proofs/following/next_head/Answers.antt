use Rattle.std.proofs.Common.{rules, ◌≡◌, ◌<◌, ◌≤◌, List, [], ℕ, length, take, subst, sym, ap, arith}
use Rattle.std.specs.Io.KnownBytes.{Consumes}
use Rattle.std.proofs.lemmas.List.{length-take, take_all, nil_from_length}
use Rattle.text_streams.specs.Streams.{input_at}
use Rattle.standby_hall.specs.declared.head.TheConstants.{HEAD_BYTES}
use Rattle.standby_hall.specs.Rows.{TakesUpTo}
use Rattle.standby_hall.proofs.FollowSteps.{head_cut, head_none}
use Rattle.standby_hall.proofs.following.next_head.Goals as goal

pub returns-then-count-eq0-clause-found : goal.returns-then-count-eq0-clause-found
returns-then-count-eq0-clause-found g c =
    let none : take c.in-Ok.count c.fill.new.into ≡ [] =
    nil_from_length (take c.in-Ok.count c.fill.new.into)
    (omega (arith, length-take c.in-Ok.count c.fill.new.into, c.if-count-eq0.true)) in
    subst (TakesUpTo (input_at g.S.Source c.args.input.now) (input_at g.S.Source c.fill.new.input)
    HEAD_BYTES) none c.in-Ok.ensures.taken

pub returns-then-count-lt-HEAD_BYTES-clause-stops : goal.returns-then-count-lt-HEAD_BYTES-clause-stops
returns-then-count-lt-HEAD_BYTES-clause-stops g c =
    head_cut (input_at g.S.Source c.args.input.now) (input_at g.S.Source c.fill.new.input)
    (take c.in-Ok.count c.fill.new.into) c.in-Ok.ensures.taken
    (omega (arith, length-take c.in-Ok.count c.fill.new.into, c.if-count-lt-HEAD_BYTES.true))
    (omega (arith, length-take c.in-Ok.count c.fill.new.into, c.in-Ok.ensures.bound, c.if-count-eq0.false))

pub returns-in-None-clause-stops : goal.returns-in-None-clause-stops
returns-in-None-clause-stops g c =
    let before = input_at g.S.Source c.args.input.now in
    let now = input_at g.S.Source c.fill.new.input in
    let bytes = c.fill.new.into in
    let long : length bytes ≡ HEAD_BYTES = search rules in
    let whole : take c.in-Ok.count bytes ≡ bytes =
    take_all c.in-Ok.count bytes (omega (arith, long, c.if-count-lt-HEAD_BYTES.false)) in
    head_none before now bytes
    (subst (Consumes before.bytes now.bytes) whole c.in-Ok.ensures.taken.read)
    c.in-Ok.ensures.taken.calm long
    (λ head good is. absurd (cc (c.in-None.ensures.back head good is, c.in-None.is)))
