use Rattle.std.proofs.Common.{◌+◌, ◌<◌, length, Err, sym, subst, arith}
use Rattle.book_store.specs.Stores.{entries_of}
use Rattle.text_streams.specs.Streams.{input_at}
use Rattle.standby_hall.specs.declared.types.FollowStop.TheVariants.{Gap}
use Rattle.standby_hall.specs.Following.{ExplainsFollow}
use Rattle.standby_hall.proofs.FollowSteps.{at_gap}
use Rattle.standby_hall.proofs.following.follow_head.Goals as goal

pub returns-then-held-head-clause-stops : goal.returns-then-held-head-clause-stops
returns-then-held-head-clause-stops g c = λ start read.
    let held = entries_of c.args.store.now in
    let now = input_at g.S.Source c.args.input.now in
    subst (λ n. ExplainsFollow held start now held (Err (Gap (n + 1)))) (sym c.len-held.ensures)
    (at_gap held start now c.args.head.now c.requires.good read
    (omega (arith, c.len-held.ensures, c.if-held-head.true)))
