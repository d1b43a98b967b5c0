use Rattle.std.proofs.Common.{◌≡◌, ◌+◌, ◌-◌, ◌<◌, ◌≤◌, inl, inr, length, is_none, Option, Some, Ok, Err, refl, ap, ◌∙◌, subst, arith}
use Rattle.std.proofs.lemmas.Result.{err_from_is_err_and}
use Rattle.book_store.specs.Stores.{entries_of}
use Rattle.book_store.proofs.KeptLemmas.{begins_short}
use Rattle.text_streams.specs.Streams.{input_at}
use Rattle.store_runs.proofs.StoreSteps.{goes_on, goes_as, goes_with, stays, on_unfinished}
use Rattle.standby_hall.specs.declared.types.ShipHead.{ShipHead}
use Rattle.standby_hall.specs.declared.head.TheConstants.{HEAD_BYTES}
use Rattle.standby_hall.specs.Following.{shipment_stop}
use Rattle.standby_hall.specs.Rows.{FindsHead}
use Rattle.standby_hall.proofs.FollowSteps.{stays_behind, head_spares, nothing_found}
use Rattle.standby_hall.proofs.SeveralSteps.{several_begin, several_more, several_end, several_stop, several_head, several_first, several_good}
use Rattle.standby_hall.proofs.following.follow_shipments.Goals as goal

-- ---- the first head

pub returns-in_err-head-clause-explained : goal.returns-in_err-head-clause-explained
returns-in_err-head-clause-explained g c =
    let p = err_from_is_err_and c.from_residual.result c.from_residual.ensures.1 in
    let held = entries_of c.args.store.now in
    rw (p.1, p.2) (several_first c.args.most (input_at g.S.Source c.args.input.now)
    (input_at g.S.Source c.first_head.new.input) held c.in_err-head.field-0.0
    (omega (arith, c.requires.some)) (c.in_err-head.ensures.stops held) c.in_err-head.ensures.inside)

pub returns-in_err-head-clause-goes : goal.returns-in_err-head-clause-goes
returns-in_err-head-clause-goes g c =
    let p = err_from_is_err_and c.from_residual.result c.from_residual.ensures.1 in
    rw (p.1, p.2) (stays_behind g.D.Disk c.in_err-head.field-0.0 c.args.store.now
    c.in_err-head.ensures.spares)

pub loop-earlier-init : goal.loop-earlier-init
loop-earlier-init g c = record {
  stands = record {
    middle = input_at g.S.Source c.args.input.now;
    several = several_begin (input_at g.S.Source c.args.input.now) (entries_of c.args.store.now);
    at_head = c.in_ok-head.ensures.read;
  };
  good = c.in_ok-head.ensures.good;
  unended = c.in_ok-head.ensures.unended;
  goes = stays g.D.Disk (Ok tt) c.args.store.now refl (λ is. absurd (on_unfinished tt is));
  sound = c.requires.sound;
}

-- ---- one that isn't the last that may come

pub returns-in_err-follow_head-clause-explained : goal.returns-in_err-follow_head-clause-explained
returns-in_err-follow_head-clause-explained g c =
    let p = err_from_is_err_and c.from_residual-in_err-follow_head.result
    c.from_residual-in_err-follow_head.ensures.1 in
    let stands = c.loop-earlier.invariant.stands in
    rw (p.1, p.2) (several_stop (input_at g.S.Source c.args.input.now) stands.middle
    (entries_of c.args.store.now) (entries_of c.loop-earlier.store) c.loop-earlier._earlier
    stands.several c.args.most (input_at g.S.Source c.follow_head.new.input)
    (entries_of c.follow_head.new.store) c.in_err-follow_head.field-0.0
    (omega (arith, c.loop-earlier-test.true))
    (c.in_err-follow_head.ensures.stops stands.middle stands.at_head)
    c.in_err-follow_head.ensures.behind (inl c.in_err-follow_head.ensures.inside))

pub returns-in_err-follow_head-clause-goes : goal.returns-in_err-follow_head-clause-goes
returns-in_err-follow_head-clause-goes g c =
    let p = err_from_is_err_and c.from_residual-in_err-follow_head.result
    c.from_residual-in_err-follow_head.ensures.1 in
    let stop = shipment_stop c.in_err-follow_head.field-0.0 in
    rw (p.1, p.2) (goes_as g.D.Disk stop c.args.store.now c.follow_head.new.store
    (goes_on g.D.Disk tt (Err stop) c.args.store.now c.loop-earlier.store c.follow_head.new.store
    c.loop-earlier.invariant.goes c.in_err-follow_head.ensures.goes))

pub returns-in_err-next-clause-explained : goal.returns-in_err-next-clause-explained
returns-in_err-next-clause-explained g c =
    let p = err_from_is_err_and c.from_residual-in_err-next.result
    c.from_residual-in_err-next.ensures.1 in
    let stands = c.loop-earlier.invariant.stands in
    let start = input_at g.S.Source c.args.input.now in
    let now = input_at g.S.Source c.follow_head.new.input in
    let held = entries_of c.args.store.now in
    let between = entries_of c.loop-earlier.store in
    let rows = entries_of c.follow_head.new.store in
    rw (p.1, p.2) (several_head start now held rows (c.loop-earlier._earlier + 1)
    (several_more start stands.middle held between c.loop-earlier._earlier stands.several now rows
    c.loop-earlier.head (c.in_ok-follow_head.ensures.reads stands.middle stands.at_head)
    (begins_short between rows c.in_ok-follow_head.ensures.goes.begins))
    c.args.most (input_at g.S.Source c.next_head.new.input) c.in_err-next.field-0.0
    (omega (arith, c.loop-earlier-test.true)) c.in_err-next.ensures.stops)

pub returns-in_err-next-clause-goes : goal.returns-in_err-next-clause-goes
returns-in_err-next-clause-goes g c =
    let p = err_from_is_err_and c.from_residual-in_err-next.result
    c.from_residual-in_err-next.ensures.1 in
    let stop = c.in_err-next.field-0.0 in
    let spares = head_spares (input_at g.S.Source c.follow_head.new.input)
    (input_at g.S.Source c.next_head.new.input) stop c.in_err-next.ensures.stops in
    rw (p.1, p.2) (goes_on g.D.Disk tt (Err (shipment_stop stop)) c.args.store.now
    c.follow_head.new.store c.follow_head.new.store
    (goes_on g.D.Disk tt (Ok tt) c.args.store.now c.loop-earlier.store c.follow_head.new.store
    c.loop-earlier.invariant.goes c.in_ok-follow_head.ensures.goes)
    (stays_behind g.D.Disk stop c.follow_head.new.store spares))

pub returns-in-None-clause-explained : goal.returns-in-None-clause-explained
returns-in-None-clause-explained g c =
    let stands = c.loop-earlier.invariant.stands in
    let now = input_at g.S.Source c.follow_head.new.input in
    let next = input_at g.S.Source c.next_head.new.input in
    let held = entries_of c.args.store.now in
    let between = entries_of c.loop-earlier.store in
    let rows = entries_of c.follow_head.new.store in
    let grown = begins_short between rows c.in_ok-follow_head.ensures.goes.begins in
    several_good (input_at g.S.Source c.args.input.now) stands.middle held between
    c.loop-earlier._earlier stands.several c.args.most now next rows c.loop-earlier.head HEAD_BYTES
    (c.len.result - c.len-held.result) (omega (arith, c.loop-earlier-test.true))
    (c.in_ok-follow_head.ensures.reads stands.middle stands.at_head)
    (nothing_found now next _ c.in-None.is c.in_ok-next.ensures.found) (omega arith) grown
    (omega (
      arith,
      c.len.ensures,
      c.len-held.ensures,
      grown,
      begins_short held between c.loop-earlier.invariant.goes.begins,
    ))

pub returns-in-None-clause-goes : goal.returns-in-None-clause-goes
returns-in-None-clause-goes g c =
    let goes = goes_on g.D.Disk tt (Ok tt) c.args.store.now c.loop-earlier.store
    c.follow_head.new.store c.loop-earlier.invariant.goes c.in_ok-follow_head.ensures.goes in
    goes_with g.D.Disk tt (Ok (c.len.result - c.len-held.result)) c.args.store.now
    c.follow_head.new.store goes goes.cause (λ is. absurd (on_unfinished _ is))

pub loop-earlier-preserved : goal.loop-earlier-preserved
loop-earlier-preserved g c =
    let stands = c.loop-earlier.invariant.stands in
    let now = input_at g.S.Source c.follow_head.new.input in
    let next = input_at g.S.Source c.next_head.new.input in
    let between = entries_of c.loop-earlier.store in
    let rows = entries_of c.follow_head.new.store in
    let found : FindsHead now next (Some c.in-Some.next) =
    subst (FindsHead now next) c.in-Some.is c.in_ok-next.ensures.found in
    record {
      stands = record {
        middle = now;
        several = several_more (input_at g.S.Source c.args.input.now) stands.middle
            (entries_of c.args.store.now) between c.loop-earlier._earlier stands.several now rows
            c.loop-earlier.head (c.in_ok-follow_head.ensures.reads stands.middle stands.at_head)
            (begins_short between rows c.in_ok-follow_head.ensures.goes.begins);
        at_head = found.0;
      };
      good = found.1;
      unended = c.in_ok-next.ensures.ended
          ∙ ap (λ (o : Option ShipHead). is_none o) c.in-Some.is;
      goes = goes_on g.D.Disk tt (Ok tt) c.args.store.now c.loop-earlier.store
          c.follow_head.new.store c.loop-earlier.invariant.goes c.in_ok-follow_head.ensures.goes;
      sound = c.follow_head.ensures.sound;
    }

-- ---- the last that may come

pub returns-in_err-follow_head-2-clause-explained :
    goal.returns-in_err-follow_head-2-clause-explained
returns-in_err-follow_head-2-clause-explained g c =
    let p = err_from_is_err_and c.from_residual-in_err-follow_head-2.result
    c.from_residual-in_err-follow_head-2.ensures.1 in
    let stands = c.loop-earlier.invariant.stands in
    rw (p.1, p.2) (several_stop (input_at g.S.Source c.args.input.now) stands.middle
    (entries_of c.args.store.now) (entries_of c.loop-earlier.store) c.loop-earlier._earlier
    stands.several c.args.most (input_at g.S.Source c.follow_head-2.new.input)
    (entries_of c.follow_head-2.new.store) c.in_err-follow_head-2.field-0.0
    (omega (arith, c.requires.some, c.loop-earlier.auto._earlier-end))
    (c.in_err-follow_head-2.ensures.stops stands.middle stands.at_head)
    c.in_err-follow_head-2.ensures.behind (inl c.in_err-follow_head-2.ensures.inside))

pub returns-in_err-follow_head-2-clause-goes : goal.returns-in_err-follow_head-2-clause-goes
returns-in_err-follow_head-2-clause-goes g c =
    let p = err_from_is_err_and c.from_residual-in_err-follow_head-2.result
    c.from_residual-in_err-follow_head-2.ensures.1 in
    let stop = shipment_stop c.in_err-follow_head-2.field-0.0 in
    rw (p.1, p.2) (goes_as g.D.Disk stop c.args.store.now c.follow_head-2.new.store
    (goes_on g.D.Disk tt (Err stop) c.args.store.now c.loop-earlier.store c.follow_head-2.new.store
    c.loop-earlier.invariant.goes c.in_err-follow_head-2.ensures.goes))

pub returns-in_err-see_end-clause-explained : goal.returns-in_err-see_end-clause-explained
returns-in_err-see_end-clause-explained g c =
    let p = err_from_is_err_and c.from_residual-in_err-see_end.result
    c.from_residual-in_err-see_end.ensures.1 in
    let stands = c.loop-earlier.invariant.stands in
    let between = entries_of c.loop-earlier.store in
    let rows = entries_of c.follow_head-2.new.store in
    let grown = begins_short between rows c.in_ok-follow_head-2.ensures.goes.begins in
    rw (p.1, p.2) (several_stop (input_at g.S.Source c.args.input.now) stands.middle
    (entries_of c.args.store.now) between c.loop-earlier._earlier stands.several c.args.most
    (input_at g.S.Source c.see_end.new.input) rows c.in_err-see_end.field-0.0
    (omega (arith, c.requires.some, c.loop-earlier.auto._earlier-end))
    (c.in_err-see_end.ensures.explained stands.middle between rows (length rows - length between)
    (c.in_ok-follow_head-2.ensures.reads stands.middle stands.at_head) (omega (arith, grown)))
    c.in_err-see_end.ensures.behind
    (inr (omega (
      arith,
      c.requires.some,
      c.loop-earlier-test.false,
      c.loop-earlier.auto._earlier-end,
    ))))

pub returns-in_err-see_end-clause-goes : goal.returns-in_err-see_end-clause-goes
returns-in_err-see_end-clause-goes g c =
    let p = err_from_is_err_and c.from_residual-in_err-see_end.result
    c.from_residual-in_err-see_end.ensures.1 in
    let stop = c.in_err-see_end.field-0.0 in
    rw (p.1, p.2) (goes_on g.D.Disk tt (Err (shipment_stop stop)) c.args.store.now
    c.follow_head-2.new.store c.follow_head-2.new.store
    (goes_on g.D.Disk tt (Ok tt) c.args.store.now c.loop-earlier.store c.follow_head-2.new.store
    c.loop-earlier.invariant.goes c.in_ok-follow_head-2.ensures.goes)
    (stays_behind g.D.Disk stop c.follow_head-2.new.store c.in_err-see_end.ensures.spares))

pub returns-clause-explained : goal.returns-clause-explained
returns-clause-explained g c =
    let stands = c.loop-earlier.invariant.stands in
    let held = entries_of c.args.store.now in
    let between = entries_of c.loop-earlier.store in
    let rows = entries_of c.follow_head-2.new.store in
    let grown = begins_short between rows c.in_ok-follow_head-2.ensures.goes.begins in
    several_end (input_at g.S.Source c.args.input.now) stands.middle held between
    c.loop-earlier._earlier stands.several c.args.most (input_at g.S.Source c.see_end.new.input) rows
    (length rows - length between) (Ok (c.len-2.result - c.len-held.result))
    (omega (arith, c.requires.some, c.loop-earlier.auto._earlier-end))
    (c.in_ok-see_end.ensures.explained stands.middle between rows (length rows - length between)
    (c.in_ok-follow_head-2.ensures.reads stands.middle stands.at_head) (omega (arith, grown)))
    (λ is. absurd cc)
    (λ all is. absurd cc)
    (omega (
      arith,
      c.len-2.ensures,
      c.len-held.ensures,
      grown,
      begins_short held between c.loop-earlier.invariant.goes.begins,
    ))

pub returns-clause-goes : goal.returns-clause-goes
returns-clause-goes g c =
    let goes = goes_on g.D.Disk tt (Ok tt) c.args.store.now c.loop-earlier.store
    c.follow_head-2.new.store c.loop-earlier.invariant.goes c.in_ok-follow_head-2.ensures.goes in
    goes_with g.D.Disk tt (Ok (c.len-2.result - c.len-held.result)) c.args.store.now
    c.follow_head-2.new.store goes goes.cause (λ is. absurd (on_unfinished _ is))
