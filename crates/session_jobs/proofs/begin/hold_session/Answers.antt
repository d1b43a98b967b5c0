use Rattle.std.proofs.Common.{List, All, map, refl, sym, ap, ◌∙◌, subst, arith}
use Rattle.std.proofs.lemmas.List.{length-map}
use Rattle.book_words.specs.declared.act.Entry.{Entry}
use Rattle.shared_book.proofs.SessionLemmas.{begins_named}
use Rattle.shared_book.specs.Sessions.{session_of}
use Rattle.turn_pass.specs.History.{BookState}
use Rattle.session_jobs.specs.declared.job.Job.{Job}
use Rattle.session_jobs.specs.Ends.{HasEnded}
use Rattle.session_jobs.specs.Jobs.{IsReady, with_passes}
use Rattle.session_jobs.specs.Works.{number_of, lane_site, door_site}
use Rattle.session_jobs.proofs.RunLemmas.{all_ready, new_seat, session_ends, unbegun_ends}
use Rattle.session_jobs.proofs.begin.hold_session.Goals as goal

pub returns-in_default : goal.returns-in_default
returns-in_default g c = record {
  ends = unbegun_ends g.L.Cell g.L.Gate g.O.Source g.O.Door g.D.Disk c.args.store
      c.args.jobs c.unbegun.result c.requires.sound c.requires.calm c.unbegun.ensures;
}

pub returns-in_default-begin : goal.returns-in_default-begin
returns-in_default-begin g c = record {
  ends = unbegun_ends g.L.Cell g.L.Gate g.O.Source g.O.Door g.D.Disk c.args.store
      c.args.jobs c.unbegun-in_default-begin.result c.requires.sound c.requires.calm
      c.unbegun-in_default-begin.ensures;
}

pub hold-store-requires-clause-begins : goal.hold-store-requires-clause-begins
hold-store-requires-clause-begins g c =
    λ κs _. begins_named g.D.Disk c.in-Ok-begin.turn.table c.args.store c.requires.calm

pub hold-store-requires-clause-turn : goal.hold-store-requires-clause-turn
hold-store-requires-clause-turn g c = λ κs _. record {
  same_table = refl;
  behind = c.in-Ok-begin.ensures.turn ∙ c.len-2.ensures;
}

pub hold-store-requires-clause-seat : goal.hold-store-requires-clause-seat
hold-store-requires-clause-seat g c = λ κs _.
    let session = session_of g.D.Disk c.in-Ok-begin.turn.table c.args.store in
    let seat = c.in-Ok-begin.seat in
    let many = length-map c.args.jobs.items number_of in
    new_seat session g.L.Cell g.L.Gate g.O.Source g.O.Door c.fill-crew.new.seat
    c.in-Ok-begin.turn c.args.rows.parts c.args.faults.parts (map number_of c.args.jobs.items)
    (c.fill-crew.ensures.seat ∙ ap (λ (s : BookState Entry).
    with_passes s (map number_of c.args.jobs.items)) c.in-Ok-begin.ensures.book)
    refl (c.in-Ok-begin.ensures.turn ∙ c.len-2.ensures)
    (let r = c.requires.rows.2 in omega (arith, r, many))
    (let r = c.requires.faults.2 in omega (arith, r, many))

pub hold-store-requires-clause-ready : goal.hold-store-requires-clause-ready
hold-store-requires-clause-ready g c = λ κs _.
    let J : Type 0 = Job g.row.L.Denot g.row.O.Denot g.row.A.Denot g.row.B.Denot in
    let session = session_of g.D.Disk c.in-Ok-begin.turn.table c.args.store in
    let seat = c.in-Ok-begin.seat in
    let book = c.in-Ok-begin.ensures.book in
    subst (λ (js : List J). All (IsReady session) js) (sym c.fill-crew.ensures.jobs)
    (all_ready session g.L.Cell g.L.Gate g.O.Source g.O.Door seat
    (ap (λ (s : BookState Entry). s.table) book)
    (ap (λ (s : BookState Entry). s.history) book ∙ (c.in-Ok-begin.ensures.turn ∙ c.len-2.ensures))
    c.args.jobs.items)

pub returns : goal.returns
returns g c =
    let J : Type 0 = Job g.row.L.Denot g.row.O.Denot g.row.A.Denot g.row.B.Denot in
    let seat = c.in-Ok-begin.seat in
    let last = c.hold-store.result.0 in
    let session = session_of g.D.Disk c.in-Ok-begin.turn.table c.args.store in
    record {
      ends = session_ends g.L.Cell g.L.Gate g.O.Source g.O.Door session g.D.Disk
          c.args.store last
          (begins_named g.D.Disk c.in-Ok-begin.turn.table c.args.store c.requires.calm) seat
          (ap (λ (s : BookState Entry). s.list) c.in-Ok-begin.ensures.book) c.args.jobs
          c.hold-store.result.1 c.hold-store.result.2
          (subst (λ (js : List J). HasEnded g.D.Disk session (lane_site g.L.Cell g.L.Gate)
          (door_site g.O.Source g.O.Door) js last c.hold-store.result.1.items
          c.hold-store.result.2) c.fill-crew.ensures.jobs c.hold-store.ensures.ended);
    }
