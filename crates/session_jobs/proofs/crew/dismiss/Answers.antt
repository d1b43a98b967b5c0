use Rattle.std.proofs.Common.{◌≡◌, ◌+◌, [], ◌∷◌, ◌++◌, List, All, IsSome, Option, Some, true, false, map, subst, sym, ap, ◌∙◌, arith, length}
use Rattle.std.proofs.lemmas.List.{map-append}
use Rattle.std.proofs.lemmas.List.Elements.{All-head, All-tail}
use Rattle.std.specs.Vec.Iter.{into_iter_items, into_iter_len}
use Rattle.book_words.specs.declared.act.Entry.{Entry}
use Rattle.turn_pass.specs.History.{PassState}
use Rattle.session_jobs.specs.declared.job.Job.{Job}
use Rattle.session_jobs.specs.declared.work.Work.{Work}
use Rattle.session_jobs.proofs.MoveLemmas.{moved, all_moved, none_left}
use Rattle.session_jobs.proofs.crew.dismiss.Goals as goal

pub loop-job-preserved-in-Some-seat : goal.loop-job-preserved-in-Some-seat
loop-job-preserved-in-Some-seat g c =
    let J : Type 0 = Job g.row.L.Denot g.row.O.Denot g.row.A.Denot g.row.B.Denot in
    let W : Type 0 = Work g.row.L.Denot g.row.O.Denot in
    let P : Type 0 = PassState Entry in
    let at = c.loop-job in
    let is = at.invariant in
    let job : J = c.in-Some.job in
    let rest : List J = into_iter_items c.next.new.self in
    let left : into_iter_items at.done ≡ job ∷ rest = c.in-Some.ensures.items in
    let works_of : J → W = λ j. j.work in
    let seat_of : J → Option P = λ j. j.seat in
    let some : P → Option P = λ p. Some p in
    let seats : List (Option P) = map some at.ends.items in
    let seated : All (λ (j : J). IsSome j.seat) (job ∷ rest) =
    subst (λ (js : List J). All (λ (j : J). IsSome j.seat) js) left is.seated in
    let gone : into_iter_len c.next.new.self + 1 ≡ into_iter_len at.done = c.in-Some.ensures.len in
    let pushed : map some c.push_reserved-in-Some-seat.new.self.items ≡ seats ++ job.seat ∷ [] =
    ap (map some) c.push_reserved-in-Some-seat.ensures.items
    ∙ (map-append some at.ends.items (c.in-Some-seat.seat ∷ [])
    ∙ ap (λ (s : Option P). seats ++ s ∷ []) (sym c.in-Some-seat.is)) in
    record {
      works = ap (λ (ws : List W). ws ++ map works_of rest) c.push_reserved.ensures.items
          ∙ moved works_of at.works.items (map works_of c.args.jobs.items)
          (into_iter_items at.done) is.works job rest left;
      ends = ap (λ (ss : List (Option P)). ss ++ map seat_of rest) pushed
          ∙ moved seat_of seats (map seat_of c.args.jobs.items) (into_iter_items at.done) is.ends
          job rest left;
      seated = All-tail (λ (j : J). IsSome j.seat) job rest seated;
      left = omega (arith, is.left, gone, ap length left);
      work_count = omega (arith, is.work_count, gone, c.push_reserved.ensures.len);
      end_count = omega (arith, is.end_count, gone, c.push_reserved-in-Some-seat.ensures.len);
      work_room = omega (arith, is.work_room, c.push_reserved.ensures.capacity);
      end_room = omega (arith, is.end_room, c.push_reserved-in-Some-seat.ensures.capacity);
    }

pub loop-job-preserved : goal.loop-job-preserved
loop-job-preserved g c =
    let J : Type 0 = Job g.row.L.Denot g.row.O.Denot g.row.A.Denot g.row.B.Denot in
    let job : J = c.in-Some.job in
    let rest : List J = into_iter_items c.next.new.self in
    let seated : All (λ (j : J). IsSome j.seat) (job ∷ rest) =
    subst (λ (js : List J). All (λ (j : J). IsSome j.seat) js) c.in-Some.ensures.items
    c.loop-job.invariant.seated in
    let some : IsSome job.seat = All-head (λ (j : J). IsSome j.seat) job rest seated in
    absurd (let never : false ≡ true = subst (λ s. IsSome s) c.in_default-seat.is some in cc)

-- nothing is left where no next comes
pub returns-clause-works : goal.returns-clause-works
returns-clause-works g c =
    let at = c.loop-job in
    all_moved (λ j. j.work) at.works.items _ (into_iter_items at.done) at.invariant.works
    (none_left (into_iter_len at.done) (into_iter_items at.done) c.in_default.ensures.variant.1
    at.invariant.left)

pub returns-clause-ends : goal.returns-clause-ends
returns-clause-ends g c =
    let at = c.loop-job in
    all_moved (λ j. j.seat) (map (λ p. Some p) at.ends.items) _ (into_iter_items at.done)
    at.invariant.ends
    (none_left (into_iter_len at.done) (into_iter_items at.done) c.in_default.ensures.variant.1
    at.invariant.left)
