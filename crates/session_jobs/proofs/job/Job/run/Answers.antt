use Rattle.std.proofs.Common.{◌≡◌, ◌∷◌, [], refl, sym, ◌∙◌, subst}
use Rattle.book_words.specs.declared.act.Entry.{Entry}
use Rattle.book_words.specs.Callers.{Known}
use Rattle.shared_book.specs.PassLaws.{is_reached}
use Rattle.shared_book.specs.Passes.{HasNoted, known_of, room_of}
use Rattle.turn_pass.specs.History.{PassState}
use Rattle.session_jobs.specs.Runs.{AnyAsks, BrokeBetween, IsDoneByCaller}
use Rattle.session_jobs.specs.Works.{lane_site, door_site}
use Rattle.session_jobs.proofs.WorkLemmas.{beside, broke_before}
use Rattle.session_jobs.proofs.job.Job.run.Goals as goal

pub returns-in-Some : goal.returns-in-Some
returns-in-Some g c =
    let s = g.N.Session in
    let P : Type 0 = PassState Entry in
    let first : P = c.in-Some.seat in
    let begun : P = c.pass-pass.result in
    let last : P = c.run.new.caller in
    let pass : begun ≡ first = c.pass-pass.ensures in
    let ended : c.end.result ≡ last = c.end.ensures.seat in
    let lane_at = lane_site g.L.Cell g.L.Gate in
    let door_at = door_site g.O.Source g.O.Door in
    let was = c.args.self.now.work in
    let now = c.run.new.self in
    let done : IsDoneByCaller (HasNoted begun.notes last.notes) (room_of s) lane_at door_at
    (known_of s begun) (known_of s last) was now =
    beside _ (HasNoted begun.notes last.notes) _ _ _ (room_of s) lane_at door_at (known_of s begun)
    (known_of s last) (λ asks reached. reached.count)
    (λ answered next why broke.
    let between : P = broke.between in
    broke_before s (HasNoted begun.notes last.notes) begun between last answered next why broke.before
    broke.later broke.answer
    ((is_reached s).by_both begun between last answered (next ∷ []) broke.before broke.later).count)
    (λ was now answered next why broke.
    let one : P = broke.first in
    let other : P = broke.last in
    let between : P = broke.breaks.between in
    subst (λ (k : Known). BrokeBetween (room_of s) k now answered next why) broke.known_first
    (subst (λ (k : Known). BrokeBetween (room_of s) (known_of s one) k answered next why)
    broke.known_last
    (broke_before s AnyAsks one between other answered next why broke.breaks.before
    broke.breaks.later broke.breaks.answer tt)))
    was now c.run.ensures.done in
    record {
      run = record {
        first = first;
        last = c.end.result;
        seat_before = sym c.take.ensures.value ∙ c.in-Some.is;
        seat_behind = refl;
        of_session = c.end.ensures.pass;
        done = subst (λ (p : P). IsDoneByCaller (HasNoted p.notes c.end.result.notes) (room_of s) lane_at
            door_at (known_of s p) (known_of s c.end.result) was now) pass
            (subst (λ (p : P). IsDoneByCaller (HasNoted begun.notes p.notes) (room_of s) lane_at door_at
            (known_of s begun) (known_of s p) was now) (sym ended) done);
      };
    }
