use Rattle.std.proofs.Common.{◌≡◌, ◌++◌, ◌∷◌, List, map, subst, sym, All, ◌≢◌, ℕ}
use Rattle.std.specs.Vec.Iter.{into_iter_items}
use Rattle.session_jobs.specs.declared.work.Work.{Work}
use Rattle.session_jobs.specs.Works.{number_of}
use Rattle.session_jobs.proofs.MoveLemmas.{numbers_before}
use Rattle.session_jobs.proofs.crew.employ.Goals as goal

pub pass-pass-requires-clause-new : goal.pass-pass-requires-clause-new
pass-pass-requires-clause-new g c =
    let W : Type 0 = Work g.row.L.Denot g.row.O.Denot in
    let bys : List ℕ = c.loop-work.seat.bys in
    let rest : List W = into_iter_items c.next.new.self in
    let parts : bys ++ map number_of (c.in-Some.work ∷ rest) ≡ map number_of c.args.works.items =
    subst (λ (ws : List W). bys ++ map number_of ws ≡ map number_of c.args.works.items)
    c.in-Some.ensures.items c.loop-work.invariant.bys in
    subst (λ (n : ℕ). All (λ b. b ≢ n) bys) (sym c.number.ensures)
    (numbers_before number_of c.args.works.items bys c.in-Some.work rest c.requires.apart parts)
