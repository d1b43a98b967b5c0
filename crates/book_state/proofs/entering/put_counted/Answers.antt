use Rattle.std.proofs.Common.{rules, FitsSigned, w32, w64, sym, subst, ℤ, to_z, of_z}
use Rattle.std.proofs.lemmas.Int.{to_z-of_z}
use Rattle.book_packs.specs.Entering.{IsTarePut}
use Rattle.book_state.proofs.entering.put_counted.Goals as goal

pub returns-clause-kept : goal.returns-clause-kept
returns-clause-kept g c =
    λ entries entry stands put.
    let day_fits : FitsSigned w32 c.args.dated.now.day = search rules in
    let tare_fits : FitsSigned w64 c.args.dated.now.tare = search rules in
    c.put_tare.ensures.kept entries entry stands
    (subst (λ (day : ℤ). IsTarePut entries entry c.args.number day
    (to_z w64 (of_z w64 c.args.dated.now.tare)))
    (sym (to_z-of_z w32 c.args.dated.now.day day_fits))
    (subst (λ (tare : ℤ). IsTarePut entries entry c.args.number c.args.dated.now.day tare)
    (sym (to_z-of_z w64 c.args.dated.now.tare tare_fits)) put))
