use Rattle.std.proofs.Common.{◌≡◌, ◌-◌, sym, subst, ◌∙◌, ap, None, option_map, slice_index_or}
use Rattle.std.specs.List.{slice_get}
use Rattle.batch_sums.specs.Totals.{Terms}
use Rattle.book_packs.specs.Stand.{IsPacksOf, packs_in, terms_of_batch}
use Rattle.book_packs.specs.Settling.{leaving, met_less}
use Rattle.book_packs.specs.Told.{totals_told}
use Rattle.book_packs.proofs.Known.{known_of}
use Rattle.book_packs.proofs.PackTotals.{totals_are, terms_at}
use Rattle.book_packs.proofs.TareRegisters.{lane_at}
use Rattle.book_packs.proofs.MetPopulation.{met_is}
use Rattle.book_packs.proofs.packs.Packs.totals_at.Goals as goal
use Rattle.std.proofs.lemmas.Option.{same_Some}

pub returns : goal.returns
returns c entries name gross is legal known =
    let here = subst (IsPacksOf entries) (sym c.self.view_is) is in
    let weighed = (known_of entries legal).weighed in
    let totals : c.totals-totals.result ≡ totals_told entries name =
    same_Some _ _ (sym c.totals-totals.ensures
    ∙ totals_are entries c.self.inside.sums name c.args.batch here.batches here.packs known
    weighed) in
    let limits : c.limits-limits.result ≡ (terms_of_batch entries name).limits =
    same_Some _ _ (sym c.limits-limits.ensures
    ∙ ap (λ some. option_map (λ (terms : Terms). terms.limits) (slice_get some c.args.batch))
    here.batches ∙ ap (option_map (λ (terms : Terms). terms.limits))
    (terms_at entries name c.args.batch known)) in
    let left : c.leaving-leaving.result ≡ leaving _ c.args.prior (packs_in entries) =
    c.leaving-leaving.ensures ∙ ap
    (λ some. leaving (slice_index_or c.self.inside.unsettled (c.args.lane - 1) None)
    c.args.prior some) here.packs
    ∙ ap (λ o. leaving o c.args.prior (packs_in entries))
    (ap (λ some. slice_index_or some (c.args.lane - 1) None) here.unsettled
    ∙ lane_at entries c.args.lane c.requires.least c.requires.greatest) in
    c.met_less.ensures
    ∙ ap (λ t. met_less t c.limits-limits.result c.args.batch c.leaving-leaving.result) totals
    ∙ ap (λ l. met_less (totals_told entries name) l c.args.batch c.leaving-leaving.result) limits
    ∙ ap (met_less (totals_told entries name) (terms_of_batch entries name).limits c.args.batch) left
    ∙ met_is entries c.args.lane gross c.args.prior name c.args.batch known weighed
