use Rattle.std.proofs.Common.{refl, sym, subst}
use Rattle.book_packs.specs.Stand.{IsPacksOf}
use Rattle.book_packs.proofs.Quiet.{opening-push}
use Rattle.book_packs.proofs.packs.Packs.open_batch.Goals as goal

pub returns-clause-kept : goal.returns-clause-kept
returns-clause-kept c entries entry stands is =
    opening-push entries entry c.args.product c.args.limits.now _ _ is
    (subst (IsPacksOf entries) (sym c.self.view_is) stands) refl c.in-Ok.ensures.ok.1
    c.add_batch-added.ensures.packs refl
