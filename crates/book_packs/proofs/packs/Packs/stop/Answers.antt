use Rattle.std.proofs.Common.{refl, sym, subst}
use Rattle.book_packs.specs.Stand.{IsPacksOf}
use Rattle.book_packs.proofs.LaneActs.{stop-push}
use Rattle.book_packs.proofs.packs.Packs.stop.Goals as goal

pub returns-clause-kept : goal.returns-clause-kept
returns-clause-kept c entries entry stands is =
    stop-push entries entry c.args.lane c.args.prior _ _ is
    (subst (IsPacksOf entries) (sym c.self.view_is) stands) refl c.settle.ensures.batches
    c.settle.ensures.packs refl
