use Rattle.std.proofs.Common.{refl, sym, subst}
use Rattle.book_packs.specs.Stand.{IsPacksOf}
use Rattle.book_packs.proofs.DrawSteps.{draw-push, picks_fit}
use Rattle.book_packs.proofs.packs.Packs.draw.Goals as goal

pub sample-requires : goal.sample-requires
sample-requires c =
    let next = c.requires.next in
    picks_fit next.entries next.entry c.args.batch c.args.picks.now next.is

pub returns-clause-kept : goal.returns-clause-kept
returns-clause-kept c entries entry stands is =
    draw-push entries entry c.args.batch c.args.picks.now is _ _
    (subst (IsPacksOf entries) (sym c.self.view_is) stands) refl c.sample.ensures.batches
    c.sample.ensures.packs refl
