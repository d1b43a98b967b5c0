use Rattle.std.proofs.Common.{refl, sym, subst, ap, ◌∙◌}
use Rattle.batch_sums.specs.Changes.{is_added}
use Rattle.book_packs.specs.Stand.{Standing, IsPacksOf}
use Rattle.book_packs.proofs.LaneActs.{void_added, void-push}
use Rattle.book_packs.proofs.packs.Packs.void.Goals as goal

pub shift-requires : goal.shift-requires
shift-requires c =
    let next = c.requires.next in
    ap (λ some. is_added some c.args.pack)
    (ap (λ (s : Standing). s.packs) c.self.view_is ∙ next.stands.packs)
    ∙ void_added next.entries next.entry c.args.pack next.is

pub returns-clause-kept : goal.returns-clause-kept
returns-clause-kept c entries entry stands is =
    void-push entries entry c.args.pack _ _ is
    (subst (IsPacksOf entries) (sym c.self.view_is) stands) refl c.shift.ensures.batches
    c.shift.ensures.packs refl
