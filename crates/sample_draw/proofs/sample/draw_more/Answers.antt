use Rattle.std.proofs.Common.{◌≡◌, ◌∙◌, ap, Contains, refl}
use Rattle.sample_draw.specs.Draws.{drawn, packs_left}
use Rattle.sample_draw.proofs.DrawLemmas.{length-drawn, All-drawn, AllPairs-drawn, AllPairs-from_ascending, packs_left-enough, All-packs_left, Contains-packs_left, AllPairs-packs_left}
use Rattle.sample_draw.proofs.sample.draw_more.Goals as goal

-- the picks are drawn from what the first draw has left
picked : (c : goal.In_ok-picks)
    → c.in_ok-picks.picks ≡ drawn c.args.word
    (packs_left c.args.packs.now c.args.taken.now) c.args.k
picked c = c.in_ok-picks.ensures
    ∙ ap (λ left. drawn c.args.word left c.args.k)
    (c.in_ok-remaining.ensures ∙ ap (packs_left c.args.packs.now) c.as_slice.ensures)

pub take_packs-requires : goal.take_packs-requires
take_packs-requires c =
    packs_left-enough c.args.packs.now c.args.taken.now _ _ c.requires.ascending c.requires.enough
    (c.in_ok-remaining.ensures ∙ ap (packs_left c.args.packs.now) c.as_slice.ensures)

pub returns-clause-number : goal.returns-clause-number
returns-clause-number c = rw c.in_ok-picks.ensures (length-drawn _ _ _)

pub returns-clause-members : goal.returns-clause-members
returns-clause-members c =
    rw (picked c) (All-drawn (Contains c.args.packs.now) _
    (packs_left c.args.packs.now c.args.taken.now) _
    (packs_left-enough c.args.packs.now c.args.taken.now _ _ c.requires.ascending c.requires.enough refl)
    (Contains-packs_left c.args.packs.now c.args.taken.now))

pub returns-clause-distinct : goal.returns-clause-distinct
returns-clause-distinct c =
    rw (picked c) (AllPairs-drawn _ (packs_left c.args.packs.now c.args.taken.now) _
    (packs_left-enough c.args.packs.now c.args.taken.now _ _ c.requires.ascending c.requires.enough refl)
    (AllPairs-packs_left c.args.packs.now c.args.taken.now
    (AllPairs-from_ascending c.args.packs.now c.requires.ascending)))

pub returns-clause-fresh : goal.returns-clause-fresh
returns-clause-fresh c =
    rw (picked c) (All-drawn (λ pack. ¬ Contains c.args.taken.now pack) _
    (packs_left c.args.packs.now c.args.taken.now) _
    (packs_left-enough c.args.packs.now c.args.taken.now _ _ c.requires.ascending c.requires.enough refl)
    (All-packs_left c.args.packs.now c.args.taken.now))
