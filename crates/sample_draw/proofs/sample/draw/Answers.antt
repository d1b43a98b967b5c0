use Rattle.std.proofs.Common.{Contains}
use Rattle.std.proofs.lemmas.List.Elements.{All-contains_itself}
use Rattle.sample_draw.proofs.DrawLemmas.{length-drawn, All-drawn, AllPairs-drawn, AllPairs-from_ascending}
use Rattle.sample_draw.proofs.sample.draw.Goals as goal

pub returns-clause-number : goal.returns-clause-number
returns-clause-number c = rw c.in_ok-picks.ensures (length-drawn _ _ _)

pub returns-clause-members : goal.returns-clause-members
returns-clause-members c = rw (c.in_ok-picks.ensures, c.in_ok-remaining.ensures.items)
    (All-drawn (Contains c.args.packs.now) _ c.args.packs.now _ c.requires.enough
    (All-contains_itself c.args.packs.now))

pub returns-clause-distinct : goal.returns-clause-distinct
returns-clause-distinct c = rw (c.in_ok-picks.ensures, c.in_ok-remaining.ensures.items)
    (AllPairs-drawn _ c.args.packs.now _ c.requires.enough
    (AllPairs-from_ascending c.args.packs.now c.requires.ascending))
