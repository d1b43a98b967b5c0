use Rattle.std.proofs.Common.{◌≡◌, ◌∙◌, length, rules, arith}
use Rattle.sample_draw.proofs.DrawLemmas.{StandsAt-more, StandsAt-end}
use Rattle.sample_draw.proofs.sample.take_packs.Goals as goal

pub loop-turn-preserved : goal.loop-turn-preserved
loop-turn-preserved c =
    let count : c.len.result ≡ length c.loop-turn.remaining.items = search rules in
    StandsAt-more _ _ _ _ _ _ _ _ _ _ _ c.loop-turn.invariant c.loop-turn-test.true
    c.following-word.ensures
    (rw count at c.place_in-place.ensures.value) (rw count at c.place_in-place.ensures.within)
    c.remove.ensures.value c.remove.ensures.items c.in_ok-push.ensures.items

pub returns : goal.returns
returns c = c.from.ensures ∙ StandsAt-end _ _ _ _ _ c.loop-turn.invariant (omega arith)
