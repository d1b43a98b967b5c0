use Rattle.std.proofs.Common.{◌-◌}
use Rattle.sample_draw.specs.Draws.{drawn}
use Rattle.sample_draw.proofs.DrawLemmas.{StandsAt}
use Rattle.sample_draw.proofs.sample.take_packs.Given as goal

-- what was drawn and what is still to be drawn are the whole draw
abbrev pub invariant-loop-turn : goal.invariant-loop-turn
invariant-loop-turn l = StandsAt
    (drawn l.fn.word l.fn.remaining.items l.k) l.picks.items l.word l.remaining.items
    (l.k - l._turn)
