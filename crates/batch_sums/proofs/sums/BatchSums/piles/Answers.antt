use Rattle.std.proofs.Common.{ap, sym, ◌∙◌, arith}
use Rattle.pack_groups.specs.Groups.{faces}
use Rattle.batch_sums.specs.Totals.{Sums}
use Rattle.batch_sums.specs.Asked.{piles_of}
use Rattle.batch_sums.proofs.PileTallies.{told_piles, light_lying}
use Rattle.batch_sums.proofs.sums.BatchSums.piles.Goals as goal

pub tallies-requires : goal.tallies-requires
tallies-requires c =
    let sums = c.self.inside in
    let sound = c.self.invariant.settled.sound in
    λ pile. omega (
      arith,
      light_lying sums.piles sums.packs.items c.self.invariant.tallied
          sound.light sound.few pile,
    )

pub returns : goal.returns
returns c =
    let sums = c.self.inside in
    c.tallies.ensures
    ∙ sym (told_piles sums.piles sums.packs.items c.self.invariant.tallied
    (faces sums.groups.items)) ∙ ap (λ (s : Sums). piles_of s.packs) c.self.view_is
