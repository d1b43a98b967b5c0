use Rattle.pack_judge.specs.declared.types.Pile.TheVariants.{Passed, Rejected, Sampled, Voided}
use Rattle.pack_groups.proofs.batch.PileSums.tallies.Goals as goal

pub tally_of-requires : goal.tally_of-requires
tally_of-requires c = c.requires Passed

pub tally_of-requires-2 : goal.tally_of-requires-2
tally_of-requires-2 c = c.requires Rejected

pub tally_of-requires-3 : goal.tally_of-requires-3
tally_of-requires-3 c = c.requires Sampled

pub tally_of-requires-4 : goal.tally_of-requires-4
tally_of-requires-4 c = c.requires Voided
