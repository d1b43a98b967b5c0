-- Which packs count for the population.
use Rattle.std.specs.Prelude.{Bool, true, false}
use Rattle.pack_judge.specs.declared.types.Pile.{Pile}
use Rattle.pack_judge.specs.declared.types.Pile.TheVariants.{Passed, Sampled}

-- a pack counts for the population where it passed or was sampled
abbrev pub is_counted : Pile → Bool
is_counted Passed = true
is_counted Sampled = true
is_counted _ = false
