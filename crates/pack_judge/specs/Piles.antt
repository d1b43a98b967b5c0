-- Packs in piles: those that lie in one, the sum of their masses, and how many they are. What a
-- pack is is left open: a function tells its pile, and one its mass.
use Rattle.std.specs.Prelude.{ℤ, pos, ◌+ℤ◌, Bool, true, false, List, [], ◌∷◌, length, filter}
use Rattle.pack_judge.specs.declared.types.Pile.{Pile}
use Rattle.pack_judge.specs.declared.types.Pile.TheVariants.{Passed, Rejected, Sampled, Voided}
use Rattle.pack_judge.specs.declared.types.Tally.{Tally}

-- whether two piles are the same
abbrev pub same_pile : Pile → Pile → Bool
same_pile Passed Passed = true
same_pile Rejected Rejected = true
same_pile Sampled Sampled = true
same_pile Voided Voided = true
same_pile _ _ = false

-- those of some packs that lie in a pile
abbrev pub pile_members : {T : Type 0} → (T → Pile) → Pile → List T → List T
pile_members pile_of pile packs = filter (λ pack. same_pile (pile_of pack) pile) packs

-- the sum of the masses of some packs
abbrev pub mass_sum : {T : Type 0} → (T → ℤ) → List T → ℤ
mass_sum mass_of [] = pos 0
mass_sum mass_of (pack ∷ packs) = mass_of pack +ℤ mass_sum mass_of packs

-- how many packs there are, and the sum of their masses
abbrev pub pile_tally : {T : Type 0} → (T → ℤ) → List T → Tally
pile_tally mass_of packs = record { count = length packs; gross = mass_sum mass_of packs }
