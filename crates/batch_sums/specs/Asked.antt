-- What the asking calls tell of the list of packs.
use Rattle.std.specs.Prelude.{◌≡◌, ℕ, ◌≤◌, Bool, false, List, [], ◌∷◌, ◌++◌, map, filter, take, nat_lt, Contains}
use Rattle.std.specs.Prelude.{Option, Some, None, unwrap_or}
use Rattle.std.specs.List.{slice_get, All}
use Rattle.pack_judge.specs.declared.types.Pile.TheVariants.{Passed, Rejected, Sampled, Voided}
use Rattle.pack_judge.specs.declared.tares.Span.{Span}
use Rattle.batch_sums.specs.declared.types.Pack.{Pack}
use Rattle.pack_groups.specs.declared.types.Piles.{Piles}
use Rattle.batch_sums.specs.Totals.{in_pile, tally, Sums}
use Rattle.batch_sums.specs.Changes.{concerned}

-- the tallies of some packs, a pile each
abbrev pub piles_of : List Pack → Piles
piles_of packs =
    record {
      passed = tally (in_pile Passed packs);
      rejected = tally (in_pile Rejected packs);
      sampled = tally (in_pile Sampled packs);
      voided = tally (in_pile Voided packs);
    }

-- the numbers of some packs
abbrev pub numbers_of : List Pack → List ℕ
numbers_of packs = map (λ pack. pack.number) packs

-- the numbers of some packs above one, at most so many of them
abbrev pub numbers_after : ℕ → ℕ → List Pack → List ℕ
numbers_after after most packs =
    take most (filter (λ number. nat_lt after number) (numbers_of packs))

-- the packs of a product on the days of a span
abbrev pub concerned_in : Sums → ℕ → Span → List Pack
concerned_in sums product span = concerned sums.batches product span sums.packs

-- the batches of some packs, without those that aren't chosen: there is a flag for each batch
abbrev pub chosen_batches : List Bool → List Pack → List ℕ
chosen_batches chosen packs =
    filter (λ batch. unwrap_or (slice_get chosen batch) false) (map (λ pack. pack.batch) packs)

-- the least of some numbers; none where there are none
abbrev pub IsLeast : List ℕ → Option ℕ → Type 0
IsLeast numbers None = numbers ≡ []
IsLeast numbers (Some least) = Contains numbers least × All (λ number. least ≤ number) numbers

-- the least of any numbers whose least one is known, with one number more
abbrev pub IsLeastWith : ℕ → Option ℕ → Option ℕ → Type 0
IsLeastWith number known least =
    (numbers : List ℕ) → IsLeast numbers known → IsLeast (numbers ++ number ∷ []) least
