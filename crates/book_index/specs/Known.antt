-- What contracts see of the index.
use Rattle.std.specs.Prelude.{ℕ, ℤ, List, map, Option}
use Rattle.book_words.specs.declared.name.Name.{Name}
use Rattle.book_index.specs.declared.types.ProductTerms.{ProductTerms}
use Rattle.book_index.specs.declared.types.BatchTerms.{BatchTerms}

-- the products and the batches with their names, in the order in which they were entered; the
-- number of the batch of each lane, from lane 1 on; the newest day; the number of the newest row of
-- each desk, from the least desk on; and how many products and batches more surely find room
pub record Known : Type 0 where
  pub products : List (Name × ProductTerms)
  pub batches : List (Name × BatchTerms)
  pub lanes : List (Option ℕ)
  pub day : Option ℤ
  pub desks : List (Option ℕ)
  pub spare : ℕ

-- the names of things that are kept with them
abbrev pub names_of : {A : Type 0} → List (Name × A) → List Name
names_of things = map (λ thing. thing.0) things
