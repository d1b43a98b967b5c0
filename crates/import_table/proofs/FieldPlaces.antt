-- The fields of a record by their places.
use Rattle.std.proofs.Common.{◌≡◌, ◌≢◌, ℕ, zero, suc, ◌<◌, List, [], ◌∷◌, length, Some, None, arith}
use Rattle.csv.specs.Records.{field_at}

-- a record has each of its fields
pub field_there : (fields : List (List ℕ)) (place : ℕ) → place < length fields
    → field_at fields place ≢ None
unfolding field_at
field_there [] place inside absent = absurd (omega arith)
field_there (field ∷ fields) zero inside absent = cc absent
field_there (field ∷ fields) (suc place) inside absent =
    field_there fields place (omega arith) absent

-- three fields are the record
pub three_are : (fields : List (List ℕ)) (a b c : List ℕ) → length fields ≡ 3
    → field_at fields 0 ≡ Some a → field_at fields 1 ≡ Some b → field_at fields 2 ≡ Some c
    → fields ≡ a ∷ b ∷ c ∷ []
unfolding field_at
three_are [] a b c three first second third = absurd (omega arith)
three_are (x ∷ []) a b c three first second third = absurd (omega arith)
three_are (x ∷ y ∷ []) a b c three first second third = absurd (omega arith)
three_are (x ∷ y ∷ z ∷ []) a b c three first second third = cc (first, second, third)
three_are (x ∷ y ∷ z ∷ w ∷ rest) a b c three first second third = absurd (omega arith)
