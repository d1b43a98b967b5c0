-- A list with one item changed.
use Rattle.std.specs.Prelude.{ℕ, zero, suc, List, [], ◌∷◌, Option, Some, option_map}
use Rattle.book_words.specs.Samples.{Sample}

-- the items of a list, that at a place changed; a list without the place stays
abbrev pub change_at : {A : Type 0} → (A → A) → ℕ → List A → List A
change_at change place [] = []
change_at change zero (x ∷ xs) = change x ∷ xs
change_at change (suc place) (x ∷ xs) = x ∷ change_at change place xs

-- a first sample comes to stand with these packs as its second
abbrev pub with_second : List ℕ → Option Sample → Option Sample
with_second picks sample =
    option_map {T = Sample} (λ first. record first { second = Some picks }) sample
