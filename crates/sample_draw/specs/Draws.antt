-- How a sample is drawn from a list of packs by a word of 64 bits.
use Rattle.std.specs.Prelude.{ℕ, zero, suc, ◌+◌, ◌*◌, ◌/◌, ◌%◌, ◌^◌, ◌==◌, not, List, [], ◌∷◌, length, filter, slice_index, remove}
use Rattle.std.specs.List.{list_any}

-- The word that follows a word.
abbrev pub next_word : ℕ → ℕ
next_word word = (word * 6364136223846793005 + 1442695040888963407) % 2 ^ 64

-- The place, from 0, that a word points to among so many packs: the word without its low 33 bits,
-- modulo their number.
abbrev pub place_of : ℕ → ℕ → ℕ
place_of word remaining = word / 2 ^ 33 % remaining

-- The packs drawn one after another: each time the next word points to a pack, and the list closes
-- up without it.
unfoldable pub drawn : ℕ → List ℕ → ℕ → List ℕ
drawn word packs zero = []
drawn word packs (suc more) =
    let next = next_word word in
    let place = place_of next (length packs) in
    slice_index packs place ∷ drawn next (remove packs place) more

-- The packs that aren't among those taken, in their order.
abbrev pub packs_left : List ℕ → List ℕ → List ℕ
packs_left packs taken = filter (λ pack. not (list_any (λ each. each == pack) taken)) packs
