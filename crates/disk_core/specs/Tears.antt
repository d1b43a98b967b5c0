-- What a write leaves outside of its range.
use Rattle.std.proofs.Common.{◌≡◌, inl, inr, ℕ, ◌+◌, ◌-◌, ◌<◌, ◌≤◌, min, max, List, ◌++◌, length, get_or, take, drop, refl, ◌∙◌, ap, arith, length-append, length-take, length-drop}
use Rattle.std.proofs.lemmas.List.{get_or_append_left, get_or-append_right, get_or-take, get_or-drop}
use Rattle.disk_core.specs.Disk.{overwritten, Torn}

pub length-overwritten : (old : List ℕ) (place : ℕ) (bytes : List ℕ)
    → length (overwritten old place bytes)
    ≡ min place (length old) + length bytes + (length old - (place + length bytes))
length-overwritten old place bytes =
    length-append (take place old ++ bytes) (drop (place + length bytes) old)
    ∙ ap (λ n. n + length (drop (place + length bytes) old)) (length-append (take place old) bytes)
    ∙ ap (λ n. length (take place old) + length bytes + n) (length-drop (place + length bytes) old)
    ∙ ap (λ n. n + length bytes + (length old - (place + length bytes))) (length-take place old)

before : (old : List ℕ) (place : ℕ) (bytes : List ℕ) (k : ℕ) → k < length old → k < place
    → get_or (overwritten old place bytes) k 0 ≡ get_or old k 0
before old place bytes k inside below =
    let long : k < length (take place old) = omega (arith, length-take place old) in
    let longer : k < length (take place old ++ bytes) =
    omega (arith, length-append (take place old) bytes) in
    get_or_append_left (take place old ++ bytes) (drop (place + length bytes) old) 0 k longer
    ∙ get_or_append_left (take place old) bytes 0 k long
    ∙ get_or-take place old k 0 below

after : (old : List ℕ) (place : ℕ) (bytes : List ℕ) (k : ℕ)
    → k < length old → place + length bytes ≤ k
    → get_or (overwritten old place bytes) k 0 ≡ get_or old k 0
after old place bytes k inside above =
    let size : length (take place old ++ bytes) ≡ place + length bytes =
    omega (arith, length-append (take place old) bytes, length-take place old) in
    get_or-append_right (take place old ++ bytes) (drop (place + length bytes) old)
    (place + length bytes) k 0 size above
    ∙ get_or-drop (place + length bytes) old (k - (place + length bytes)) 0
    ∙ ap (λ i. get_or old i 0) (omega arith)

-- a write that was done is one that was not cut short
pub torn_by : (old : List ℕ) (place count most : ℕ) (bytes : List ℕ) → length bytes ≡ count
    → length (overwritten old place bytes) ≤ max (length old) most
    → Torn place count most old (overwritten old place bytes)
torn_by old place count most bytes counts short = record {
  outside = λ k inside where_k. elim where_k [
    | inl below ↦ before old place bytes k inside below
    | inr above ↦ after old place bytes k inside (omega (arith, counts, above))
  ];
  no_shorter = omega (arith, length-overwritten old place bytes);
  no_longer = short;
}

-- nor is one that did nothing
pub torn_none : (old : List ℕ) (place count most : ℕ) → Torn place count most old old
torn_none old place count most = record {
  outside = λ k inside where_k. refl;
  no_shorter = omega arith;
  no_longer = omega arith;
}
