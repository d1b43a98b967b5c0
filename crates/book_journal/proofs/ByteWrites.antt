-- Bytes that were written over others.
use Rattle.std.proofs.Common.{◌≡◌, inl, inr, ℕ, ◌+◌, ◌-◌, ◌<◌, ◌≤◌, max, List, [], ◌∷◌, ◌++◌, length, get_or, take, drop, refl, sym, ◌∙◌, ap, arith, length-append}
use Rattle.std.proofs.lemmas.List.{get_or_append_left, get_or-append_right, get_or-take, get_or-drop, get_or-append-add, ext_get_or, length-take-le, drop_all, append-nil}
use Rattle.std.proofs.lemmas.Bool.{cases_lt}
use Rattle.disk_core.specs.Disk.{overwritten}
use Rattle.disk_core.specs.Tears.{length-overwritten}

-- what was written stands at its place
pub written_at : (old : List ℕ) (place : ℕ) (bytes : List ℕ) (j k : ℕ) → place ≤ length old
    → j < length bytes → place + j ≡ k → get_or (overwritten old place bytes) k 0 ≡ get_or bytes j 0
written_at old place bytes j k within inside at_k =
    let size : length (take place old) ≡ place = length-take-le place old within in
    let here : length (take place old) + j ≡ k = omega arith in
    let short : k < length (take place old ++ bytes) =
    omega (arith, length-append (take place old) bytes) in
    get_or_append_left (take place old ++ bytes) (drop (place + length bytes) old) 0 k short
    ∙ ap (λ (i : ℕ). get_or (take place old ++ bytes) i 0) (sym here)
    ∙ get_or-append-add (take place old) bytes j 0

-- and elsewhere what was there
pub kept_below : (old : List ℕ) (place : ℕ) (bytes : List ℕ) (k : ℕ) → place ≤ length old
    → k < place → get_or (overwritten old place bytes) k 0 ≡ get_or old k 0
kept_below old place bytes k within below =
    let size : length (take place old) ≡ place = length-take-le place old within in
    get_or_append_left (take place old ++ bytes) (drop (place + length bytes) old) 0 k
    (omega (arith, size, below, length-append (take place old) bytes))
    ∙ get_or_append_left (take place old) bytes 0 k (omega (arith, size, below))
    ∙ get_or-take place old k 0 below

pub kept_above : (old : List ℕ) (place : ℕ) (bytes : List ℕ) (k : ℕ) → place ≤ length old
    → place + length bytes ≤ k → get_or (overwritten old place bytes) k 0 ≡ get_or old k 0
kept_above old place bytes k within above =
    let size : length (take place old) ≡ place = length-take-le place old within in
    let both : length (take place old ++ bytes) ≡ place + length bytes =
    omega (arith, size, length-append (take place old) bytes) in
    let there : place + length bytes + (k - (place + length bytes)) ≡ k = omega (arith, above) in
    get_or-append_right (take place old ++ bytes) (drop (place + length bytes) old)
    (place + length bytes) k 0 both above
    ∙ get_or-drop (place + length bytes) old (k - (place + length bytes)) 0
    ∙ ap (λ (i : ℕ). get_or old i 0) there

pub overwritten_size : (old : List ℕ) (place : ℕ) (bytes : List ℕ) → place ≤ length old
    → length (overwritten old place bytes) ≡ max (length old) (place + length bytes)
overwritten_size old place bytes within = omega (arith, within, length-overwritten old place bytes)

-- two writes behind one another are one
pub overwritten_on : (old : List ℕ) (place next : ℕ) (first second : List ℕ) → place ≤ length old
    → next ≡ place + length first → overwritten (overwritten old place first) next second
    ≡ overwritten old place (first ++ second)
overwritten_on old place next first second within next_is =
    let mid = overwritten old place first in
    let mid_size = overwritten_size old place first within in
    let within_mid : next ≤ length mid = omega (arith, mid_size, next_is) in
    let both : length (first ++ second) ≡ length first + length second = length-append first second in
    let size : length (overwritten mid next second)
    ≡ length (overwritten old place (first ++ second)) =
    omega (
      arith,
      both,
      mid_size,
      next_is,
      overwritten_size mid next second within_mid,
      overwritten_size old place (first ++ second) within,
    ) in
    ext_get_or 0 (overwritten mid next second) (overwritten old place (first ++ second)) size
    (λ k lt. elim (cases_lt k place) [
      | inl below ↦ kept_below mid next second k within_mid (omega (arith, below, next_is))
          ∙ kept_below old place first k within below
          ∙ sym (kept_below old place (first ++ second) k within below)
      | inr from ↦ elim (cases_lt k next) [
        | inl in_first ↦
            let j : place + (k - place) ≡ k = omega (arith, from) in
            let small : k - place < length first = omega (arith, from, in_first, next_is) in
            kept_below mid next second k within_mid in_first
            ∙ written_at old place first (k - place) k within small j
            ∙ sym (written_at old place (first ++ second) (k - place) k within
            (omega (arith, small, both)) j
            ∙ get_or_append_left first second 0 (k - place) small)
        | inr behind ↦ elim (cases_lt k (next + length second)) [
          | inl in_second ↦
              let i : next + (k - next) ≡ k = omega (arith, behind) in
              let j : place + (k - place) ≡ k = omega (arith, from) in
              let same : k - place - length first ≡ k - next = omega (arith, from, behind, next_is) in
              written_at mid next second (k - next) k within_mid (omega (arith, in_second, behind)) i
              ∙ sym (written_at old place (first ++ second) (k - place) k within
              (omega (arith, both, in_second, next_is, from)) j
              ∙ get_or-append_right first second (length first) (k - place) 0 refl
              (omega (arith, behind, next_is, from)) ∙ ap (λ (n : ℕ). get_or second n 0) same)
          | inr above ↦ kept_above mid next second k within_mid above
              ∙ kept_above old place first k within (omega (arith, behind, next_is))
              ∙ sym (kept_above old place (first ++ second) k within
              (omega (arith, above, both, next_is)))
        ]
      ]
    ])

-- a write hides an earlier one within its range
pub overwritten_again : (old : List ℕ) (place at : ℕ) (first second : List ℕ) → at ≤ place
    → place + length first ≤ at + length second → place ≤ length old
    → overwritten (overwritten old place first) at second ≡ overwritten old at second
overwritten_again old place at first second before after within =
    let mid = overwritten old place first in
    let mid_size = overwritten_size old place first within in
    let at_old : at ≤ length old = omega (arith, before, within) in
    let at_mid : at ≤ length mid = omega (arith, mid_size, at_old) in
    let size : length (overwritten mid at second) ≡ length (overwritten old at second) =
    omega (
      arith,
      mid_size,
      after,
      overwritten_size mid at second at_mid,
      overwritten_size old at second at_old,
    ) in
    ext_get_or 0 (overwritten mid at second) (overwritten old at second) size
    (λ k lt. elim (cases_lt k at) [
      | inl below ↦ kept_below mid at second k at_mid below
          ∙ kept_below old place first k within (omega (arith, below, before))
          ∙ sym (kept_below old at second k at_old below)
      | inr from ↦ elim (cases_lt k (at + length second)) [
        | inl inside ↦
            let j : at + (k - at) ≡ k = omega (arith, from) in
            written_at mid at second (k - at) k at_mid (omega (arith, from, inside)) j
            ∙ sym (written_at old at second (k - at) k at_old (omega (arith, from, inside)) j)
        | inr above ↦ kept_above mid at second k at_mid above
            ∙ kept_above old place first k within (omega (arith, above, after))
            ∙ sym (kept_above old at second k at_old above)
      ]
    ])

-- writes at two places that don't meet may be exchanged
pub overwritten_apart : (old : List ℕ) (place at : ℕ) (first second : List ℕ)
    → place + length first ≤ at → at ≤ length old
    → overwritten (overwritten old place first) at second
    ≡ overwritten (overwritten old at second) place first
overwritten_apart old place at first second apart within =
    let low = overwritten old place first in
    let high = overwritten old at second in
    let place_old : place ≤ length old = omega (arith, apart, within) in
    let low_size = overwritten_size old place first place_old in
    let high_size = overwritten_size old at second within in
    let at_low : at ≤ length low = omega (arith, low_size, within) in
    let place_high : place ≤ length high = omega (arith, high_size, place_old) in
    let size : length (overwritten low at second) ≡ length (overwritten high place first) =
    omega (
      arith,
      apart,
      within,
      low_size,
      high_size,
      overwritten_size low at second at_low,
      overwritten_size high place first place_high,
    ) in
    ext_get_or 0 (overwritten low at second) (overwritten high place first) size
    (λ k lt. elim (cases_lt k place) [
      | inl below ↦ kept_below low at second k at_low (omega (arith, below, apart))
          ∙ kept_below old place first k place_old below
          ∙ sym (kept_below high place first k place_high below
          ∙ kept_below old at second k within (omega (arith, below, apart)))
      | inr from ↦ elim (cases_lt k (place + length first)) [
        | inl inside ↦
            let j : place + (k - place) ≡ k = omega (arith, from) in
            kept_below low at second k at_low (omega (arith, inside, apart))
            ∙ written_at old place first (k - place) k place_old (omega (arith, from, inside)) j
            ∙ sym (written_at high place first (k - place) k place_high
            (omega (arith, from, inside)) j)
        | inr above ↦ elim (cases_lt k at) [
          | inl between ↦ kept_below low at second k at_low between
              ∙ kept_above old place first k place_old above
              ∙ sym (kept_above high place first k place_high above
              ∙ kept_below old at second k within between)
          | inr behind ↦ elim (cases_lt k (at + length second)) [
            | inl in_second ↦
                let j : at + (k - at) ≡ k = omega (arith, behind) in
                written_at low at second (k - at) k at_low (omega (arith, behind, in_second)) j
                ∙ sym (kept_above high place first k place_high above
                ∙ written_at old at second (k - at) k within
                (omega (arith, behind, in_second)) j)
            | inr over ↦ kept_above low at second k at_low over
                ∙ kept_above old place first k place_old above
                ∙ sym (kept_above high place first k place_high above
                ∙ kept_above old at second k within over)
          ]
        ]
      ]
    ])

-- the gate is written last
pub overwritten_front : (old : List ℕ) (place next first : ℕ) (rest : List ℕ)
    → place + 1 ≤ length old → next ≡ place + 1
    → overwritten (overwritten old next rest) place (first ∷ [])
    ≡ overwritten old place (first ∷ rest)
overwritten_front old place next first rest within next_is =
    sym (overwritten_apart old place next (first ∷ []) rest (omega (arith, next_is))
    (omega (arith, within, next_is)))
    ∙ overwritten_on old place next (first ∷ []) rest (omega (arith, within)) (omega (arith, next_is))

-- a write to the end and past it
pub overwritten_end : (old : List ℕ) (place : ℕ) (bytes : List ℕ)
    → length old ≤ place + length bytes → overwritten old place bytes ≡ take place old ++ bytes
overwritten_end old place bytes all =
    ap (λ (l : List ℕ). take place old ++ bytes ++ l) (drop_all (place + length bytes) old all)
    ∙ append-nil (take place old ++ bytes)
