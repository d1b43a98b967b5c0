-- Lemmas on the parts of a text between bytes that pass a test.
use Rattle.std.proofs.Common.{◌≡◌, ◌==◌, ℕ, zero, suc, ◌+◌, ◌-◌, ◌<◌, Bool, true, false, List, [], ◌∷◌, length, take, drop, slice_index, refl, sym, ap, inl, inr, ◌∙◌, arith}
use Rattle.std.specs.List.{slice_split, position_or_len}
use Rattle.std.proofs.lemmas.Bool.{cases_Bool, ne_eqb}
use Rattle.std.proofs.Math.Seq.{take-length}
use Rattle.paper_form.specs.Papers.{is_blank}
use Rattle.paper_form.specs.Lines.{fields_left, is_over}

-- a text without such a byte is one part
pub split_none : (p : ℕ → Bool) (text : List ℕ)
    → ((k : ℕ) → k < length text → ¬ (p (slice_index text k) ≡ true))
    → slice_split p text ≡ text ∷ []
split_none p [] none = refl
split_none p (x ∷ text) none = elim (cases_Bool (p x)) [
  | inl is ↦ absurd (none 0 (omega arith) is)
  | inr other ↦ rw (other, split_none p text (λ k within. none (suc k) (omega arith))) refl
]

-- the first such byte ends the first part
pub split_place : (p : ℕ → Bool) (text : List ℕ) (place : ℕ)
    → ((k : ℕ) → k < place → ¬ (p (slice_index text k) ≡ true))
    → place < length text → p (slice_index text place) ≡ true
    → slice_split p text ≡ take place text ∷ slice_split p (drop (place + 1) text)
split_place p [] place none within is = absurd (omega (arith, within))
split_place p (x ∷ text) zero none within is = rw is refl
split_place p (x ∷ text) (suc place) none within is = elim (cases_Bool (p x)) [
  | inl here ↦ absurd (none 0 (omega arith) here)
  | inr other ↦
      let further = split_place p text place (λ k before. none (suc k) (omega arith))
      (omega (arith, within)) is in
      let one : suc place + 1 ≡ suc (place + 1) = omega arith in
      rw (other, further, one) refl
]

-- the bytes before the first blank are the first field, and behind it stand the others
pub first_part : (text : List ℕ) →
    slice_split is_blank text
    ≡ take (position_or_len is_blank text) text ∷ fields_left
    (drop (position_or_len is_blank text) text)
first_part [] = refl
first_part (x ∷ text) = elim (cases_Bool (is_blank x)) [
  | inl is ↦ rw is refl
  | inr other ↦
      let one : 1 + position_or_len is_blank text ≡ suc (position_or_len is_blank text) =
      omega arith in
      rw (other, first_part text, one) refl
]

-- a list without its first element
pub behind_first : (place : ℕ) (text rest : List ℕ) → place < length text → rest ≡ drop place text
    → take (length rest - 1) (drop 1 rest) ≡ drop (place + 1) text
behind_first zero (x ∷ text) rest within is =
    let one : length (x ∷ text) - 1 ≡ length text = omega arith in
    rw is (ap (λ n. take n text) one ∙ take-length text)
behind_first (suc place) (x ∷ text) rest within is =
    let one : suc place + 1 ≡ suc (place + 1) = omega arith in
    rw one (behind_first place text rest (omega (arith, within)) is)
behind_first place [] rest within is = absurd (omega (arith, within))

-- there is a first field
pub is_over-parts : (text : List ℕ) → is_over (slice_split is_blank text) ≡ false
is_over-parts text = rw (first_part text) refl

-- no field is left just where no byte is
pub over_is : (left : List ℕ) → (length left == 0) ≡ is_over (fields_left left)
over_is [] = refl
over_is (byte ∷ text) = ne_eqb (length (byte ∷ text)) 0
    (λ e. omega (arith, e)) ∙ sym (is_over-parts text)
