-- Lemmas on the first LF of some bytes.
use Rattle.std.proofs.Common.{◌≡◌, ℕ, suc, zero, ◌+◌, ◌-◌, ◌<◌, true, false, List, [], ◌∷◌, ◌++◌, length, take, drop, get_or, eqb, refl, sym, ap, inl, inr, ◌∙◌, arith}
use Rattle.std.proofs.lemmas.Bool.{cases_Bool}
use Rattle.std.proofs.lemmas.Bool.Decides.{nat_tests}
use Rattle.std.proofs.Math.Seq.{take-length}
use Rattle.std.proofs.lemmas.List.{drop_more, take-append-drop}
use Rattle.memchr.specs.Find.{Nowhere, Passes, is_byte}
use Rattle.script_lines.specs.Lines.{has_end}

-- there is no LF before a place before which none was found
pub no_end_before : (bytes : List ℕ) (place : ℕ) → Nowhere (Passes (is_byte 10) bytes) 0 place → has_end (take place bytes) ≡ false
no_end_before [] zero none = refl
no_end_before [] (suc place) none = refl
no_end_before (x ∷ bytes) zero none = refl
no_end_before (x ∷ bytes) (suc place) none = elim (cases_Bool (eqb x 10)) [
  | inl is ↦ absurd (none 0 (omega arith) (omega arith) is)
  | inr other ↦ rw other (no_end_before bytes place (λ k low high is. none (suc k) (omega arith) (omega arith) is))
]

pub no_end_at_all : (bytes : List ℕ) → Nowhere (Passes (is_byte 10) bytes) 0 (length bytes) → has_end bytes ≡ false
no_end_at_all bytes none = ap has_end (sym (take-length bytes)) ∙ no_end_before bytes (length bytes) none

is_end : (byte : ℕ) → eqb byte 10 ≡ true → byte ≡ 10
is_end byte is = grind (arith, nat_tests, is)

drop_one : (byte : ℕ) (bytes : List ℕ) → take (length (byte ∷ bytes) - 1) (drop 1 (byte ∷ bytes)) ≡ bytes
drop_one byte bytes =
    let one : length (byte ∷ bytes) - 1 ≡ length bytes = omega arith in
    ap (λ n. take n bytes) one ∙ take-length bytes

-- an LF stands at a place
pub parts_at : (bytes line rest : List ℕ) (place : ℕ) → place < length bytes → Passes (is_byte 10) bytes place → line ≡ take place bytes → rest ≡ drop place bytes
    → bytes ≡ line ++ 10 ∷ take (length rest - 1) (drop 1 rest)
parts_at bytes line rest place within is front back =
    let here : drop place bytes ≡ 10 ∷ drop (place + 1) bytes = drop_more bytes place 0 within ∙ ap (λ b. b ∷ drop (place + 1) bytes) (is_end (get_or bytes place 0) is) in
    let after : take (length rest - 1) (drop 1 rest) ≡ drop (place + 1) bytes = ap (λ (xs : List ℕ). take (length xs - 1) (drop 1 xs)) (back ∙ here) ∙ drop_one 10 (drop (place + 1) bytes) in
    sym (take-append-drop place bytes) ∙ ap (λ xs. xs ++ drop place bytes) (sym front) ∙ ap (λ xs. line ++ xs) here ∙ ap (λ xs. line ++ 10 ∷ xs) (sym after)
