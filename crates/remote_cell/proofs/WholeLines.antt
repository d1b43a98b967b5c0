-- The whole lines of bytes, when more bytes are read behind them.
use Rattle.std.proofs.Common.{◌≡◌, ℕ, false, List, [], ◌∷◌, ◌++◌, eqb, refl, sym, ◌∙◌, ap, inl, inr, append_assoc, append-nil}
use Rattle.std.proofs.lemmas.Bool.{cases_Bool}
use Rattle.remote_cell.specs.Lines.{has_end, split_lines, part_behind, whole_lines, part_of}

lines_split : (begun bytes more : List ℕ) → split_lines begun (bytes ++ more)
    ≡ split_lines begun bytes ++ split_lines (part_behind begun bytes) more
lines_split begun [] more = refl
lines_split begun (x ∷ bytes) more = elim (cases_Bool (eqb x 10)) [
  | inl is ↦ rw is (ap (λ (ls : List (List ℕ)). begun ∷ ls) (lines_split [] bytes more))
  | inr other ↦ rw other (lines_split (begun ++ x ∷ []) bytes more)
]

part_split : (begun bytes more : List ℕ)
    → part_behind begun (bytes ++ more) ≡ part_behind (part_behind begun bytes) more
part_split begun [] more = refl
part_split begun (x ∷ bytes) more = elim (cases_Bool (eqb x 10)) [
  | inl is ↦ rw is (part_split [] bytes more)
  | inr other ↦ rw other (part_split (begun ++ x ∷ []) bytes more)
]

no_lines : (begun more : List ℕ) → has_end more ≡ false → split_lines begun more ≡ []
no_lines begun [] none = refl
no_lines begun (x ∷ more) none = elim (cases_Bool (eqb x 10)) [
  | inl is ↦ let never = rw is at none in absurd (cc)
  | inr other ↦ rw other (no_lines (begun ++ x ∷ []) more (rw other at none))
]

no_end : (begun more : List ℕ) → has_end more ≡ false → part_behind begun more ≡ begun ++ more
no_end begun [] none = sym (append-nil begun)
no_end begun (x ∷ more) none = elim (cases_Bool (eqb x 10)) [
  | inl is ↦ let never = rw is at none in absurd (cc)
  | inr other ↦ rw other (no_end (begun ++ x ∷ []) more (rw other at none)
      ∙ append_assoc begun (x ∷ []) more)
]

-- bytes more, no LF among them
pub lines_plain : (bytes more : List ℕ) → has_end more ≡ false
    → whole_lines (bytes ++ more) ≡ whole_lines bytes
lines_plain bytes more none =
    lines_split [] bytes more
    ∙ ap (λ (ls : List (List ℕ)). whole_lines bytes ++ ls) (no_lines (part_of bytes) more none)
    ∙ append-nil (whole_lines bytes)

pub part_plain : (bytes more : List ℕ) → has_end more ≡ false
    → part_of (bytes ++ more) ≡ part_of bytes ++ more
part_plain bytes more none = part_split [] bytes more ∙ no_end (part_of bytes) more none

-- a line more, and its LF
one_line : (begun line : List ℕ) → has_end line ≡ false
    → split_lines begun (line ++ 10 ∷ []) ≡ (begun ++ line) ∷ []
one_line begun line none =
    lines_split begun line (10 ∷ [])
    ∙ ap (λ (ls : List (List ℕ)). ls ++ part_behind begun line ∷ []) (no_lines begun line none)
    ∙ ap (λ (l : List ℕ). l ∷ []) (no_end begun line none)

pub lines_ended : (bytes line : List ℕ) → part_of bytes ≡ [] → has_end line ≡ false
    → whole_lines (bytes ++ (line ++ 10 ∷ [])) ≡ whole_lines bytes ++ line ∷ []
lines_ended bytes line part none =
    lines_split [] bytes (line ++ 10 ∷ [])
    ∙ ap (λ (b : List ℕ). whole_lines bytes ++ split_lines b (line ++ 10 ∷ [])) part
    ∙ ap (λ (ls : List (List ℕ)). whole_lines bytes ++ ls) (one_line [] line none)

pub part_ended : (bytes line : List ℕ) → part_of (bytes ++ (line ++ 10 ∷ [])) ≡ []
part_ended bytes line =
    part_split [] bytes (line ++ 10 ∷ []) ∙ part_split (part_of bytes) line (10 ∷ [])
