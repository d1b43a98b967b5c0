-- Lemmas on the lines of a text that goes on.
use Rattle.std.proofs.Common.{inl, inr, ◌≤◌, arith, ◌≡◌, ℕ, ◌<◌, Bool, true, false, ◌||◌, ◌==◌, if◌then◌else◌, List, [], ◌∷◌, ◌++◌, length, cond, eqb, refl, sym, ap, ◌∙◌, arith, append_assoc, append-nil}
use Rattle.std.proofs.lemmas.Bool.{cases_Bool}
use Rattle.script_lines.specs.Lines.{has_end, onto_ended, ended_lines, rest_of, last_line}

onto_ended-length : (byte : ℕ) (lines : List (List ℕ)) → length (onto_ended byte lines) ≡ length lines
onto_ended-length byte [] = refl
onto_ended-length byte (line ∷ lines) = refl

-- the lines that end in LF, where the first has begun so
abbrev pub ended_after : List ℕ → List ℕ → List (List ℕ)
ended_after begun [] = []
ended_after begun (byte ∷ bytes) =
    if byte == 10 then begun ∷ ended_after [] bytes else ended_after (begun ++ byte ∷ []) bytes

-- what stands after the last LF, where the first line has begun so
abbrev pub rest_after : List ℕ → List ℕ → List ℕ
rest_after begun [] = begun
rest_after begun (byte ∷ bytes) = if byte == 10 then rest_after [] bytes else rest_after (begun ++ byte ∷ []) bytes

-- a beginning goes before the first of the lines, where there is one
abbrev put_before : List ℕ → List (List ℕ) → List (List ℕ)
put_before begun [] = []
put_before begun (line ∷ lines) = (begun ++ line) ∷ lines

put_before-nothing : (lines : List (List ℕ)) → put_before [] lines ≡ lines
put_before-nothing [] = refl
put_before-nothing (line ∷ lines) = refl

put_before-onto : (begun : List ℕ) (byte : ℕ) (lines : List (List ℕ)) → put_before (begun ++ byte ∷ []) lines ≡ put_before begun (onto_ended byte lines)
put_before-onto begun byte [] = refl
put_before-onto begun byte (line ∷ lines) = ap (λ l. l ∷ lines) (append_assoc begun (byte ∷ []) line)

ended_after-put : (begun bytes : List ℕ) → ended_after begun bytes ≡ put_before begun (ended_lines bytes)
ended_after-put begun [] = refl
ended_after-put begun (x ∷ bytes) =
    elim (eqb x 10) as (λ b. cond b (begun ∷ ended_after [] bytes) (ended_after (begun ++ x ∷ []) bytes) ≡ put_before begun (cond b ([] ∷ ended_lines bytes) (onto_ended x (ended_lines bytes)))) [
      | true ↦ ap (λ l. l ∷ ended_after [] bytes) (sym (append-nil begun)) ∙ ap (λ ls. (begun ++ []) ∷ ls) (ended_after-put [] bytes ∙ put_before-nothing (ended_lines bytes))
      | false ↦ ended_after-put (begun ++ x ∷ []) bytes ∙ put_before-onto begun x (ended_lines bytes)
    ]

-- the lines are those after no beginning
ended_after-nothing : (bytes : List ℕ) → ended_after [] bytes ≡ ended_lines bytes
ended_after-nothing bytes = ended_after-put [] bytes ∙ put_before-nothing (ended_lines bytes)

rest_of-no_end : (bytes : List ℕ) → cond (has_end bytes) (rest_of bytes) bytes ≡ rest_of bytes
rest_of-no_end [] = refl
rest_of-no_end (x ∷ bytes) = elim (has_end (x ∷ bytes)) as (λ b. cond b (cond b (rest_of bytes) (x ∷ bytes)) (x ∷ bytes) ≡ cond b (rest_of bytes) (x ∷ bytes)) [ true ↦ refl | false ↦ refl ]

rest_after-begun : (begun bytes : List ℕ) → rest_after begun bytes ≡ cond (has_end bytes) (rest_of bytes) (begun ++ bytes)
rest_after-begun begun [] = sym (append-nil begun)
rest_after-begun begun (x ∷ bytes) =
    let longer : rest_after (begun ++ x ∷ []) bytes ≡ cond (has_end bytes) (rest_of bytes) (begun ++ x ∷ bytes) =
    rest_after-begun (begun ++ x ∷ []) bytes ∙ ap (λ bs. cond (has_end bytes) (rest_of bytes) bs) (append_assoc begun (x ∷ []) bytes) in
    let same = λ (b : Bool). elim b as (λ b. cond b (rest_of bytes) (begun ++ x ∷ bytes) ≡ cond b (cond b (rest_of bytes) (x ∷ bytes)) (begun ++ x ∷ bytes)) [ true ↦ refl | false ↦ refl ] in
    elim (eqb x 10) as (λ b. cond b (rest_after [] bytes) (rest_after (begun ++ x ∷ []) bytes) ≡ cond (b || has_end bytes) (cond (b || has_end bytes) (rest_of bytes) (x ∷ bytes)) (begun ++ x ∷ bytes)) [
      | true ↦ rest_after-begun [] bytes ∙ rest_of-no_end bytes
      | false ↦ longer ∙ same (has_end bytes)
    ]

-- the rest is that after no beginning
rest_after-nothing : (bytes : List ℕ) → rest_after [] bytes ≡ rest_of bytes
rest_after-nothing bytes = rest_after-begun [] bytes ∙ rest_of-no_end bytes

pub ended_after-append : (begun xs ys : List ℕ) → ended_after begun (xs ++ ys) ≡ ended_after begun xs ++ ended_after (rest_after begun xs) ys
ended_after-append begun [] ys = refl
ended_after-append begun (x ∷ xs) ys =
    elim (eqb x 10) as (λ b. cond b (begun ∷ ended_after [] (xs ++ ys)) (ended_after (begun ++ x ∷ []) (xs ++ ys))
    ≡ cond b (begun ∷ ended_after [] xs) (ended_after (begun ++ x ∷ []) xs) ++ ended_after (cond b (rest_after [] xs) (rest_after (begun ++ x ∷ []) xs)) ys)
    [ true ↦ ap (λ ls. begun ∷ ls) (ended_after-append [] xs ys) | false ↦ ended_after-append (begun ++ x ∷ []) xs ys ]

pub rest_after-append : (begun xs ys : List ℕ) → rest_after begun (xs ++ ys) ≡ rest_after (rest_after begun xs) ys
rest_after-append begun [] ys = refl
rest_after-append begun (x ∷ xs) ys =
    elim (eqb x 10) as (λ b. cond b (rest_after [] (xs ++ ys)) (rest_after (begun ++ x ∷ []) (xs ++ ys))
    ≡ rest_after (cond b (rest_after [] xs) (rest_after (begun ++ x ∷ []) xs)) ys)
    [ true ↦ rest_after-append [] xs ys | false ↦ rest_after-append (begun ++ x ∷ []) xs ys ]

pub last_line_is : (line : List ℕ) → 0 < length line → last_line line ≡ line ∷ []
last_line_is [] h = absurd (omega arith)
last_line_is (x ∷ line) h = refl

-- the lines that have ended, and what follows them, when the text goes on
pub ended_lines-append : (taken rest : List ℕ) → ended_lines (taken ++ rest) ≡ ended_lines taken ++ ended_after (rest_of taken) rest
ended_lines-append taken rest =
    sym (ended_after-nothing (taken ++ rest)) ∙ ended_after-append [] taken rest
    ∙ ap (λ lines. lines ++ ended_after (rest_after [] taken) rest) (ended_after-nothing taken)
    ∙ ap (λ begun. ended_lines taken ++ ended_after begun rest) (rest_after-nothing taken)

pub rest_of-append : (taken rest : List ℕ) → rest_of (taken ++ rest) ≡ rest_after (rest_of taken) rest
rest_of-append taken rest =
    sym (rest_after-nothing (taken ++ rest)) ∙ rest_after-append [] taken rest ∙ ap (λ begun. rest_after begun rest) (rest_after-nothing taken)

-- bytes without an LF end no line
ended_after-part : (begun part : List ℕ) → has_end part ≡ false → ended_after begun part ≡ []
ended_after-part begun [] none = refl
ended_after-part begun (x ∷ part) none = elim (cases_Bool (eqb x 10)) [
  | inl is ↦ let never = rw is at none in absurd (cc)
  | inr other ↦ rw other (ended_after-part (begun ++ x ∷ []) part (rw other at none))
]

rest_after-part : (begun part : List ℕ) → has_end part ≡ false → rest_after begun part ≡ begun ++ part
rest_after-part begun [] none = sym (append-nil begun)
rest_after-part begun (x ∷ part) none = elim (cases_Bool (eqb x 10)) [
  | inl is ↦ let never = rw is at none in absurd (cc)
  | inr other ↦ rw other (rest_after-part (begun ++ x ∷ []) part (rw other at none) ∙ append_assoc begun (x ∷ []) part)
]

-- the text goes on with bytes without an LF
pub ended_with_part : (taken part : List ℕ) → has_end part ≡ false → ended_lines (taken ++ part) ≡ ended_lines taken
ended_with_part taken part none =
    ended_lines-append taken part ∙ ap (λ ls. ended_lines taken ++ ls) (ended_after-part (rest_of taken) part none) ∙ append-nil (ended_lines taken)

pub rest_with_part : (taken part : List ℕ) → has_end part ≡ false → rest_of (taken ++ part) ≡ rest_of taken ++ part
rest_with_part taken part none = rest_of-append taken part ∙ rest_after-part (rest_of taken) part none

-- and then an LF ends a line
pub ended_with_line : (taken part : List ℕ) → has_end part ≡ false
    → ended_lines (taken ++ (part ++ 10 ∷ [])) ≡ ended_lines taken ++ (rest_of taken ++ part) ∷ []
ended_with_line taken part none =
    ap ended_lines (sym (append_assoc taken part (10 ∷ []))) ∙ ended_lines-append (taken ++ part) (10 ∷ [])
    ∙ ap (λ ls. ls ++ rest_of (taken ++ part) ∷ []) (ended_with_part taken part none)
    ∙ ap (λ line. ended_lines taken ++ line ∷ []) (rest_with_part taken part none)

pub rest_with_line : (taken part : List ℕ) → rest_of (taken ++ (part ++ 10 ∷ [])) ≡ []
rest_with_line taken part =
    ap rest_of (sym (append_assoc taken part (10 ∷ []))) ∙ rest_of-append (taken ++ part) (10 ∷ [])

-- there are no more lines than bytes
pub ended_lines-few : (bytes : List ℕ) → length (ended_lines bytes) ≤ length bytes
ended_lines-few [] = omega arith
ended_lines-few (x ∷ bytes) = elim (cases_Bool (eqb x 10)) [
  | inl is ↦ rw is (omega (arith, ended_lines-few bytes))
  | inr other ↦ rw other (omega (arith, ended_lines-few bytes, onto_ended-length x (ended_lines bytes)))
]
