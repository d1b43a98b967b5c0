-- The rows of a book with one entry more.
use Rattle.std.proofs.Common.{◌≡◌, ℕ, ◌+◌, List, [], ◌∷◌, ◌++◌, length, ◌∙◌, ap, subst, arith}
use Rattle.book_words.specs.declared.act.Entry.{Entry}
use Rattle.row_format.specs.Spelling.{new_layout, row_bytes}
use Rattle.row_format.specs.Rows.{CanBeSpelled, Spells}
use Rattle.book_store.specs.Images.{spelled_from, spelled, CanAllBeSpelled}

spelled_from_more : (number : ℕ) (entries : List Entry) (entry : Entry)
    → spelled_from number (entries ++ entry ∷ []) ≡ spelled_from number entries
    ++ row_bytes new_layout (number + length entries) entry ∷ []
spelled_from_more number [] entry =
    let same : number ≡ number + 0 = omega arith in
    ap (λ (n : ℕ). row_bytes new_layout n entry ∷ []) same
spelled_from_more number (first ∷ entries) entry =
    let same : number + 1 + length entries ≡ number + length (first ∷ entries) = omega arith in
    ap (λ (rows : List (List ℕ)). row_bytes new_layout number first ∷ rows)
    (spelled_from_more (number + 1) entries entry)
    ∙ ap (λ (n : ℕ). row_bytes new_layout number first ∷ spelled_from (number + 1) entries
    ++ row_bytes new_layout n entry ∷ []) same

-- the new entry has the last row
pub spelled_more : (entries : List Entry) (entry : Entry)
    → spelled (entries ++ entry ∷ []) ≡ spelled entries
    ++ row_bytes new_layout (length entries + 1) entry ∷ []
spelled_more entries entry =
    let same : 1 + length entries ≡ length entries + 1 = omega arith in
    spelled_from_more 1 entries entry
    ∙ ap (λ (n : ℕ). spelled entries ++ row_bytes new_layout n entry ∷ []) same

-- and each can be spelled
pub all_more : (entries : List Entry) (entry : Entry) → CanAllBeSpelled entries
    → CanBeSpelled new_layout entry → CanAllBeSpelled (entries ++ entry ∷ [])
all_more [] entry can more = (more, tt)
all_more (first ∷ entries) entry can more = (can.0, all_more entries entry can.1 more)

-- under equal names
pub spells_as : (row : List ℕ) (number other : ℕ) (entry same : Entry) → number ≡ other
    → entry ≡ same → Spells new_layout row number entry → Spells new_layout row other same
spells_as row number other entry same numbers entries spells =
    subst (λ (e : Entry). Spells new_layout row other e) entries
    (subst (λ (n : ℕ). Spells new_layout row n entry) numbers spells)
