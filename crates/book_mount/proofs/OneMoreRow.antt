-- A book with one row more.
use Rattle.std.proofs.Common.{◌≡◌, ℕ, suc, ◌+◌, List, [], ◌∷◌, ◌++◌, length, map, Option, Some, Result, Ok, refl, sym, ◌∙◌, ap, subst, arith, append_assoc}
use Rattle.std.proofs.lemmas.List.{map-append}
use Rattle.book_words.specs.declared.act.Entry.{Entry}
use Rattle.book_words.specs.Answers.{IsLegal}
use Rattle.row_format.specs.Spelling.{new_layout, row_bytes}
use Rattle.row_format.specs.Rows.{CanBeSpelled, Spells}
use Rattle.book_store.specs.Images.{spelled, spelled_from, CanAllBeSpelled}
use Rattle.book_mount.specs.Opening.{AreOnlyReadings, HasRead}

-- one entry more
spelled_push : (number : ℕ) (entries : List Entry) (entry : Entry)
    → spelled_from number (entries ++ entry ∷ []) ≡ spelled_from number entries
    ++ row_bytes new_layout (number + length entries) entry ∷ []
spelled_push number [] entry =
    let none : number ≡ number + 0 = omega arith in
    ap (λ (n : ℕ). row_bytes new_layout n entry ∷ []) none
spelled_push number (first ∷ entries) entry =
    let next : (number + 1) + length entries ≡ number + suc (length entries) = omega arith in
    ap (λ (l : List (List ℕ)). row_bytes new_layout number first ∷ l)
    (spelled_push (number + 1) entries entry)
    ∙ ap (λ (n : ℕ). row_bytes new_layout number first
    ∷ (spelled_from (number + 1) entries ++ row_bytes new_layout n entry ∷ [])) next

can_push : (entries : List Entry) (entry : Entry) → CanAllBeSpelled entries
    → CanBeSpelled new_layout entry → CanAllBeSpelled (entries ++ entry ∷ [])
can_push [] entry all one = (one, tt)
can_push (first ∷ entries) entry all one = (all.0, can_push entries entry all.1 one)

only_push : (number : ℕ) (entries : List Entry) (entry : Entry) → AreOnlyReadings number entries
    → ((other : Entry) → CanBeSpelled new_layout other
    → row_bytes new_layout (number + length entries) other
    ≡ row_bytes new_layout (number + length entries) entry → other ≡ entry)
    → AreOnlyReadings number (entries ++ entry ∷ [])
only_push number [] entry all one =
    let none : number + 0 ≡ number = omega arith in (
      subst (λ (n : ℕ). (other : Entry) → CanBeSpelled new_layout other
          → row_bytes new_layout n other ≡ row_bytes new_layout n entry → other ≡ entry) none one,
      tt,
    )
only_push number (first ∷ entries) entry all one =
    let next : number + suc (length entries) ≡ (number + 1) + length entries = omega arith in (
      all.0,
      only_push (number + 1) entries entry all.1
          (subst (λ (n : ℕ). (other : Entry) → CanBeSpelled new_layout other
          → row_bytes new_layout n other ≡ row_bytes new_layout n entry → other ≡ entry) next
          one),
    )

-- the next row is read
pub read_more : (rows left : List (Option (List ℕ))) (entries : List Entry) (entry : Entry)
    (number : ℕ) (row : List ℕ)
    → number ≡ length entries + 1 → HasRead rows entries (Some row ∷ left)
    → Spells new_layout row number entry
    → ((other : Entry) → Spells new_layout row number other → other ≡ entry)
    → IsLegal (entries ++ entry ∷ []) → HasRead rows (entries ++ entry ∷ []) left
read_more rows left entries entry number row is read spells only legal =
    let place : number ≡ 1 + length entries = omega arith in
    let row_is : row ≡ row_bytes new_layout (1 + length entries) entry = spells.row
    ∙ ap (λ (n : ℕ). row_bytes new_layout n entry) place in
    let all : spelled (entries ++ entry ∷ []) ≡ spelled entries ++ row ∷ [] =
    spelled_push 1 entries entry ∙ ap (λ (r : List ℕ). spelled entries ++ r ∷ [])
    (sym row_is) in
    record {
      split = read.split
          ∙ sym (append_assoc (map (λ r. Some r) (spelled entries)) (Some row ∷ []) left)
          ∙ ap (λ (l : List (Option (List ℕ))). l ++ left)
          (sym (map-append (λ r. Some r) (spelled entries) (row ∷ [])))
          ∙ ap (λ (l : List (List ℕ)). map (λ r. Some r) l ++ left) (sym all);
      can = can_push entries entry read.can spells.can;
      only = only_push 1 entries entry read.only (λ other can same.
          only other record {
            row = spells.row ∙ ap (λ (n : ℕ). row_bytes new_layout n entry) place
                ∙ sym same ∙ ap (λ (n : ℕ). row_bytes new_layout n other) (sym place);
            can = can;
          });
      legal = legal;
    }

-- an answer has one value
pub same_ok : {T E : Type 0} (result : Result T E) (x y : T) → result ≡ Ok x → result ≡ Ok y → y ≡ x
same_ok result x y is other = cc

no_entry : (before : List Entry) (entry : Entry) (after : List Entry) → [] ≡ before ++ entry ∷ after → ⊥
no_entry [] entry after is = absurd cc
no_entry (first ∷ before) entry after is = absurd cc

-- a book without entries is legal
pub none_legal : IsLegal []
none_legal before entry after is = absurd (no_entry before entry after is)

-- before the first row
pub read_start : (rows : List (Option (List ℕ))) → HasRead rows [] rows
read_start rows = record { split = refl; can = tt; only = tt; legal = none_legal }
