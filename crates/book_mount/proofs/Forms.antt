-- Dense forms as rows of content.
use Rattle.std.proofs.Common.{◌≡◌, ◌≢◌, ◌⊎◌, inl, inr, ⊎_elim, ℕ, zero, suc, ◌+◌, ◌-◌, ◌<◌, ◌≤◌, Bool, true, false, ◌&&◌, ◌==◌, if◌then◌else◌, List, [], ◌∷◌, ◌++◌, length, get_or, take, drop, replicate, slice_range, Some, None, refl, sym, ◌∙◌, ap, arith, length-drop}
use Rattle.std.specs.Int.{w32, to_le_bytes}
use Rattle.std.proofs.lemmas.List.{take-append-drop, drop_more, drop-drop}
use Rattle.std.proofs.lemmas.Bool.{cases_lt}
use Rattle.std.proofs.lemmas.Bool.Decides.{nat_tests}
use Rattle.book_snapshot.specs.declared.layout.TheConstants.{ROW_BYTES, OPEN, KIND_PLACE, NUMBER_PLACE, FIELDS_PLACE, LEFT_OUT}
use Rattle.book_snapshot.specs.DenseRows.{trimmed, short_row, HasNumber, row_of}
use Rattle.book_snapshot.specs.Reading.{IsReadAs, EndsEarly, IsFaulty}
use Rattle.book_snapshot.proofs.EndZeros.{filled_up}
use Rattle.book_mount.specs.Listing.{begins_form, form_row, behind_form, content_rows}

-- a row is its gate, its kind, its number and its fields
row_parts : (row : List ℕ) → FIELDS_PLACE ≤ length row
    → row ≡ get_or row 0 0 ∷ get_or row KIND_PLACE 0
    ∷ (slice_range row NUMBER_PLACE FIELDS_PLACE ++ drop FIELDS_PLACE row)
row_parts row long =
    let first : row ≡ get_or row 0 0 ∷ drop 1 row = drop_more row 0 0 (omega (arith, long)) in
    let second : drop 1 row ≡ get_or row KIND_PLACE 0 ∷ drop NUMBER_PLACE row =
    drop_more row 1 0 (omega (arith, long)) in
    let rest : drop NUMBER_PLACE row ≡ slice_range row NUMBER_PLACE FIELDS_PLACE
    ++ drop FIELDS_PLACE row = sym
    (take-append-drop (FIELDS_PLACE - NUMBER_PLACE) (drop NUMBER_PLACE row))
    ∙ ap (λ (l : List ℕ). slice_range row NUMBER_PLACE FIELDS_PLACE ++ l)
    (drop-drop (FIELDS_PLACE - NUMBER_PLACE) NUMBER_PLACE row) in
    first ∙ ap (λ (l : List ℕ). get_or row 0 0 ∷ l)
    (second ∙ ap (λ (l : List ℕ). get_or row KIND_PLACE 0 ∷ l) rest)

some_of : (b : Bool) (l : List ℕ) → 1 ≤ length (if b then [] else l) → (if b then [] else l) ≡ l
some_of true l some = absurd (omega (arith, some))
some_of false l some = refl

-- bytes of which some are left keep the first
kept_first : (byte : ℕ) (bytes : List ℕ) → 1 ≤ length (trimmed (byte ∷ bytes))
    → trimmed (byte ∷ bytes) ≡ byte ∷ trimmed bytes
unfolding trimmed
kept_first byte bytes some = some_of (byte == 0 && length (trimmed bytes) == 0)
    (byte ∷ trimmed bytes) some

-- a row with its number is the one that its dense form stands for
row_again : (number : ℕ) (row : List ℕ) → HasNumber ROW_BYTES number row
    → 1 ≤ length (short_row row) → row ≡ row_of ROW_BYTES number (short_row row)
row_again number row is some =
    let kept : short_row row ≡ get_or row KIND_PLACE 0 ∷ trimmed (drop FIELDS_PLACE row) =
    kept_first (get_or row KIND_PLACE 0) (drop FIELDS_PLACE row) some in
    let count : ROW_BYTES - LEFT_OUT
    - length (get_or row KIND_PLACE 0 ∷ trimmed (drop FIELDS_PLACE row))
    ≡ length (drop FIELDS_PLACE row) - length (trimmed (drop FIELDS_PLACE row)) =
    omega (arith, length-drop FIELDS_PLACE row, is.long) in
    let tail : trimmed (drop FIELDS_PLACE row)
    ++ replicate (ROW_BYTES - LEFT_OUT
    - length (get_or row KIND_PLACE 0 ∷ trimmed (drop FIELDS_PLACE row))) 0
    ≡ drop FIELDS_PLACE row = ap (λ (n : ℕ). trimmed (drop FIELDS_PLACE row) ++ replicate n 0)
    count ∙ filled_up (drop FIELDS_PLACE row) in
    row_parts row (omega (arith, is.long))
    ∙ ap (λ (x : ℕ). x ∷ get_or row KIND_PLACE 0
    ∷ (slice_range row NUMBER_PLACE FIELDS_PLACE ++ drop FIELDS_PLACE row)) is.gate
    ∙ ap (λ (l : List ℕ). OPEN ∷ get_or row KIND_PLACE 0 ∷ (l ++ drop FIELDS_PLACE row)) is.field
    ∙ ap (λ (l : List ℕ). OPEN ∷ get_or row KIND_PLACE 0 ∷ (to_le_bytes w32 number ++ l)) (sym tail)
    ∙ ap (λ (l : List ℕ). row_of ROW_BYTES number l) (sym kept)

pub begins : (bytes : List ℕ) → 1 ≤ get_or bytes 0 0 → get_or bytes 0 0 ≤ ROW_BYTES - LEFT_OUT
    → get_or bytes 0 0 < length bytes → get_or bytes (get_or bytes 0 0) 0 ≢ 0
    → begins_form bytes ≡ true
begins bytes some most there last = grind (arith, nat_tests)

ends_early : (bytes : List ℕ) → length bytes ≤ get_or bytes 0 0 → begins_form bytes ≡ false
ends_early bytes short = grind (arith, nat_tests)

faulty_first : (bytes : List ℕ) → (get_or bytes 0 0 ≡ 0) ⊎ (ROW_BYTES - LEFT_OUT < get_or bytes 0 0)
    → begins_form bytes ≡ false
faulty_first bytes (inl is) = grind (arith, nat_tests)
faulty_first bytes (inr is) = grind (arith, nat_tests)

faulty_last : (bytes : List ℕ) → get_or bytes (get_or bytes 0 0) 0 ≡ 0 → begins_form bytes ≡ false
faulty_last bytes is = grind (arith, nat_tests)

-- content whose front ends early or is faulty begins with no form
pub begins_none : (bytes : List ℕ) → EndsEarly ROW_BYTES bytes ⊎ IsFaulty ROW_BYTES bytes
    → begins_form bytes ≡ false
begins_none bytes (inl (inl none)) = faulty_first bytes (inl (ap (λ (l : List ℕ). get_or l 0 0) none))
begins_none bytes (inl (inr early)) = ends_early bytes early.2
begins_none bytes (inr (_, inl first)) = faulty_first bytes (inl first)
begins_none bytes (inr (_, inr (inl first))) = faulty_first bytes (inr first)
begins_none bytes (inr (_, inr (inr last))) = faulty_last bytes last.1

-- content that begins with a form has its row first
pub content_rows-form : (more number : ℕ) (bytes : List ℕ) → begins_form bytes ≡ true
    → content_rows (suc more) number bytes ≡ Some (form_row number bytes)
    ∷ content_rows more (number + 1) (behind_form bytes)
unfolding content_rows
content_rows-form more number bytes is =
    ap (λ (b : Bool). if b then Some (form_row number bytes)
    ∷ content_rows more (number + 1) (behind_form bytes) else None ∷ []) is

pub content_rows-bad : (more number : ℕ) (bytes : List ℕ) → begins_form bytes ≡ false
    → content_rows (suc more) number bytes ≡ None ∷ []
unfolding content_rows
content_rows-bad more number bytes is =
    ap (λ (b : Bool). if b then Some (form_row number bytes)
    ∷ content_rows more (number + 1) (behind_form bytes) else None ∷ []) is

pub content_rows-none : (number : ℕ) → content_rows zero number [] ≡ []
unfolding content_rows
content_rows-none number = refl

pub content_rows-more : (number : ℕ) (bytes : List ℕ) → 1 ≤ length bytes
    → content_rows zero number bytes ≡ None ∷ []
unfolding content_rows
content_rows-more number [] some = absurd (omega (arith, some))
content_rows-more number (byte ∷ bytes) some = refl

-- what was read in front of content
pub record StandsFirst (number : ℕ) (bytes row : List ℕ) (taken : ℕ) : Type 0 where
  pub is : begins_form bytes ≡ true
  pub same : form_row number bytes ≡ row
  pub behind : behind_form bytes ≡ drop taken bytes
  pub within : taken ≤ length bytes

first_of_same : (x y : ℕ) (xs ys : List ℕ) → x ∷ xs ≡ y ∷ ys → x ≡ y
first_of_same x y xs ys same = cc

rest_of_same : (x y : ℕ) (xs ys : List ℕ) → x ∷ xs ≡ y ∷ ys → xs ≡ ys
rest_of_same x y xs ys same = cc

no_form : (x : ℕ) (xs : List ℕ) → [] ≡ x ∷ xs → ⊥
no_form x xs is = absurd cc

some_by : (n : ℕ) → (n ≡ 0 → ⊥) → 1 ≤ n
some_by zero other = absurd (other refl)
some_by (suc n) other = omega arith

pub stands_first : (number : ℕ) (bytes row : List ℕ) (taken : ℕ)
    → IsReadAs ROW_BYTES number bytes row taken
    → (EndsEarly ROW_BYTES bytes → ⊥) → (IsFaulty ROW_BYTES bytes → ⊥)
    → StandsFirst number bytes row taken
stands_first number [] row taken read early faulty = absurd (early (inl refl))
stands_first number (first ∷ rest) row taken read early faulty =
    let size : taken ≡ suc (length (short_row row)) = read.end in
    let form : first ∷ take (length (short_row row)) rest ≡ length (short_row row) ∷ short_row row =
    sym (ap (λ (n : ℕ). take n (first ∷ rest)) size) ∙ read.form in
    let said : first ≡ length (short_row row) =
    first_of_same first (length (short_row row)) (take (length (short_row row)) rest)
    (short_row row) form in
    let short : take (length (short_row row)) rest ≡ short_row row =
    rest_of_same first (length (short_row row)) (take (length (short_row row)) rest)
    (short_row row) form in
    let some : 1 ≤ first = some_by first (λ none. faulty (no_nil, inl none)) in
    let most : first ≤ ROW_BYTES - LEFT_OUT =
    most_by first (ROW_BYTES - LEFT_OUT) (λ more. faulty (no_nil, inr (inl more))) in
    let there : first < length (first ∷ rest) =
    there_by first (length (first ∷ rest)) (λ short. early (inr (some, most, short))) in
    let last : get_or (first ∷ rest) first 0 ≢ 0 =
    λ zero_is. faulty (no_nil, inr (inr (there, zero_is))) in
    let back : row ≡ row_of ROW_BYTES number (short_row row) =
    row_again number row read.numbered (omega (arith, said, some)) in
    record {
      is = begins (first ∷ rest) some most there last;
      same = ap (λ (n : ℕ). row_of ROW_BYTES number (take n rest)) said
          ∙ ap (λ (l : List ℕ). row_of ROW_BYTES number l) short ∙ sym back;
      behind = ap (λ (n : ℕ). drop n (first ∷ rest)) (omega (arith, said, size));
      within = omega (arith, size, said, there);
    }
  where
    no_nil : (first ∷ rest) ≢ []
    no_nil is = no_form first rest (sym is)

    most_by : (n m : ℕ) → (m < n → ⊥) → n ≤ m
    most_by n m not_more = ⊎_elim (λ less. absurd (not_more less)) (λ le. le) (cases_lt m n)

    there_by : (n m : ℕ) → (m ≤ n → ⊥) → n < m
    there_by n m not_more = ⊎_elim (λ less. less) (λ le. absurd (not_more le)) (cases_lt n m)
