-- Entries that are carried one by one.
use Rattle.std.proofs.Common.{◌≡◌, ◌≢◌, inl, inr, true, nat_le, if◌then◌else◌, ℕ, zero, suc, ◌+◌, ◌-◌, ◌<◌, ◌≤◌, List, [], ◌∷◌, ◌++◌, length, Some, None, slice_get, refl, sym, ap, ◌∙◌, arith, append_assoc, append-nil, length-append}
use Rattle.std.proofs.lemmas.Bool.Decides.{nat_tests}
use Rattle.book_words.specs.declared.act.Entry.{Entry}
use Rattle.book_words.specs.Answers.{IsLawful}
use Rattle.book_store.specs.Stores.{entry_numbered}
use Rattle.store_runs.specs.Carrying.{IsLonger, MayCome}

-- ---- lists

get_past : (xs : List Entry) (k : ℕ) → length xs ≤ k → slice_get xs k ≡ None
get_past [] k past = refl
get_past (x ∷ xs) zero past = absurd (omega (arith, past))
get_past (x ∷ xs) (suc k) past = get_past xs k (omega (arith, past))

pub get_inside : (xs : List Entry) (k : ℕ) (x : Entry) → slice_get xs k ≡ Some x → k < length xs
get_inside [] k x is = absurd cc
get_inside (y ∷ ys) zero x is = omega arith
get_inside (y ∷ ys) (suc k) x is = omega (arith, get_inside ys k x is)

pub get_none : (xs : List Entry) (k : ℕ) → slice_get xs k ≡ None → length xs ≤ k
get_none [] k is = omega arith
get_none (x ∷ xs) zero is = absurd cc
get_none (x ∷ xs) (suc k) is = omega (arith, get_none xs k is)

-- what stands behind a front
behind_front : (front more : List Entry) (x : Entry)
    → slice_get (front ++ more) (length front) ≡ Some x → (rest : List Entry) × (more ≡ x ∷ rest)
behind_front [] [] x is = absurd cc
behind_front [] (y ∷ more) x is = (more, ap (λ z. z ∷ more) (some_same y x is))
  where
    some_same : (y x : Entry) → Some y ≡ Some x → y ≡ x
    some_same y x is = cc
behind_front (y ∷ front) more x is = behind_front front more x is

pub no_more : (front more : List Entry) → length (front ++ more) ≤ length front → more ≡ []
no_more front [] fits = refl
no_more front (x ∷ more) fits = absurd (omega (arith, fits, length-append front (x ∷ more)))

-- ---- the longer of two lists

-- the book has the next entry
pub longer_same : (held carried rows : List Entry) (entry : Entry) → IsLonger held carried rows
    → slice_get rows (length carried) ≡ Some entry → IsLonger held (carried ++ entry ∷ []) rows
longer_same held carried rows entry (inl (front, is)) has =
    let there : slice_get (carried ++ front.0) (length carried) ≡ Some entry =
    ap (λ (l : List Entry). slice_get l (length carried)) (sym front.1)
    ∙ ap (λ (l : List Entry). slice_get l (length carried)) (sym is) ∙ has in
    let more = behind_front carried front.0 entry there in
    inl (
      (
        more.0,
        front.1 ∙ ap (λ (l : List Entry). carried ++ l) more.1
            ∙ sym (append_assoc carried (entry ∷ []) more.0),
      ),
      is,
    )
longer_same held carried rows entry (inr (front, is)) has =
    absurd (omega (arith, get_inside rows (length carried) entry has, ap length is))

-- the next entry is added to the book
pub longer_more : (held carried rows : List Entry) (entry : Entry) → IsLonger held carried rows
    → length rows ≤ length carried → IsLonger held (carried ++ entry ∷ []) (rows ++ entry ∷ [])
longer_more held carried rows entry (inl (front, is)) few =
    let none : front.0 ≡ [] = no_more carried front.0
    (omega (arith, ap length is, ap length front.1, few)) in
    let same : held ≡ carried = front.1 ∙ ap (λ (l : List Entry). carried ++ l) none
    ∙ append-nil carried in
    inr (
      (entry ∷ [], ap (λ (l : List Entry). l ++ entry ∷ []) (sym same)),
      ap (λ (l : List Entry). l ++ entry ∷ []) (is ∙ same),
    )
longer_more held carried rows entry (inr (front, is)) few =
    inr (
      (
        front.0 ++ entry ∷ [],
        ap (λ (l : List Entry). l ++ entry ∷ []) front.1
            ∙ append_assoc held front.0 (entry ∷ []),
      ),
      ap (λ (l : List Entry). l ++ entry ∷ []) is,
    )

-- rows of the book that stand behind what was carried are those that it held
held_there : (held carried rows : List Entry) (entry : Entry) → IsLonger held carried rows
    → slice_get rows (length carried) ≡ Some entry → slice_get held (length carried) ≡ Some entry
held_there held carried rows entry (inl (front, is)) has =
    ap (λ (l : List Entry). slice_get l (length carried)) (sym is) ∙ has
held_there held carried rows entry (inr (front, is)) has =
    absurd (omega (arith, get_inside rows (length carried) entry has, ap length is))

held_short : (held carried rows : List Entry) → IsLonger held carried rows → length held ≤ length rows
held_short held carried rows (inl (front, is)) = omega (arith, ap length is)
held_short held carried rows (inr (front, is)) =
    omega (arith, ap length is, ap length front.1, length-append held front.0)

-- ---- a row that may not come next

-- no entry may come that isn't the one of the row
pub not_another : (held carried rows : List Entry) (entry other : Entry)
    → IsLonger held carried rows → slice_get rows (length carried) ≡ Some other → other ≢ entry
    → ¬ MayCome (length carried) held rows entry
not_another held carried rows entry other longer has differs (inl same) =
    differs (some_same other entry (sym (held_there held carried rows other longer has) ∙ same))
  where
    some_same : (y x : Entry) → Some y ≡ Some x → y ≡ x
    some_same y x is = cc
not_another held carried rows entry other longer has differs (inr (past, lawful)) =
    absurd (omega (
      arith,
      past,
      get_inside held (length carried) other
          (held_there held carried rows other longer has),
    ))

pub not_unlawful : (held carried rows : List Entry) (entry : Entry) → IsLonger held carried rows
    → slice_get rows (length carried) ≡ None → ¬ IsLawful rows entry
    → ¬ MayCome (length carried) held rows entry
not_unlawful held carried rows entry longer none unlawful (inl there) =
    absurd (omega (
      arith,
      get_inside held (length carried) entry there,
      held_short held carried rows longer,
      get_none rows (length carried) none,
    ))
not_unlawful held carried rows entry longer none unlawful (inr (past, lawful)) = unlawful lawful

-- the entry of the next number
pub numbered_next : (rows : List Entry) (k number : ℕ) → number ≡ k + 1
    → entry_numbered rows number ≡ slice_get rows k
numbered_next rows k number is =
    let first : nat_le 1 (k + 1) ≡ true = grind (arith, nat_tests) in
    let place : k + 1 - 1 ≡ k = omega arith in
    ap (entry_numbered rows) is ∙ ap (λ b. if b then slice_get rows (k + 1 - 1) else None) first
    ∙ ap (slice_get rows) place
