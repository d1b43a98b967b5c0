-- Lists on which a test holds of the first items and of none behind them.
use Rattle.std.proofs.Common.{◌≡◌, ℕ, suc, ◌+◌, ◌<◌, Bool, true, false, cond, eqb, ◌⊎◌, inl, inr, List, [], ◌∷◌, ◌++◌, length, count_by, refl, sym, ◌∙◌, ap, subst, arith}
use Rattle.std.specs.List.{insert, All}
use Rattle.std.proofs.lemmas.Bool.{cases_Bool, cases_eq}
use Rattle.std.proofs.lemmas.List.Sums.{sum_by-cons, sum_by-insert}
use Rattle.std.proofs.lemmas.List.Elements.{All-head, All-tail}
use Rattle.name_table.specs.Search.{Falls}

module _ {T : Type 0} (test : T → Bool) where
  pub count-holds : (x : T) (xs : List T) → test x ≡ true
      → count_by test (x ∷ xs) ≡ suc (count_by test xs)
  count-holds x xs holds = sum_by-cons (λ y. cond (test y) 1 0) x xs ∙ rw holds (omega arith)

  pub count-no : (x : T) (xs : List T) → test x ≡ false
      → count_by test (x ∷ xs) ≡ count_by test xs
  count-no x xs fails = sum_by-cons (λ y. cond (test y) 1 0) x xs ∙ rw fails (omega arith)

  -- where none is counted, none is in front either
  none_front : (l r : List T) → count_by test (l ++ r) ≡ 0 → count_by test l ≡ 0
  none_front [] r nothing = refl
  none_front (y ∷ l) r nothing = elim (cases_Bool (test y)) [
    | inl holds ↦ absurd (omega (arith, count-holds y (l ++ r) holds, nothing))
    | inr fails ↦ count-no y l fails
        ∙ none_front l r (sym (count-no y (l ++ r) fails) ∙ nothing)
  ]

  pub Falls-front : (l r : List T) → Falls test (l ++ r) → Falls test l
  Falls-front [] r falls = tt
  Falls-front (y ∷ l) r falls = (
    λ fails. none_front l r (falls.0 fails),
    Falls-front l r falls.1,
  )

  Falls-back : (l r : List T) → Falls test (l ++ r) → Falls test r
  Falls-back [] r falls = falls
  Falls-back (y ∷ l) r falls = Falls-back l r falls.1

  pub Falls_behind : (l : List T) (x : T) (r : List T) → Falls test (l ++ x ∷ r) → Falls test r
  Falls_behind l x r falls = (Falls-back l (x ∷ r) falls).1

  -- before an item of which it holds it holds of all
  pub count_past : (l : List T) (x : T) (r : List T) → Falls test (l ++ x ∷ r) → test x ≡ true
      → count_by test (l ++ x ∷ r) ≡ length l + 1 + count_by test r
  count_past [] x r falls holds = count-holds x r holds ∙ omega arith
  count_past (y ∷ l) x r falls holds =
      let rest = count_past l x r falls.1 holds in
      elim (cases_Bool (test y)) [
        | inl first ↦ count-holds y (l ++ x ∷ r) first ∙ omega (arith, rest)
        | inr fails ↦ absurd (omega (arith, falls.0 fails, rest))
      ]

  -- behind an item of which it doesn't hold it holds of none
  pub count_before : (l : List T) (x : T) (r : List T) → Falls test (l ++ x ∷ r)
      → test x ≡ false → count_by test (l ++ x ∷ r) ≡ count_by test l
  count_before [] x r falls fails = count-no x r fails ∙ falls.0 fails
  count_before (y ∷ l) x r falls fails =
      let rest = count_before l x r falls.1 fails in
      elim (cases_Bool (test y)) [
        | inl first ↦ count-holds y (l ++ x ∷ r) first ∙ ap suc rest ∙ sym (count-holds y l first)
        | inr other ↦ count-no y (l ++ x ∷ r) other ∙ rest ∙ sym (count-no y l other)
      ]

-- where a test holds of none it fails of each item that is there
pub fails_of : (test : ℕ → Bool) (item : ℕ) (xs : List ℕ) → count_by test xs ≡ 0
    → 0 < count_by (λ other. eqb other item) xs → test item ≡ false
fails_of test item [] nothing there = absurd (omega (arith, there))
fails_of test item (x ∷ xs) nothing there = elim (cases_Bool (test x)) [
  | inl holds ↦ absurd (omega (arith, count-holds test x xs holds, nothing))
  | inr fails ↦ elim (cases_eq x item) [
    | inl same ↦ ap test (sym same) ∙ fails
    | inr differs ↦ fails_of test item xs (sym (count-no test x xs fails) ∙ nothing)
        (subst (λ n. 0 < n) (count-no (λ other. eqb other item) x xs
        (Rattle.std.proofs.lemmas.Bool.ne_eqb x item differs)) there)
  ]
]

-- tests that agree on all items
pub count-agree : {T : Type 0} (s t : T → Bool) (xs : List T) → All (λ x. s x ≡ t x) xs
    → count_by s xs ≡ count_by t xs
count-agree s t [] same = refl
count-agree {T} s t (x ∷ xs) same =
    let here : s x ≡ t x = All-head (λ y. s y ≡ t y) x xs same in
    let rest = count-agree s t xs (All-tail (λ y. s y ≡ t y) x xs same) in
    sum_by-cons (λ y. cond (s y) 1 0) x xs ∙ (λ i. cond (here i) 1 0 + rest i)
    ∙ sym (sum_by-cons (λ y. cond (t y) 1 0) x xs)

pub Falls-agree : {T : Type 0} (s t : T → Bool) (xs : List T) → All (λ x. s x ≡ t x) xs
    → Falls s xs → Falls t xs
Falls-agree s t [] same falls = tt
Falls-agree s t (x ∷ xs) same falls =
    let here : s x ≡ t x = All-head (λ y. s y ≡ t y) x xs same in
    let rest = All-tail (λ y. s y ≡ t y) x xs same in (
      λ fails. sym (count-agree s t xs rest) ∙ falls.0 (here ∙ fails),
      Falls-agree s t xs rest falls.1,
    )

-- an item put behind those of which one test holds, where another test goes with that one
module _ {T : Type 0} (s t : T → Bool) (y : T)
    (with_yes : t y ≡ true → (x : T) → s x ≡ true → t x ≡ true)
    (with_no : t y ≡ false → (x : T) → s x ≡ false → t x ≡ false) where
  none_put : (xs : List T) (place : ℕ) → count_by t xs ≡ 0 → t y ≡ false
      → count_by t (insert xs place y) ≡ 0
  none_put xs place nothing fails = sum_by-insert (λ z. cond (t z) 1 0) xs place y
      ∙ rw fails (omega (arith, nothing))

  pub Falls-insert : (xs : List T) → Falls s xs → Falls t xs
      → Falls t (insert xs (count_by s xs) y)
  Falls-insert [] first falls = (λ _. refl, tt)
  Falls-insert (x ∷ xs) first falls = elim (cases_Bool (s x)) [
    | inl holds ↦
        rw (count-holds s x xs holds) (
          λ fails. none_put xs (count_by s xs) (falls.0 fails) (own x fails holds (cases_Bool (t y))),
          Falls-insert xs first.1 falls.1,
        )
    | inr fails ↦
        rw (count-no s x xs fails ∙ first.0 fails) (
          λ own_fails. count-no t x xs (with_no own_fails x fails)
              ∙ falls.0 (with_no own_fails x fails),
          falls,
        )
  ]
    where
      own : (x : T) → t x ≡ false → s x ≡ true → (t y ≡ true) ⊎ (t y ≡ false) → t y ≡ false
      own x fails holds (inl there) =
          absurd (let clash : true ≡ false = sym (with_yes there x holds) ∙ fails in cc)
      own x fails holds (inr not_there) = not_there
