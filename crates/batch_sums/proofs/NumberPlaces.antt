-- The pack of a number, by the place at which the number stands.
use Rattle.std.proofs.Common.{◌≡◌, ℕ, zero, suc, ◌+◌, ◌<◌, ◌≤◌, Bool, true, false, cond, not, ◌||◌, eqb, ltb, inl, inr, List, [], ◌∷◌, ◌++◌, length, map, get_or, None, Some, is_some, Result, Ok, Err, refl, ap, sym, subst, ◌∙◌, arith, true≢false, length-append}
use Rattle.std.specs.List.{All, count_by, find, list_any, position, position_or_len, slice_get}
use Rattle.std.specs.List.Sorted.{IsSearchInRange, IsBinarySearchResult, IsNonDecreasingBy}
use Rattle.std.specs.Ordering.{nat_cmp, ordering_index}
use Rattle.std.specs.Result.{result_ok}
use Rattle.std.specs.Option.{option_and_then}
use Rattle.std.proofs.lemmas.Bool.{cases_eq, cases_lt, eq-eqb, ne_eqb, ltb-false, lt-ltb, le-ltb}
use Rattle.std.proofs.lemmas.Bool.Decides.{nat_tests}
use Rattle.std.proofs.lemmas.Cmp.{ranked}
use Rattle.std.proofs.lemmas.List.{length-map, get_or-map, get_or_append_left, get_or_at, get_or_default}
use Rattle.std.proofs.lemmas.List.Folds.{find_at, list_any_none}
use Rattle.std.proofs.lemmas.List.Sorted.{IsNonDecreasingBy-from_default}
use Rattle.std.proofs.lemmas.List.Sums.{sum_by-cons}
use Rattle.std.proofs.lemmas.Option.{slice_get_past}
use Rattle.batch_sums.specs.declared.types.Held.{Held}
use Rattle.pack_groups.specs.Groups.{Face}
use Rattle.pack_judge.specs.declared.types.Pile.TheVariants.{Passed}
use Rattle.batch_sums.specs.Kept.{seen, IsRising}
use Rattle.batch_sums.specs.Invariant.{numbers_held}

module _ (some : List Face) (number : ℕ) where
  eqb-turned : (other : ℕ) → eqb other number ≡ eqb number other
  eqb-turned other =
      elim (cases_eq other number) [
        | inl same ↦ eq-eqb other number same ∙ sym (eq-eqb number other (sym same))
        | inr differs ↦ ne_eqb other number differs
            ∙ sym (ne_eqb number other (λ same. differs (sym same)))
      ]

  -- a number stands where its pack does
  same_place : (held : List Held)
      → position_or_len (λ pack. eqb pack.number number) (map (seen some) held)
      ≡ position_or_len (λ other. eqb number other) (map (λ p. p.number) held)
  same_place [] = refl
  same_place (h ∷ held) = λ i. cond (not (eqb-turned h.number i)) (1 + same_place held i) 0

  pub find-numbered : (held : List Held)
      → find (λ pack. eqb pack.number number) (map (seen some) held)
      ≡ option_and_then (slice_get (map (seen some) held))
      (position (λ other. eqb number other) (map (λ p. p.number) held))
  find-numbered held =
      let place = position_or_len (λ other. eqb number other) (map (λ p. p.number) held) in
      find_at (λ pack. eqb pack.number number) (map (seen some) held)
      ∙ ap (slice_get (map (seen some) held)) (same_place held)
      ∙ by place (ltb place (length (map (λ p. p.number) held))) refl
    where
      by : (place : ℕ) (b : Bool) → ltb place (length (map (λ p. p.number) held)) ≡ b
          → slice_get (map (seen some) held) place
          ≡ option_and_then (slice_get (map (seen some) held)) (cond b (Some place) None)
      by place true is = refl
      by place false is =
          let past = ltb-false place (length (map (λ p. p.number) held)) is in
          slice_get_past (map (seen some) held) place
          (omega (
            arith,
            past,
            length-map held (λ (p : Held). p.number),
            length-map held (seen some),
          ))

-- what stands nowhere
absent_place : (number : ℕ) (numbers : List ℕ) → list_any (λ other. eqb number other) numbers ≡ false
    → position_or_len (λ other. eqb number other) numbers ≡ length numbers
absent_place number [] none = refl
absent_place number (first ∷ numbers) none =
    elim (cases_eq number first) [
      | inl same ↦
          absurd (true≢false (sym
          (ap (λ b. b || list_any (λ other. eqb number other) numbers) (eq-eqb number first same))
          ∙ none))
      | inr differs ↦
          let no = ne_eqb number first differs in
          let rest = sym (ap (λ b. b || list_any (λ other. eqb number other) numbers) no) ∙ none in
          omega (
            arith,
            ap (λ b. cond (not b) (1 + position_or_len (λ other. eqb number other) numbers) 0) no,
            absent_place number numbers rest,
          )
    ]

pub absent_is : (number : ℕ) (numbers : List ℕ)
    → list_any (λ other. eqb number other) numbers ≡ false
    → position (λ other. eqb number other) numbers ≡ None
absent_is number numbers none =
    let test : ℕ → Bool = λ other. eqb number other in
    let at = absent_place number numbers none in
    ap (λ b. cond b (Some (position_or_len test numbers)) None)
    (le-ltb (position_or_len test numbers) (length numbers) (omega (arith, at)))

-- rising numbers
pub rising_push : (numbers : List ℕ) (next : ℕ) → IsRising numbers
    → All (λ number. number < next) numbers → IsRising (numbers ++ next ∷ [])
rising_push numbers next rising below place other less within =
    let long = length-append numbers (next ∷ []) in
    let first : place < length numbers = omega (arith, less, within, long) in
    let stays = get_or_append_left numbers (next ∷ []) 0 place first in
    elim (cases_lt other (length numbers)) [
      | inl before ↦
          omega (
            arith,
            stays,
            get_or_append_left numbers (next ∷ []) 0 other before,
            rising place other less before,
          )
      | inr last ↦
          let same : length numbers ≡ other = omega (arith, within, long, last) in
          omega (
            arith,
            stays,
            get_or_at numbers next [] 0 other same,
            below place 0 first,
          )
    ]

-- none stands twice
none_again : (number : ℕ) (held : List Held)
    → ((place : ℕ) → place < length held → number < get_or (numbers_held held) place 0)
    → count_by (λ p. eqb p.number number) held ≡ 0
none_again number [] above = refl
none_again number (h ∷ held) above =
    let first = above 0 (omega arith) in
    let no : cond (eqb h.number number) (suc zero) zero ≡ zero =
    ap (λ b. cond b (suc zero) zero) (ne_eqb h.number number (λ same. omega (arith, first, same))) in
    omega (
      arith,
      sum_by-cons (λ p. cond (eqb p.number number) 1 0) h held,
      no,
      none_again number held (λ place less. above (suc place) (omega (arith, less))),
    )

pub rising_apart : (number : ℕ) (held : List Held) → IsRising (numbers_held held)
    → count_by (λ p. eqb p.number number) held ≤ 1
rising_apart number [] rising = omega arith
rising_apart number (h ∷ held) rising =
    let cons = sum_by-cons (λ (p : Held). cond (eqb p.number number) 1 0) h held in
    elim (cases_eq h.number number) [
      | inl same ↦
          let one : cond (eqb h.number number) (suc zero) zero ≡ suc zero =
          ap (λ b. cond b (suc zero) zero) (eq-eqb h.number number same) in
          let rest = none_again number held (λ place less.
          subst (λ n. n < get_or (numbers_held held) place 0) same
          (rising 0 (suc place) (omega arith)
          (omega (arith, less, length-map held (λ (p : Held). p.number))))) in
          omega (arith, cons, one, rest)
      | inr differs ↦
          let no : cond (eqb h.number number) (suc zero) zero ≡ zero =
          ap (λ b. cond b (suc zero) zero) (ne_eqb h.number number differs) in
          let rest = rising_apart number held (λ place other less within.
          rising (suc place) (suc other) (omega (arith, less)) (omega (arith, within))) in
          omega (arith, cons, no, rest)
    ]

-- the first place of a number
first_place : (number : ℕ) (numbers : List ℕ) (place : ℕ) → place < length numbers
    → get_or numbers place 0 ≡ number
    → ((other : ℕ) → other < place → get_or numbers other 0 ≡ number → ⊥)
    → position_or_len (λ other. eqb number other) numbers ≡ place
first_place number [] place within is apart = absurd (omega (arith, within))
first_place number (first ∷ numbers) zero within is apart =
    ap (λ b. cond (not b) (1 + position_or_len (λ other. eqb number other) numbers) 0)
    (eq-eqb number first (sym is))
first_place number (first ∷ numbers) (suc place) within is apart =
    let later = position_or_len (λ other. eqb number other) numbers in
    let rest = first_place number numbers place (omega (arith, within)) is
    (λ other less. apart (suc other) (omega (arith, less))) in
    let next : later + 1 ≡ suc place = omega (arith, rest) in
    ap (λ b. cond (not b) (1 + later) 0)
    (ne_eqb number first (λ same. apart 0 (omega arith) (sym same)))
    ∙ (let turned : 1 + later ≡ suc place = omega (arith, rest) in turned)

-- what a search by halves finds among packs with rising numbers
module _ (held : List Held) (rising : IsRising (numbers_held held)) (number : ℕ) where
  some : Held
  some = record {
    number = 0;
    group = 0;
    links = record { before = 0; skip = 0; rank = 0 };
    gross = 0;
    pile = Passed;
  }

  read : (place : ℕ) → place < length held
      → get_or (numbers_held held) place 0 ≡ (get_or held place some).number
  read place within = get_or-map (λ (p : Held). p.number) held place some 0 within

  long : length (numbers_held held) ≡ length held
  long = length-map held (λ (p : Held). p.number)

  answers_rise : IsNonDecreasingBy (λ (h : Held). ordering_index (nat_cmp h.number number)) held
  answers_rise = IsNonDecreasingBy-from_default
      (λ (h : Held). ordering_index (nat_cmp h.number number)) held some
      (λ i j less within.
      let rise : (get_or held i some).number ≤ (get_or held j some).number =
      elim (cases_lt i j) [
        | inl before ↦
            omega (
              arith,
              rising i j before (omega (arith, within, long)),
              read i (omega (arith, less, within)),
              read j within,
            )
        | inr not_before ↦
            let same : i ≡ j = omega (arith, less, not_before) in
            subst (λ n. (get_or held i some).number ≤ (get_or held n some).number) same
            (omega arith)
      ] in
      higher (get_or held i some).number (get_or held j some).number rise)
    where
      higher : (a b : ℕ) → a ≤ b
          → ordering_index (nat_cmp a number) ≤ ordering_index (nat_cmp b number)
      higher a b less = grind (arith, nat_tests)

  pub place_found : (found : Result ℕ ℕ) → IsSearchInRange found (length held)
      → IsBinarySearchResult (λ (h : Held). nat_cmp h.number number) held found
      → result_ok found ≡ position (λ other. eqb number other) (numbers_held held)
  place_found (Ok place) within equal =
      let at : get_or (numbers_held held) place 0 ≡ number =
      read place within ∙ ranked _ number _ (sym (equal some)) in
      let inside : place < length (numbers_held held) = omega (arith, within, long) in
      let first = first_place number (numbers_held held) place inside at
      (λ other less same. omega (arith, rising other place less inside, at, same)) in
      sym ((λ i. cond (ltb (first i) (length (numbers_held held))) (Some (first i)) None)
      ∙ ap (λ b. cond b (Some place) None) (lt-ltb place (length (numbers_held held)) inside))
  place_found (Err place) within parted =
      sym (absent_is number (numbers_held held) (list_any_none (λ other. eqb number other)
      (numbers_held held) (λ other d inside. ne_eqb number (get_or (numbers_held held) other d)
      (λ same. absent other (omega (arith, inside, long))
      (sym (get_or_default (numbers_held held) other d 0 inside) ∙ sym same)))))
    where
      absent : (other : ℕ) → other < length held → get_or (numbers_held held) other 0 ≡ number → ⊥
      absent other inside same =
          elim (cases_lt other place) [
            | inl before ↦
                let less : (get_or held other some).number < number =
                ranked _ number _ (sym ((parted answers_rise).0 other some (omega arith) before)) in
                omega (arith, less, read other inside, same)
            | inr behind ↦
                let more : number < (get_or held other some).number =
                ranked _ number _ (sym ((parted answers_rise).1 other some behind inside)) in
                omega (arith, more, read other inside, same)
          ]

present_place : (number : ℕ) (numbers : List ℕ)
    → list_any (λ other. eqb number other) numbers ≡ true
    → position_or_len (λ other. eqb number other) numbers < length numbers
present_place number [] is = absurd (true≢false (sym is))
present_place number (first ∷ numbers) is =
    let later = position_or_len (λ other. eqb number other) numbers in
    elim (cases_eq number first) [
      | inl same ↦ omega (arith, ap (λ b. cond (not b) (1 + later) 0) (eq-eqb number first same))
      | inr differs ↦
          let no = ne_eqb number first differs in
          let rest = sym (ap (λ b. b || list_any (λ other. eqb number other) numbers) no) ∙ is in
          omega (arith, ap (λ b. cond (not b) (1 + later) 0) no, present_place number numbers rest)
    ]

-- a number that is there has a place
pub found_nowhere : (number : ℕ) (numbers : List ℕ)
    → list_any (λ other. eqb number other) numbers ≡ true
    → position (λ other. eqb number other) numbers ≡ None → ⊥
found_nowhere number numbers is none =
    let place = position_or_len (λ other. eqb number other) numbers in
    true≢false (sym (ap (λ b. is_some (cond b (Some place) None))
    (lt-ltb place (length numbers) (present_place number numbers is))) ∙ ap is_some none)
