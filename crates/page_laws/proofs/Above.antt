-- Numbers that ascend, and those of them that are above one.
use Rattle.std.proofs.Common.{◌≡◌, ℕ, zero, suc, ◌+◌, ◌<◌, ◌≤◌, nat_lt, Bool, true, false, if◌then◌else◌, List, [], ◌∷◌, ◌++◌, length, take, filter, refl, sym, ◌∙◌, ap, subst, arith, length-append}
use Rattle.std.proofs.lemmas.Bool.Decides.{nat_tests}
use Rattle.std.proofs.lemmas.List.{nil_from_length}
use Rattle.book_words.proofs.DrawnPacks.{AscendWithin, ascend-wider}

-- those above one
abbrev pub above : ℕ → List ℕ → List ℕ
above after numbers = filter (λ number. nat_lt after number) numbers

-- the last of some; of none it is this one
abbrev pub last_of : ℕ → List ℕ → ℕ
last_of after [] = after
last_of after (number ∷ numbers) = last_of number numbers

is_above : (after number : ℕ) → after < number → nat_lt after number ≡ true
is_above after number h = grind (arith, nat_tests, h)

not_above : (after number : ℕ) → number ≤ after → nat_lt after number ≡ false
not_above after number h = grind (arith, nat_tests, h)

abbrev kept : Bool → ℕ → List ℕ → List ℕ
kept test number numbers = if test then number ∷ numbers else numbers

-- where they ascend from a number on, all are above the one before it
all_above : (after most : ℕ) (numbers : List ℕ) → AscendWithin (after + 1) most numbers
    → above after numbers ≡ numbers
all_above after most [] up = refl
all_above after most (number ∷ numbers) up =
    let least = up.0 in
    ap (λ b. kept b number (above after numbers)) (is_above after number (omega (arith, least)))
    ∙ ap (λ ns. number ∷ ns) (all_above after most numbers
    (ascend-wider (number + 1) (after + 1) most most numbers (omega (arith, least)) (omega arith)
    up.2))

-- those above one ascend from there on
above_ascend : (after least most : ℕ) (numbers : List ℕ) → AscendWithin least most numbers
    → AscendWithin (after + 1) most (above after numbers)
above_ascend after least most [] up = tt
above_ascend after least most (number ∷ numbers) up =
    by (nat_lt after number) refl (above_ascend after (number + 1) most numbers up.2)
  where
    by : (b : Bool) → nat_lt after number ≡ b
        → AscendWithin (after + 1) most (above after numbers)
        → AscendWithin (after + 1) most (kept b number (above after numbers))
    by true e rest =
        let more : after < number = grind (arith, nat_tests) in (
          omega (arith, more),
          up.1,
          subst (AscendWithin (number + 1) most)
              (sym (all_above after most numbers
              (ascend-wider (number + 1) (after + 1) most most numbers (omega (arith, more))
              (omega arith) up.2))) up.2,
        )
    by false e rest = rest

-- those above a later one are the same among those above an earlier one
above_later : (after later : ℕ) (numbers : List ℕ) → after ≤ later
    → above later (above after numbers) ≡ above later numbers
above_later after later [] h = refl
above_later after later (number ∷ numbers) h =
    by (nat_lt after number) refl (above_later after later numbers h)
  where
    by : (b : Bool) → nat_lt after number ≡ b
        → above later (above after numbers) ≡ above later numbers
        → above later (kept b number (above after numbers)) ≡ above later (number ∷ numbers)
    by true e same = ap (λ ns. kept (nat_lt later number) number ns) same
    by false e same =
        let less : number ≤ after = grind (arith, nat_tests) in
        same
        ∙ sym (ap (λ b. kept b number (above later numbers))
        (not_above later number (omega (arith, less, h))))

-- the last of the first isn't below the one from which they ascend
last_least : (count after most : ℕ) (numbers : List ℕ) → AscendWithin (after + 1) most numbers
    → after ≤ last_of after (take count numbers)
last_least zero after most numbers up = omega arith
last_least (suc count) after most [] up = omega arith
last_least (suc count) after most (number ∷ numbers) up =
    let least = up.0 in
    let rest = last_least count number most numbers up.2 in omega (arith, least, rest)

-- the first of them, and those above the last of these
first_and_rest : (count after most : ℕ) (numbers : List ℕ) → AscendWithin (after + 1) most numbers
    → take count numbers ++ above (last_of after (take count numbers)) numbers ≡ numbers
first_and_rest zero after most numbers up = all_above after most numbers up
first_and_rest (suc count) after most [] up = refl
first_and_rest (suc count) after most (number ∷ numbers) up =
    let last = last_of number (take count numbers) in
    ap (λ ns. number ∷ ns)
    (ap (λ b. take count numbers ++ kept b number (above last numbers))
    (not_above last number (last_least count number most numbers up.2))
    ∙ first_and_rest count number most numbers up.2)

-- so the first of those above one, and all above the last of these, are all above the one
pub page_and_rest : (count after least most : ℕ) (numbers : List ℕ)
    → AscendWithin least most numbers
    → take count (above after numbers)
    ++ above (last_of after (take count (above after numbers))) numbers
    ≡ above after numbers
page_and_rest count after least most numbers up =
    let page = take count (above after numbers) in
    let ascend = above_ascend after least most numbers up in
    ap (λ ns. page ++ ns) (sym (above_later after (last_of after page) numbers
    (last_least count after most (above after numbers) ascend)))
    ∙ first_and_rest count after most (above after numbers) ascend

-- where the first of some are none, they are none
pub none_first : (count : ℕ) (numbers : List ℕ) → 0 < count → take count numbers ≡ [] → numbers ≡ []
none_first zero numbers some h = absurd (omega (arith, some))
none_first (suc count) [] some h = refl
none_first (suc count) (number ∷ numbers) some h = absurd (cc)

-- where the first of some are fewer than they may be, they are all
whole_first : (count : ℕ) (numbers : List ℕ) → length (take count numbers) < count
    → take count numbers ≡ numbers
whole_first zero numbers few = absurd (omega (arith, few))
whole_first (suc count) [] few = refl
whole_first (suc count) (number ∷ numbers) few =
    ap (λ ns. number ∷ ns) (whole_first count numbers (omega (arith, few)))

no_more : (some more : List ℕ) → some ++ more ≡ some → more ≡ []
no_more some more same =
    let long = sym (length-append some more) ∙ ap length same in
    nil_from_length more (omega (arith, long))

-- and above the last of them there is none
pub none_behind : (count after least most : ℕ) (numbers : List ℕ)
    → AscendWithin least most numbers → length (take count (above after numbers)) < count
    → above (last_of after (take count (above after numbers))) numbers ≡ []
none_behind count after least most numbers up few =
    let page = take count (above after numbers) in
    no_more page (above (last_of after page) numbers)
    (page_and_rest count after least most numbers up
    ∙ sym (whole_first count (above after numbers) few))
