-- The header of a journal of version 1, as a test.
use Rattle.std.proofs.Common.{◌≡◌, ◌≢◌, inl, inr, ⊎_elim, ℕ, zero, suc, ◌-◌, ◌<◌, ◌≤◌, Bool, true, false, ◌&&◌, ◌||◌, ◌==◌, List, [], ◌∷◌, ◌++◌, length, get_or, replicate, refl, sym, ◌∙◌, ap, arith}
use Rattle.std.proofs.Math.ListN.{get_or-append}
use Rattle.std.proofs.lemmas.Bool.{cases_Bool, cases_lt}
use Rattle.std.proofs.lemmas.Bool.Decides.{nat_tests}
use Rattle.book_snapshot.specs.declared.layout.TheConstants.{MARK, OLD_ROW_BYTES}
use Rattle.old_journal.specs.OldJournal.{HasOldHeader, old_title}
use Rattle.old_journal.specs.Reader.{header_agrees, is_old_header, old_header}

-- the byte at a place is the header's
abbrev IsRight : List ℕ → ℕ → Type 0
IsRight bytes place = place ≢ MARK → get_or bytes place 0 ≡ get_or old_title place 0

abbrev AreRight : List ℕ → ℕ → Type 0
AreRight bytes count = (k : ℕ) → k < count → IsRight bytes k

right_by : (place byte named : ℕ) → (place == MARK || byte == named) ≡ true → place ≢ MARK → byte ≡ named
right_by place byte named is other = grind (arith, nat_tests, is)

by_right : (place byte named : ℕ) → (place ≢ MARK → byte ≡ named)
    → (place == MARK || byte == named) ≡ true
by_right place byte named right = grind (arith, nat_tests)

both_true : (a b : Bool) → (a && b) ≡ true → (a ≡ true) × (b ≡ true)
both_true true true is = (refl, refl)
both_true true false is = absurd cc
both_true false b is = absurd cc

-- the test passes where all bytes are right
pub agrees_right : (count : ℕ) (bytes : List ℕ) → header_agrees count bytes ≡ true → AreRight bytes count
unfolding header_agrees
agrees_right zero bytes is k below = absurd (omega (arith, below))
agrees_right (suc count) bytes is k below =
    let parts = both_true (count == MARK || get_or bytes count 0 == get_or old_title count 0)
    (header_agrees count bytes) is in
    ⊎_elim
    (λ earlier. agrees_right count bytes parts.1 k earlier)
    (λ same. λ other. ap (λ n. get_or bytes n 0) same
    ∙ right_by count (get_or bytes count 0) (get_or old_title count 0) parts.0
    (λ is. other (same ∙ is)) ∙ ap (λ n. get_or old_title n 0) (sym same))
    (⊎_elim (λ less. inl less) (λ least. inr (omega (arith, below, least))) (cases_lt k count))

pub right_agrees : (count : ℕ) (bytes : List ℕ) → AreRight bytes count → header_agrees count bytes ≡ true
unfolding header_agrees
right_agrees zero bytes right = refl
right_agrees (suc count) bytes right =
    let here : (count == MARK || get_or bytes count 0 == get_or old_title count 0) ≡ true =
    by_right count (get_or bytes count 0) (get_or old_title count 0)
    (right count (omega arith)) in
    let before : header_agrees count bytes ≡ true =
    right_agrees count bytes (λ k below. right k (omega (arith, below))) in
    ap (λ b. b && header_agrees count bytes) here ∙ before

-- one wrong byte and it fails
pub wrong_fails : (count place : ℕ) (bytes : List ℕ) → place < count → place ≢ MARK
    → get_or bytes place 0 ≢ get_or old_title place 0 → header_agrees count bytes ≡ false
wrong_fails count place bytes inside other wrong = elim (cases_Bool (header_agrees count bytes)) [
  | inl is ↦ absurd (wrong (agrees_right count bytes is place inside other))
  | inr isnt ↦ isnt
]

-- the header, told by the test
pub header_by : (bytes : List ℕ) → OLD_ROW_BYTES ≤ length bytes → is_old_header bytes ≡ true
    → HasOldHeader bytes
header_by bytes long is = record { long = long; same = agrees_right OLD_ROW_BYTES bytes is }

pub by_header : (bytes : List ℕ) → HasOldHeader bytes → is_old_header bytes ≡ true
by_header bytes has = right_agrees OLD_ROW_BYTES bytes has.same

-- bytes that go on
agrees_on : (count : ℕ) (bytes more : List ℕ) → count ≤ length bytes
    → header_agrees count (bytes ++ more) ≡ header_agrees count bytes
unfolding header_agrees
agrees_on zero bytes more within = refl
agrees_on (suc count) bytes more within =
    ap (λ b. (count == MARK || b == get_or old_title count 0)
    && header_agrees count (bytes ++ more))
    (get_or-append bytes more 0 count (omega (arith, within)))
    ∙ ap (λ b. (count == MARK || get_or bytes count 0 == get_or old_title count 0) && b)
    (agrees_on count bytes more (omega (arith, within)))

pub header_on : (bytes more : List ℕ) → OLD_ROW_BYTES ≤ length bytes
    → is_old_header (bytes ++ more) ≡ is_old_header bytes
header_on bytes more long = agrees_on OLD_ROW_BYTES bytes more long

-- zeros behind a list are what stands past its end
zeros : (n k : ℕ) (nothing : ℕ) → nothing ≡ 0 → get_or (replicate n 0) k 0 ≡ nothing
zeros zero k nothing is = sym is
zeros (suc n) zero nothing is = sym is
zeros (suc n) (suc k) nothing is = zeros n k nothing is

padded : (xs : List ℕ) (n k : ℕ) → get_or (xs ++ replicate n 0) k 0 ≡ get_or xs k 0
padded [] n k = zeros n k (get_or [] k 0) refl
padded (x ∷ xs) n zero = refl
padded (x ∷ xs) n (suc k) = padded xs n k

-- the header that is made has the name, and then zeros
pub titled : (header : List ℕ) (k : ℕ) → header ≡ old_header → get_or header k 0 ≡ get_or old_title k 0
titled header k is = ap (λ (l : List ℕ). get_or l k 0) is
    ∙ padded old_title (OLD_ROW_BYTES - length old_title) k
