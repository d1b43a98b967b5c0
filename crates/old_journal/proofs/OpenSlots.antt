-- The rows of open slots, and what stands behind them.
use Rattle.std.proofs.Common.{◌≡◌, ◌≢◌, ◌⊎◌, inl, inr, ⊎_elim, ℕ, zero, suc, ◌<◌, ◌≤◌, true, false, List, [], ◌∷◌, ◌++◌, length, get_or, take, drop, append-nil, refl, sym, ◌∙◌, ap, subst, arith, length-append, length-drop}
use Rattle.std.proofs.lemmas.List.{drop_all, take_all, drop-append-le, take-append-le}
use Rattle.std.proofs.Math.ListN.{get_or-append}
use Rattle.std.proofs.lemmas.Bool.{cases_lt}
use Rattle.std.proofs.lemmas.Bool.Decides.{nat_tests}
use Rattle.book_snapshot.specs.declared.layout.TheConstants.{OLD_ROW_BYTES, OPEN}
use Rattle.old_journal.specs.OldJournal.{begins_open, open_slots, old_rows}
use Rattle.old_journal.specs.Reader.{behind_slots, behind_rows}

pub opened_by : (bytes : List ℕ) → OLD_ROW_BYTES ≤ length bytes → get_or bytes 0 0 ≡ OPEN
    → begins_open bytes ≡ true
opened_by bytes long gate = grind (arith, nat_tests)

pub shut_by_gate : (bytes : List ℕ) → get_or bytes 0 0 ≢ OPEN → begins_open bytes ≡ false
shut_by_gate bytes gate = grind (arith, nat_tests)

pub shut_by_cut : (bytes : List ℕ) → length bytes < OLD_ROW_BYTES → begins_open bytes ≡ false
shut_by_cut bytes short = grind (arith, nat_tests)

pub open_long : (bytes : List ℕ) → begins_open bytes ≡ true → OLD_ROW_BYTES ≤ length bytes
open_long bytes is = grind (arith, nat_tests)

open_gate : (bytes : List ℕ) → begins_open bytes ≡ true → get_or bytes 0 0 ≡ OPEN
open_gate bytes is = grind (arith, nat_tests)

shut_gate : (bytes : List ℕ) → OLD_ROW_BYTES ≤ length bytes → begins_open bytes ≡ false
    → get_or bytes 0 0 ≢ OPEN
shut_gate bytes long is = grind (arith, nat_tests)

-- a slot is open, or it isn't
open_or_shut : (bytes : List ℕ) → (begins_open bytes ≡ true) ⊎ (begins_open bytes ≡ false)
open_or_shut bytes = elim (begins_open bytes) as (λ b. (b ≡ true) ⊎ (b ≡ false))
    [ true ↦ inl refl | false ↦ inr refl ]

-- the slot of some bytes that go on
longer : (bytes more : List ℕ) → length bytes ≤ length (bytes ++ more)
longer bytes more = omega (arith, length-append bytes more)

open_on : (bytes more : List ℕ) → begins_open bytes ≡ true → begins_open (bytes ++ more) ≡ true
open_on bytes more is =
    let long = open_long bytes is in
    opened_by (bytes ++ more) (omega (arith, long, longer bytes more))
    (get_or-append bytes more 0 0 (omega (arith, long)) ∙ open_gate bytes is)

pub shut_on : (bytes more : List ℕ) → OLD_ROW_BYTES ≤ length bytes → begins_open bytes ≡ false
    → begins_open (bytes ++ more) ≡ false
shut_on bytes more long is = shut_by_gate (bytes ++ more)
    (λ gate. shut_gate bytes long is
    (sym (get_or-append bytes more 0 0 (omega (arith, long))) ∙ gate))

-- one slot
slots-open : (most : ℕ) (bytes : List ℕ) → begins_open bytes ≡ true
    → open_slots (suc most) bytes ≡ take OLD_ROW_BYTES bytes
    ∷ open_slots most (drop OLD_ROW_BYTES bytes)
unfolding open_slots
slots-open most bytes is = grind (arith, nat_tests, is)

slots-shut : (most : ℕ) (bytes : List ℕ) → begins_open bytes ≡ false → open_slots most bytes ≡ []
unfolding open_slots
slots-shut zero bytes is = refl
slots-shut (suc most) bytes is = grind (arith, nat_tests, is)

behind-open : (most : ℕ) (bytes : List ℕ) → begins_open bytes ≡ true
    → behind_slots (suc most) bytes ≡ behind_slots most (drop OLD_ROW_BYTES bytes)
unfolding behind_slots
behind-open most bytes is = grind (arith, nat_tests, is)

behind-shut : (most : ℕ) (bytes : List ℕ) → begins_open bytes ≡ false → behind_slots most bytes ≡ bytes
unfolding behind_slots
behind-shut zero bytes is = refl
behind-shut (suc most) bytes is = grind (arith, nat_tests, is)

-- no slot is open where there is no byte
none_open : (bytes : List ℕ) → length bytes ≤ zero → begins_open bytes ≡ false
none_open bytes none = shut_by_cut bytes (omega (arith, none))

-- what is left behind an open slot is shorter
left_fits : (most : ℕ) (bytes : List ℕ) → begins_open bytes ≡ true → length bytes ≤ suc most
    → length (drop OLD_ROW_BYTES bytes) ≤ most
left_fits most bytes is fits = omega (arith, open_long bytes is, fits, length-drop OLD_ROW_BYTES bytes)

open_fits : (bytes : List ℕ) → begins_open bytes ≡ true → length bytes ≤ zero → ⊥
open_fits bytes is none = absurd (omega (arith, open_long bytes is, none))

-- any bound that isn't below the length gives the same
pub same_slots : (a b : ℕ) (bytes : List ℕ) → length bytes ≤ a → length bytes ≤ b
    → open_slots a bytes ≡ open_slots b bytes
same_slots zero b bytes first second = slots-shut zero bytes (none_open bytes first)
    ∙ sym (slots-shut b bytes (none_open bytes first))
same_slots (suc a) zero bytes first second = slots-shut (suc a) bytes (none_open bytes second)
    ∙ sym (slots-shut zero bytes (none_open bytes second))
same_slots (suc a) (suc b) bytes first second = ⊎_elim
    (λ is. slots-open a bytes is
    ∙ ap (λ (l : List (List ℕ)). take OLD_ROW_BYTES bytes ∷ l)
    (same_slots a b (drop OLD_ROW_BYTES bytes) (left_fits a bytes is first)
    (left_fits b bytes is second))
    ∙ sym (slots-open b bytes is))
    (λ shut. slots-shut (suc a) bytes shut ∙ sym (slots-shut (suc b) bytes shut)) (open_or_shut bytes)

same_behind : (a b : ℕ) (bytes : List ℕ) → length bytes ≤ a → length bytes ≤ b
    → behind_slots a bytes ≡ behind_slots b bytes
same_behind zero b bytes first second = behind-shut zero bytes (none_open bytes first)
    ∙ sym (behind-shut b bytes (none_open bytes first))
same_behind (suc a) zero bytes first second = behind-shut (suc a) bytes (none_open bytes second)
    ∙ sym (behind-shut zero bytes (none_open bytes second))
same_behind (suc a) (suc b) bytes first second = ⊎_elim
    (λ is. behind-open a bytes is
    ∙ same_behind a b (drop OLD_ROW_BYTES bytes) (left_fits a bytes is first)
    (left_fits b bytes is second)
    ∙ sym (behind-open b bytes is))
    (λ shut. behind-shut (suc a) bytes shut ∙ sym (behind-shut (suc b) bytes shut)) (open_or_shut bytes)

-- no slot is open behind the open ones
shut_behind : (most : ℕ) (bytes : List ℕ) → length bytes ≤ most
    → begins_open (behind_slots most bytes) ≡ false
shut_behind zero bytes fits = ap begins_open (behind-shut zero bytes (none_open bytes fits))
    ∙ none_open bytes fits
shut_behind (suc most) bytes fits = ⊎_elim
    (λ is. ap begins_open (behind-open most bytes is)
    ∙ shut_behind most (drop OLD_ROW_BYTES bytes) (left_fits most bytes is fits))
    (λ shut. ap begins_open (behind-shut (suc most) bytes shut) ∙ shut) (open_or_shut bytes)

-- the first slot of bytes that go on
first_slot : (bytes more : List ℕ) → begins_open bytes ≡ true
    → take OLD_ROW_BYTES (bytes ++ more) ≡ take OLD_ROW_BYTES bytes
first_slot bytes more is = take-append-le OLD_ROW_BYTES bytes more (open_long bytes is)

left_on : (bytes more : List ℕ) → begins_open bytes ≡ true
    → drop OLD_ROW_BYTES (bytes ++ more) ≡ drop OLD_ROW_BYTES bytes ++ more
left_on bytes more is = drop-append-le OLD_ROW_BYTES bytes more (open_long bytes is)

left_on_fits : (most : ℕ) (bytes more : List ℕ) → begins_open bytes ≡ true
    → length (bytes ++ more) ≤ suc most → length (drop OLD_ROW_BYTES bytes ++ more) ≤ most
left_on_fits most bytes more is fits =
    subst (λ (l : List ℕ). length l ≤ most) (left_on bytes more is)
    (left_fits most (bytes ++ more) (open_on bytes more is) fits)

left_on_below : (most : ℕ) (bytes more : List ℕ) → begins_open bytes ≡ true
    → length (bytes ++ more) ≤ most → length (drop OLD_ROW_BYTES bytes ++ more) ≤ most
left_on_below most bytes more is fits =
    omega (
      arith,
      fits,
      length-append bytes more,
      length-append (drop OLD_ROW_BYTES bytes) more,
      length-drop OLD_ROW_BYTES bytes,
    )

-- no open slot goes on to nothing
never_empty : (bytes more : List ℕ) → begins_open bytes ≡ true → length (bytes ++ more) ≤ zero → ⊥
never_empty bytes more is none = open_fits (bytes ++ more) (open_on bytes more is) none

-- where no slot is open, that is what goes on
slots_stay : (most a b : ℕ) (bytes more : List ℕ) → begins_open bytes ≡ false
    → length (bytes ++ more) ≤ a → length (bytes ++ more) ≤ b
    → open_slots a (bytes ++ more) ≡ open_slots most bytes
    ++ open_slots b (behind_slots most bytes ++ more)
slots_stay most a b bytes more shut first second =
    same_slots a b (bytes ++ more) first second
    ∙ ap (λ (l : List ℕ). open_slots b (l ++ more)) (sym (behind-shut most bytes shut))
    ∙ ap (λ (l : List (List ℕ)). l ++ open_slots b (behind_slots most bytes ++ more))
    (sym (slots-shut most bytes shut))

behind_stays : (most a b : ℕ) (bytes more : List ℕ) → begins_open bytes ≡ false
    → length (bytes ++ more) ≤ a → length (bytes ++ more) ≤ b
    → behind_slots a (bytes ++ more) ≡ behind_slots b (behind_slots most bytes ++ more)
behind_stays most a b bytes more shut first second =
    same_behind a b (bytes ++ more) first second
    ∙ ap (λ (l : List ℕ). behind_slots b (l ++ more)) (sym (behind-shut most bytes shut))

-- the slots of bytes that go on: those that there were, and those from the first that wasn't open
slots_on : (most a b : ℕ) (bytes more : List ℕ) → length bytes ≤ most → length (bytes ++ more) ≤ a
    → length (bytes ++ more) ≤ b → open_slots a (bytes ++ more) ≡ open_slots most bytes
    ++ open_slots b (behind_slots most bytes ++ more)
slots_on zero a b bytes more fits first second =
    slots_stay zero a b bytes more (none_open bytes fits) first second
slots_on (suc most) zero b bytes more fits first second = ⊎_elim
    (λ is. absurd (never_empty bytes more is first))
    (λ shut. slots_stay (suc most) zero b bytes more shut first second) (open_or_shut bytes)
slots_on (suc most) (suc a) b bytes more fits first second = ⊎_elim
    (λ is.
    let rest = drop OLD_ROW_BYTES bytes in
    let on : open_slots a (rest ++ more) ≡ open_slots most rest
    ++ open_slots b (behind_slots most rest ++ more) =
    slots_on most a b rest more (left_fits most bytes is fits) (left_on_fits a bytes more is first)
    (left_on_below b bytes more is second) in
    slots-open a (bytes ++ more) (open_on bytes more is)
    ∙ ap (λ (l : List ℕ). take OLD_ROW_BYTES (bytes ++ more) ∷ open_slots a l) (left_on bytes more is)
    ∙ ap (λ (l : List ℕ). l ∷ open_slots a (rest ++ more)) (first_slot bytes more is)
    ∙ ap (λ (l : List (List ℕ)). take OLD_ROW_BYTES bytes ∷ l) on
    ∙ ap (λ (l : List ℕ). (take OLD_ROW_BYTES bytes ∷ open_slots most rest)
    ++ open_slots b (l ++ more)) (sym (behind-open most bytes is))
    ∙ ap (λ (l : List (List ℕ)). l ++ open_slots b (behind_slots (suc most) bytes ++ more))
    (sym (slots-open most bytes is)))
    (λ shut. slots_stay (suc most) (suc a) b bytes more shut first second) (open_or_shut bytes)

behind_on : (most a b : ℕ) (bytes more : List ℕ) → length bytes ≤ most → length (bytes ++ more) ≤ a
    → length (bytes ++ more) ≤ b → behind_slots a (bytes ++ more)
    ≡ behind_slots b (behind_slots most bytes ++ more)
behind_on zero a b bytes more fits first second =
    behind_stays zero a b bytes more (none_open bytes fits) first second
behind_on (suc most) zero b bytes more fits first second = ⊎_elim
    (λ is. absurd (never_empty bytes more is first))
    (λ shut. behind_stays (suc most) zero b bytes more shut first second) (open_or_shut bytes)
behind_on (suc most) (suc a) b bytes more fits first second = ⊎_elim
    (λ is.
    let rest = drop OLD_ROW_BYTES bytes in
    behind-open a (bytes ++ more) (open_on bytes more is)
    ∙ ap (λ (l : List ℕ). behind_slots a l) (left_on bytes more is)
    ∙ behind_on most a b rest more (left_fits most bytes is fits)
    (left_on_fits a bytes more is first) (left_on_below b bytes more is second)
    ∙ ap (λ (l : List ℕ). behind_slots b (l ++ more)) (sym (behind-open most bytes is)))
    (λ shut. behind_stays (suc most) (suc a) b bytes more shut first second) (open_or_shut bytes)

-- a journal that is no longer than its header has no rows, and nothing stands behind it
pub no_rows : (bytes : List ℕ) → length bytes ≤ OLD_ROW_BYTES → old_rows bytes ≡ []
no_rows bytes short =
    ap (open_slots (length bytes)) (drop_all OLD_ROW_BYTES bytes short)
    ∙ slots-shut (length bytes) [] (none_open [] (omega arith))

pub nothing_behind : (bytes : List ℕ) → length bytes ≤ OLD_ROW_BYTES → behind_rows bytes ≡ []
nothing_behind bytes short =
    ap (behind_slots (length bytes)) (drop_all OLD_ROW_BYTES bytes short)
    ∙ behind-shut (length bytes) [] (none_open [] (omega arith))

-- a journal with its header that goes on
module _ (taken more : List ℕ) (long : OLD_ROW_BYTES ≤ length taken) where
  left : drop OLD_ROW_BYTES (taken ++ more) ≡ drop OLD_ROW_BYTES taken ++ more
  left = drop-append-le OLD_ROW_BYTES taken more long

  left_within : length (drop OLD_ROW_BYTES taken ++ more) ≤ length (taken ++ more)
  left_within = omega (
    arith,
    length-append taken more,
    length-append (drop OLD_ROW_BYTES taken) more,
    length-drop OLD_ROW_BYTES taken,
  )

  rest_within : length (drop OLD_ROW_BYTES taken) ≤ length taken
  rest_within = omega (arith, length-drop OLD_ROW_BYTES taken)

  pub rows_on : (most : ℕ) → length (taken ++ more) ≤ most
      → old_rows (taken ++ more) ≡ old_rows taken ++ open_slots most (behind_rows taken ++ more)
  rows_on most fits =
      ap (open_slots (length (taken ++ more))) left
      ∙ slots_on (length taken) (length (taken ++ more)) most
      (drop OLD_ROW_BYTES taken) more rest_within left_within (omega (arith, left_within, fits))

  pub rest_on : (most : ℕ) → length (taken ++ more) ≤ most
      → behind_rows (taken ++ more) ≡ behind_slots most (behind_rows taken ++ more)
  rest_on most fits =
      ap (behind_slots (length (taken ++ more))) left
      ∙ behind_on (length taken) (length (taken ++ more)) most
      (drop OLD_ROW_BYTES taken) more rest_within left_within (omega (arith, left_within, fits))

  -- the rows of the bytes before stay the first
  pub stay_first : (rest : List (List ℕ)) × (old_rows (taken ++ more) ≡ old_rows taken ++ rest)
  stay_first = (
    open_slots (length (taken ++ more)) (behind_rows taken ++ more),
    rows_on (length (taken ++ more)) (omega arith),
  )

  -- no open slot has come
  pub rows_same : begins_open (behind_rows taken ++ more) ≡ false
      → old_rows (taken ++ more) ≡ old_rows taken
  rows_same shut =
      rows_on (length (taken ++ more)) (omega arith)
      ∙ ap (λ (l : List (List ℕ)). old_rows taken ++ l)
      (slots-shut (length (taken ++ more)) (behind_rows taken ++ more) shut)
      ∙ append-nil (old_rows taken)

  pub rest_longer : begins_open (behind_rows taken ++ more) ≡ false
      → behind_rows (taken ++ more) ≡ behind_rows taken ++ more
  rest_longer shut = rest_on (length (taken ++ more)) (omega arith)
      ∙ behind-shut (length (taken ++ more)) (behind_rows taken ++ more) shut

  -- an open slot has come
  pub one_row : begins_open (behind_rows taken ++ more) ≡ true
      → length (behind_rows taken ++ more) ≡ OLD_ROW_BYTES
      → old_rows (taken ++ more) ≡ old_rows taken ++ (behind_rows taken ++ more) ∷ []
  one_row is whole =
      let most = length (taken ++ more) in
      let slot = behind_rows taken ++ more in
      rows_on (suc most) (omega arith)
      ∙ ap (λ (l : List (List ℕ)). old_rows taken ++ l)
      (slots-open most slot is
      ∙ ap (λ (l : List ℕ). take OLD_ROW_BYTES slot ∷ open_slots most l)
      (drop_all OLD_ROW_BYTES slot (omega (arith, whole)))
      ∙ ap (λ (l : List (List ℕ)). take OLD_ROW_BYTES slot ∷ l)
      (slots-shut most [] (none_open [] (omega arith)))
      ∙ ap (λ (l : List ℕ). l ∷ []) (take_all OLD_ROW_BYTES slot (omega (arith, whole))))

  pub no_rest : begins_open (behind_rows taken ++ more) ≡ true
      → length (behind_rows taken ++ more) ≡ OLD_ROW_BYTES → behind_rows (taken ++ more) ≡ []
  no_rest is whole =
      let most = length (taken ++ more) in
      let slot = behind_rows taken ++ more in
      rest_on (suc most) (omega arith) ∙ behind-open most slot is
      ∙ ap (behind_slots most) (drop_all OLD_ROW_BYTES slot (omega (arith, whole)))
      ∙ behind-shut most [] (none_open [] (omega arith))

-- what stands behind the rows begins with no open slot
pub rest_shut : (taken : List ℕ) → begins_open (behind_rows taken) ≡ false
rest_shut taken = shut_behind (length taken) (drop OLD_ROW_BYTES taken)
    (omega (arith, length-drop OLD_ROW_BYTES taken))

-- rows stay the first, whatever follows
pub rows_stay : (bytes more : List ℕ) → (rest : List (List ℕ))
    × (old_rows (bytes ++ more) ≡ old_rows bytes ++ rest)
rows_stay bytes more = ⊎_elim
    (λ short. (
      old_rows (bytes ++ more),
      ap (λ (l : List (List ℕ)). l ++ old_rows (bytes ++ more))
          (sym (no_rows bytes (omega (arith, short)))),
    ))
    (λ long. stay_first bytes more long)
    (cases_lt (length bytes) OLD_ROW_BYTES)
