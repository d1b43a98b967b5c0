-- Bytes without the zeros at their end.
use Rattle.std.proofs.Common.{◌≡◌, ◌≢◌, ◌⊎◌, inl, inr, ℕ, zero, suc, ◌+◌, ◌-◌, ◌<◌, ◌≤◌, List, [], ◌∷◌, ◌++◌, length, get_or, take, drop, replicate, refl, sym, ◌∙◌, ap, subst, arith, length-append, ◌&&◌, ◌==◌, if◌then◌else◌}
use Rattle.std.proofs.lemmas.List.{same_lists, take-append-drop, length-take-le, get_or-take, get_or-drop, get_or_default, get_or-replicate, length-replicate, length-drop}
use Rattle.std.proofs.lemmas.Bool.Decides.{nat_tests}
use Rattle.book_snapshot.specs.DenseRows.{trimmed}

-- one byte more in front
data Step (byte : ℕ) (rest now : List ℕ) : Type 0 where
  gone : byte ≡ 0 → rest ≡ [] → now ≡ [] → Step byte rest now
  kept : now ≡ byte ∷ rest → (byte ≡ 0 → rest ≢ []) → Step byte rest now

no_nil : (x : ℕ) (xs : List ℕ) → x ∷ xs ≢ []
no_nil x xs is = absurd cc

step_at : (byte : ℕ) (rest : List ℕ)
    → Step byte rest (if byte == 0 && length rest == 0 then [] else byte ∷ rest)
step_at zero [] = gone refl refl refl
step_at zero (x ∷ xs) = kept (grind (arith, nat_tests)) (λ zero_is. no_nil x xs)
step_at (suc byte) rest = kept (grind (arith, nat_tests)) (λ zero_is. absurd (omega (arith, zero_is)))

step : (byte : ℕ) (bytes : List ℕ) → Step byte (trimmed bytes) (trimmed (byte ∷ bytes))
unfolding trimmed
step byte bytes = step_at byte (trimmed bytes)

pub trimmed-nil : trimmed [] ≡ []
unfolding trimmed
trimmed-nil = refl

-- filled up with zeros again they are the bytes
pub filled_up : (bytes : List ℕ)
    → trimmed bytes ++ replicate (length bytes - length (trimmed bytes)) 0 ≡ bytes
filled_up [] = ap (λ (l : List ℕ). l ++ replicate (0 - length l) 0) trimmed-nil
filled_up (byte ∷ bytes) = elim (step byte bytes) [
  | gone zero_is none none_now ↦
      let rest : replicate (length bytes - 0) 0 ≡ bytes =
      subst (λ (l : List ℕ). l ++ replicate (length bytes - length l) 0 ≡ bytes) none
      (filled_up bytes) in
      let count : length bytes - 0 ≡ length bytes = omega arith in
      let more : length (byte ∷ bytes) - 0 ≡ suc (length bytes) = omega arith in
      ap (λ (l : List ℕ). l ++ replicate (length (byte ∷ bytes) - length l) 0) none_now
      ∙ ap (λ (n : ℕ). replicate n 0) more
      ∙ ap (λ (l : List ℕ). 0 ∷ l) (ap (λ (n : ℕ). replicate n 0) (sym count) ∙ rest)
      ∙ ap (λ (x : ℕ). x ∷ bytes) (sym zero_is)
  | kept now more ↦
      let count : length (byte ∷ bytes) - length (byte ∷ trimmed bytes) ≡ length bytes
      - length (trimmed bytes) = omega arith in
      ap (λ (l : List ℕ). l ++ replicate (length (byte ∷ bytes) - length l) 0) now
      ∙ ap (λ (n : ℕ). byte ∷ (trimmed bytes ++ replicate n 0)) count
      ∙ ap (λ (l : List ℕ). byte ∷ l) (filled_up bytes)
]

pub trimmed_no_longer : (bytes : List ℕ) → length (trimmed bytes) ≤ length bytes
trimmed_no_longer bytes =
    omega (
      arith,
      ap length (filled_up bytes),
      length-append (trimmed bytes) (replicate (length bytes - length (trimmed bytes)) 0),
    )

pub trimmed_zeros : (n : ℕ) → trimmed (replicate n 0) ≡ []
trimmed_zeros zero = trimmed-nil
trimmed_zeros (suc n) = elim (step 0 (replicate n 0)) [
  | gone zero_is none now ↦ now
  | kept now more ↦ absurd (more refl (trimmed_zeros n))
]

-- a kind that isn't 0 stays
pub trimmed_kept : (byte : ℕ) (bytes : List ℕ) → byte ≢ 0 → trimmed (byte ∷ bytes) ≡ byte ∷ trimmed bytes
trimmed_kept byte bytes other = elim (step byte bytes) [
  | gone zero_is none now ↦ absurd (other zero_is)
  | kept now more ↦ now
]

last_is : (x y : ℕ) (ys : List ℕ)
    → get_or (x ∷ y ∷ ys) (length (x ∷ y ∷ ys) - 1) 0 ≡ get_or (y ∷ ys) (length (y ∷ ys) - 1) 0
last_is x y ys =
    let next : length (x ∷ y ∷ ys) - 1 ≡ suc (length (y ∷ ys) - 1) = omega arith in
    ap (λ (n : ℕ). get_or (x ∷ y ∷ ys) n 0) next

-- bytes that don't end with 0 stay, whatever zeros follow
pub trimmed_front : (form : List ℕ) (n : ℕ) → 0 < length form → get_or form (length form - 1) 0 ≢ 0
    → trimmed (form ++ replicate n 0) ≡ form
trimmed_front [] n some last = absurd (omega (arith, some))
trimmed_front (x ∷ []) n some last = trimmed_kept x (replicate n 0) last
    ∙ ap (λ (l : List ℕ). x ∷ l) (trimmed_zeros n)
trimmed_front (x ∷ y ∷ ys) n some last =
    let rest : trimmed ((y ∷ ys) ++ replicate n 0) ≡ y ∷ ys =
    trimmed_front (y ∷ ys) n (omega arith) (λ is. last (last_is x y ys ∙ is)) in
    elim (step x ((y ∷ ys) ++ replicate n 0)) [
      | gone zero_is none now ↦ absurd (no_nil y ys (sym rest ∙ none))
      | kept now more ↦ now ∙ ap (λ (l : List ℕ). x ∷ l) rest
    ]

last_of : (x : ℕ) (rest : List ℕ) → (x ≡ 0 → rest ≢ [])
    → (0 < length rest → get_or rest (length rest - 1) 0 ≢ 0)
    → get_or (x ∷ rest) (length (x ∷ rest) - 1) 0 ≢ 0
last_of x [] more last is = more is refl
last_of x (y ∷ ys) more last is = last (omega arith) (sym (last_is x y ys) ∙ is)

-- trimmed bytes don't end with 0
pub trimmed_last : (bytes : List ℕ) → 0 < length (trimmed bytes)
    → get_or (trimmed bytes) (length (trimmed bytes) - 1) 0 ≢ 0
trimmed_last [] some = absurd (omega (arith, some, ap length trimmed-nil))
trimmed_last (byte ∷ bytes) some =
    let last = λ (more : 0 < length (trimmed bytes)). trimmed_last bytes more in
    elim (step byte bytes) [
      | gone zero_is none now ↦ absurd (omega (arith, some, ap length now))
      | kept now more ↦ subst (λ (l : List ℕ). get_or l (length l - 1) 0 ≢ 0) (sym now)
          (last_of byte (trimmed bytes) more last)
    ]

nothing_in : (l : List ℕ) (n : ℕ) → length l ≡ 0 → trimmed (l ++ replicate n 0) ≡ l
nothing_in [] n none = trimmed_zeros n
nothing_in (x ∷ xs) n none = absurd (omega (arith, none))

none_or_some : (n : ℕ) → (n ≡ 0) ⊎ (0 < n)
none_or_some zero = inl refl
none_or_some (suc n) = inr (omega arith)

-- all bytes from a place on are 0, and the one before it isn't
pub trimmed_at : (bytes : List ℕ) (end : ℕ) → end ≤ length bytes
    → ((k : ℕ) → end ≤ k → k < length bytes → get_or bytes k 0 ≡ 0)
    → (0 < end → get_or bytes (end - 1) 0 ≢ 0) → take end bytes ≡ trimmed bytes
trimmed_at bytes end within zeros last =
    let size : length (take end bytes) ≡ end = length-take-le end bytes within in
    let rest : drop end bytes ≡ replicate (length bytes - end) 0 =
    same_lists (drop end bytes) (replicate (length bytes - end) 0)
    (length-drop end bytes ∙ sym (length-replicate (length bytes - end) 0)) (λ k d lt.
    let below : end + k < length bytes = omega (arith, lt, length-drop end bytes) in
    get_or-drop end bytes k d ∙ get_or_default bytes (end + k) d 0 below
    ∙ zeros (end + k) (omega arith) below
    ∙ sym (get_or-replicate (length bytes - end) k 0 d (omega arith))) in
    let parts : bytes ≡ take end bytes ++ replicate (length bytes - end) 0 =
    sym (take-append-drop end bytes) ∙ ap (λ (l : List ℕ). take end bytes ++ l) rest in
    let front : trimmed (take end bytes ++ replicate (length bytes - end) 0) ≡ take end bytes =
    elim (none_or_some end) [
      | inl none ↦ nothing_in (take end bytes) (length bytes - end) (size ∙ none)
      | inr some ↦ trimmed_front (take end bytes) (length bytes - end) (omega (arith, size, some)) (λ is.
          last some (sym (get_or-take end bytes (end - 1) 0 (omega (arith, some)))
          ∙ ap (λ (n : ℕ). get_or (take end bytes) (n - 1) 0) (sym size) ∙ is))
    ] in
    sym (ap trimmed parts ∙ front)
