-- Lists of entries that say the same: an entry may stand before those that aren't up to its key.
use Rattle.std.proofs.Common.{◌≡◌, ℕ, ℤ, Bool, true, false, not, ◌&&◌, ◌==◌, cond, List, [], ◌∷◌, ◌++◌, Option, Some, None, refl, sym, ◌∙◌, subst, inl, inr, arith, append_assoc, take, drop}
use Rattle.std.proofs.lemmas.Int.{ints}
use Rattle.std.proofs.lemmas.Bool.{cases_Bool, and_parts, not-true, eqb-true, eq-eqb}
use Rattle.std.proofs.lemmas.List.{append-nil, take-append-drop}
use Rattle.std.specs.List.{insert}
use Rattle.std.specs.Option.{option_map_or}
use Rattle.std.specs.Prelude.{int_le, int_lt}
use Rattle.pack_judge.specs.declared.tares.DatedTare.{DatedTare}
use Rattle.tare_register.specs.declared.types.ProductTare.{ProductTare}
use Rattle.pack_judge.specs.Tares.{deciding_tare}
use Rattle.tare_register.specs.Tares.{decides}
use Rattle.tare_register.specs.Tares.{next_day, tares_of}
use Rattle.tare_register.specs.InOrder.{SaysSame, IsCut, is_up_to, key_of, none_up_to}
use Rattle.tare_register.proofs.Steps.{deciding_step, next_step}

pub same_itself : (xs : List ProductTare) → SaysSame xs xs
same_itself xs = record { deciding = λ product day. refl; next = λ product day. refl }

pub same_chain : (xs ys zs : List ProductTare) → SaysSame xs ys → SaysSame ys zs → SaysSame xs zs
same_chain xs ys zs first second = record {
  deciding = λ product day. first.deciding product day ∙ second.deciding product day;
  next = λ product day. first.next product day ∙ second.next product day;
}

-- with the same entry put behind both
pub same_more : (xs ys : List ProductTare) (entry : ProductTare) → SaysSame xs ys
    → SaysSame (xs ++ entry ∷ []) (ys ++ entry ∷ [])
same_more xs ys entry same = record {
  deciding = λ product day.
      let known = deciding_tare (tares_of ys product) day in
      sym (deciding_step xs entry product day known (sym (same.deciding product day)))
      ∙ deciding_step ys entry product day known refl;
  next = λ product day.
      let known = next_day (tares_of ys product) day in
      sym (next_step xs entry product day known (sym (same.next product day)))
      ∙ next_step ys entry product day known refl;
}

-- with the same entries put behind both
same_behind : (xs ys zs : List ProductTare) → SaysSame xs ys → SaysSame (xs ++ zs) (ys ++ zs)
same_behind xs ys [] same = rw (append-nil xs, append-nil ys) same
same_behind xs ys (z ∷ zs) same =
    rw (← append_assoc xs (z ∷ []) zs, ← append_assoc ys (z ∷ []) zs)
    (same_behind (xs ++ z ∷ []) (ys ++ z ∷ []) zs (same_more xs ys z same))

-- of two tares of different days it is the same which is put first
decided_either_way : (one other : DatedTare) (day : ℤ) (known : Option DatedTare)
    → int_le other.day one.day ≡ false →
    cond (decides other day (cond (decides one day known) (Some one) known)) (Some other)
    (cond (decides one day known) (Some one) known) ≡
    cond (decides one day (cond (decides other day known) (Some other) known)) (Some one)
    (cond (decides other day known) (Some other) known)
decided_either_way one other day None later = grind (arith, ints)
decided_either_way one other day (Some known) later = grind (arith, ints)

-- whether a day comes after a day, and before the one that comes next so far
abbrev comes_next : ℤ → ℤ → Option ℤ → Bool
comes_next new day known = int_lt day new && option_map_or (λ next. int_lt new next) known true

next_either_way : (one other day : ℤ) (known : Option ℤ) →
    cond (comes_next other day (cond (comes_next one day known) (Some one) known)) (Some other)
    (cond (comes_next one day known) (Some one) known) ≡
    cond (comes_next one day (cond (comes_next other day known) (Some other) known)) (Some one)
    (cond (comes_next other day known) (Some other) known)
next_either_way one other day None = grind (arith, ints)
next_either_way one other day (Some known) = grind (arith, ints)

-- the same, of an entry and what decides so far
abbrev pub decided_after : ℕ → ℤ → ProductTare → Option DatedTare → Option DatedTare
decided_after product day entry known =
    cond ((entry.product == product) && decides entry.dated day known) (Some entry.dated) known

abbrev pub next_after : ℕ → ℤ → ProductTare → Option ℤ → Option ℤ
next_after product day entry known =
    cond ((entry.product == product) && comes_next entry.dated.day day known)
    (Some entry.dated.day) known

module _ (product : ℕ) (day : ℤ) (one other : ProductTare) where
  deciding_swaps : (known : Option DatedTare) → is_up_to (key_of one) other ≡ false →
      decided_after product day other (decided_after product day one known)
      ≡ decided_after product day one (decided_after product day other known)
  deciding_swaps known later = elim (cases_Bool (one.product == product)) [
    | inl h ↦ elim (cases_Bool (other.product == product)) [
      | inl k ↦
          let same : (other.product == one.product) ≡ true =
          eq-eqb other.product one.product
          (eqb-true other.product product k ∙ sym (eqb-true one.product product h)) in
          rw (h, k) (decided_either_way one.dated other.dated day known (day_later same))
      | inr k ↦ rw (h, k) refl
    ]
    | inr h ↦ rw h refl
  ]
    where
      day_later : (other.product == one.product) ≡ true → int_le other.dated.day one.dated.day ≡ false
      day_later same = grind (arith, ints)

  next_swaps : (known : Option ℤ) →
      next_after product day other (next_after product day one known)
      ≡ next_after product day one (next_after product day other known)
  next_swaps known = elim (cases_Bool (one.product == product)) [
    | inl h ↦ elim (cases_Bool (other.product == product)) [
      | inl k ↦ rw (h, k) (next_either_way one.dated.day other.dated.day day known)
      | inr k ↦ rw (h, k) refl
    ]
    | inr h ↦ rw h refl
  ]

-- two entries of which the second isn't up to the key of the first may change places
same_swapped : (xs : List ProductTare) (one other : ProductTare) → is_up_to (key_of one) other ≡ false →
    SaysSame ((xs ++ one ∷ []) ++ other ∷ []) ((xs ++ other ∷ []) ++ one ∷ [])
same_swapped xs one other later = record {
  deciding = λ product day.
      let known = deciding_tare (tares_of xs product) day in
      let first = deciding_step xs one product day known refl in
      let second = deciding_step xs other product day known refl in
      sym (deciding_step (xs ++ one ∷ []) other product day (decided_after product day one known) first)
      ∙ (deciding_swaps product day one other known later
      ∙ deciding_step (xs ++ other ∷ []) one product day (decided_after product day other known) second);
  next = λ product day.
      let known = next_day (tares_of xs product) day in
      let first = next_step xs one product day known refl in
      let second = next_step xs other product day known refl in
      sym (next_step (xs ++ one ∷ []) other product day (next_after product day one known) first)
      ∙ (next_swaps product day one other known
      ∙ next_step (xs ++ other ∷ []) one product day (next_after product day other known) second);
}

-- an entry may stand before those that aren't up to its key
same_moved : (xs ys : List ProductTare) (entry : ProductTare) → none_up_to (key_of entry) ys ≡ true →
    SaysSame (xs ++ entry ∷ ys) ((xs ++ ys) ++ entry ∷ [])
same_moved xs [] entry all = rw append-nil (same_itself (xs ++ entry ∷ []))
same_moved xs (y ∷ ys) entry all =
    let parts = and_parts (not (is_up_to (key_of entry) y)) (none_up_to (key_of entry) ys) all in
    let swapped = same_behind ((xs ++ entry ∷ []) ++ y ∷ []) ((xs ++ y ∷ []) ++ entry ∷ []) ys
    (same_swapped xs entry y (not-true (is_up_to (key_of entry) y) parts.0)) in
    let from : ((xs ++ entry ∷ []) ++ y ∷ []) ++ ys ≡ xs ++ entry ∷ y ∷ ys =
    append_assoc (xs ++ entry ∷ []) (y ∷ []) ys ∙ append_assoc xs (entry ∷ []) (y ∷ ys) in
    let to : ((xs ++ y ∷ []) ++ entry ∷ []) ++ ys ≡ (xs ++ y ∷ []) ++ entry ∷ ys =
    append_assoc (xs ++ y ∷ []) (entry ∷ []) ys in
    let rest : SaysSame ((xs ++ y ∷ []) ++ entry ∷ ys) (((xs ++ y ∷ []) ++ ys) ++ entry ∷ []) =
    same_moved (xs ++ y ∷ []) ys entry parts.1 in
    let last : (xs ++ y ∷ []) ++ ys ≡ xs ++ y ∷ ys = append_assoc xs (y ∷ []) ys in
    same_chain (xs ++ entry ∷ y ∷ ys) ((xs ++ y ∷ []) ++ entry ∷ ys) ((xs ++ y ∷ ys) ++ entry ∷ [])
    (subst (λ l. SaysSame l ((xs ++ y ∷ []) ++ entry ∷ ys)) from
    (subst (λ r. SaysSame (((xs ++ entry ∷ []) ++ y ∷ []) ++ ys) r) to swapped))
    (subst (λ l. SaysSame ((xs ++ y ∷ []) ++ entry ∷ ys) (l ++ entry ∷ [])) last rest)

-- an entry is put into an order at its cut, and behind the others
pub same_put : (ordered entries : List ProductTare) (entry : ProductTare) (count : ℕ)
    → SaysSame ordered entries → IsCut (key_of entry) count ordered →
    SaysSame (insert ordered count entry) (entries ++ entry ∷ [])
same_put ordered entries entry count same cut =
    let moved = same_moved (take count ordered) (drop count ordered) entry cut.behind in
    let whole = take-append-drop count ordered in
    same_chain (insert ordered count entry) (ordered ++ entry ∷ []) (entries ++ entry ∷ [])
    (subst (λ l. SaysSame (insert ordered count entry) (l ++ entry ∷ [])) whole moved)
    (same_more ordered entries entry same)
