-- What the entries on the two sides of a cut tell of a product and day.
use Rattle.std.proofs.Common.{◌≡◌, ℕ, zero, suc, ◌+◌, ◌-◌, ◌<◌, ◌==◌, ℤ, true, false, not, cond, List, [], ◌∷◌, ◌++◌, length, get_or, take, drop, Option, Some, None, refl, sym, ◌∙◌, ap, subst, inl, inr, arith}
use Rattle.std.proofs.lemmas.Int.{ints}
use Rattle.std.proofs.lemmas.Bool.{cases_Bool, and_parts, not-true, eqb-true}
use Rattle.std.proofs.lemmas.Bool.Decides.{nat_tests}
use Rattle.std.proofs.lemmas.List.{append-nil, map-append, take-append-drop, take_more, drop_more, drop_all}
use Rattle.std.proofs.lemmas.List.Elements.{filter-append}
use Rattle.std.specs.List.{list_all, filter}
use Rattle.std.specs.Int.{int_min}
use Rattle.std.specs.Option.{option_map_or}
use Rattle.std.specs.Prelude.{int_le, int_lt, map}
use Rattle.pack_judge.specs.declared.tares.DatedTare.{DatedTare}
use Rattle.tare_register.specs.declared.types.ProductTare.{ProductTare}
use Rattle.tare_register.specs.declared.types.ProductDay.{ProductDay}
use Rattle.pack_judge.specs.Tares.{dated_by, latest, deciding_tare}
use Rattle.tare_register.specs.Tares.{tares_of, days_after, least_day, next_day}
use Rattle.tare_register.specs.InOrder.{IsInOrder, IsCut, is_up_to, key_of, no_entry, leads, none_up_to, all_up_to}
use Rattle.pack_judge.proofs.Latest.{none_greater, latest-append, latest_nothing}
use Rattle.tare_register.proofs.Steps.{tares_of-append}

tares_of_two : (xs ys : List ProductTare) (product : ℕ)
    → tares_of (xs ++ ys) product ≡ tares_of xs product ++ tares_of ys product
tares_of_two xs ys product =
    let own = λ (entry : ProductTare). entry.product == product in
    rw filter-append (map-append (λ (entry : ProductTare). entry.dated) (filter own xs) (filter own ys))

-- an entry for the product that is up to the key is dated by its day; one that isn't is dated later
dated_there : (entry : ProductTare) (key : ProductDay) → is_up_to key entry ≡ true
    → (entry.product == key.product) ≡ true → int_le entry.dated.day key.day ≡ true
dated_there entry key h k = grind (arith, ints, nat_tests)

not_later : (entry : ProductTare) (key : ProductDay) → is_up_to key entry ≡ true
    → (entry.product == key.product) ≡ true → int_lt key.day entry.dated.day ≡ false
not_later entry key h k = grind (arith, ints, nat_tests)

not_dated : (entry : ProductTare) (key : ProductDay) → is_up_to key entry ≡ false
    → (entry.product == key.product) ≡ true → int_le entry.dated.day key.day ≡ false
not_dated entry key h k = grind (arith, ints, nat_tests)

later_there : (entry : ProductTare) (key : ProductDay) → is_up_to key entry ≡ false
    → (entry.product == key.product) ≡ true → int_lt key.day entry.dated.day ≡ true
later_there entry key h k = grind (arith, ints, nat_tests)

-- those before the cut are all dated by the day, and none comes after it
all_dated : (xs : List ProductTare) (key : ProductDay) → all_up_to key xs ≡ true
    → dated_by (tares_of xs key.product) key.day ≡ tares_of xs key.product
all_dated [] key all = refl
all_dated (x ∷ xs) key all =
    let parts = and_parts (is_up_to key x) (all_up_to key xs) all in
    let rest = all_dated xs key parts.1 in
    elim (cases_Bool (x.product == key.product)) [
      | inl own ↦ rw (own, dated_there x key parts.0 own) (ap (λ es. x.dated ∷ es) rest)
      | inr other ↦ rw other rest
    ]

none_later : (xs : List ProductTare) (key : ProductDay) → all_up_to key xs ≡ true
    → days_after (tares_of xs key.product) key.day ≡ []
none_later [] key all = refl
none_later (x ∷ xs) key all =
    let parts = and_parts (is_up_to key x) (all_up_to key xs) all in
    let rest = none_later xs key parts.1 in
    elim (cases_Bool (x.product == key.product)) [
      | inl own ↦ rw (own, not_later x key parts.0 own) rest
      | inr other ↦ rw other rest
    ]

-- those behind it aren't dated by the day
none_dated : (xs : List ProductTare) (key : ProductDay) → none_up_to key xs ≡ true
    → dated_by (tares_of xs key.product) key.day ≡ []
none_dated [] key all = refl
none_dated (x ∷ xs) key all =
    let parts = and_parts (not (is_up_to key x)) (none_up_to key xs) all in
    let rest = none_dated xs key parts.1 in
    elim (cases_Bool (x.product == key.product)) [
      | inl own ↦ rw (own, not_dated x key (not-true (is_up_to key x) parts.0) own) rest
      | inr other ↦ rw other rest
    ]

-- all before the last entry are up to its key
up_to_last : (xs : List ProductTare) (last : ProductTare) → IsInOrder (xs ++ last ∷ [])
    → all_up_to (key_of last) xs ≡ true
up_to_last [] last order = refl
up_to_last (x ∷ xs) last order = rw (at_end xs order.0) (up_to_last xs last order.1)
  where
    at_end : (ys : List ProductTare) → leads x (ys ++ last ∷ []) ≡ true → is_up_to (key_of last) x ≡ true
    at_end [] all = (and_parts (is_up_to (key_of last) x) true all).0
    at_end (y ∷ ys) all = at_end ys (and_parts (is_up_to (key_of y) x) (leads x (ys ++ last ∷ [])) all).1

-- so none of the same product has a greater day
none_greater_before : (xs : List ProductTare) (last : ProductTare)
    → all_up_to (key_of last) xs ≡ true → none_greater (tares_of xs last.product) last.dated ≡ true
none_greater_before [] last all = refl
none_greater_before (x ∷ xs) last all =
    let parts = and_parts (is_up_to (key_of last) x) (all_up_to (key_of last) xs) all in
    let rest = none_greater_before xs last parts.1 in
    elim (cases_Bool (x.product == last.product)) [
      | inl own ↦ rw (own, dated_there x (key_of last) parts.0 own) rest
      | inr other ↦ rw other rest
    ]

-- and where the last is for another product, none is for this one
none_of_product : (xs : List ProductTare) (last : ProductTare) (product : ℕ)
    → all_up_to (key_of last) xs ≡ true → last.product < product → tares_of xs product ≡ []
none_of_product [] last product all less = refl
none_of_product (x ∷ xs) last product all less =
    let parts = and_parts (is_up_to (key_of last) x) (all_up_to (key_of last) xs) all in
    rw (other_product x parts.0) (none_of_product xs last product parts.1 less)
  where
    other_product : (entry : ProductTare) → is_up_to (key_of last) entry ≡ true
        → (entry.product == product) ≡ false
    other_product entry h = grind (arith, ints, nat_tests)

smaller_product : (entry : ProductTare) (key : ProductDay) → is_up_to key entry ≡ true
    → (entry.product == key.product) ≡ false → entry.product < key.product
smaller_product entry key h k = grind (arith, ints, nat_tests)

greater_product : (entry : ProductTare) (key : ProductDay) → is_up_to key entry ≡ false
    → (entry.product == key.product) ≡ false → key.product < entry.product
greater_product entry key h k = grind (arith, ints, nat_tests)

-- the last entry before the cut tells which tare decides
last_decides : (xs : List ProductTare) (last : ProductTare) (key : ProductDay)
    → IsInOrder (xs ++ last ∷ []) → is_up_to key last ≡ true →
    latest (tares_of (xs ++ last ∷ []) key.product)
    ≡ cond (last.product == key.product) (Some last.dated) None
last_decides xs last key order reached =
    let before = up_to_last xs last order in
    elim (cases_Bool (last.product == key.product)) [
      | inl own ↦
          let greatest : none_greater (tares_of xs key.product) last.dated ≡ true =
          rw (← eqb-true last.product key.product own) (none_greater_before xs last before) in
          rw (tares_of-append, own, latest-append, greatest) refl
      | inr other ↦ rw (
        tares_of-append,
        other,
        none_of_product xs last key.product before (smaller_product last key reached other),
      )
          (sym latest_nothing)
    ]

pub in_order_front : (xs ys : List ProductTare) → IsInOrder (xs ++ ys) → IsInOrder xs
in_order_front [] ys order = tt
in_order_front (x ∷ xs) ys order = (front xs order.0, in_order_front xs ys order.1)
  where
    front : (zs : List ProductTare) → leads x (zs ++ ys) ≡ true → leads x zs ≡ true
    front [] all = refl
    front (z ∷ zs) all =
        let parts = and_parts (is_up_to (key_of z) x) (leads x (zs ++ ys)) all in
        rw parts.0 (front zs parts.1)

pub in_order_back : (xs ys : List ProductTare) → IsInOrder (xs ++ ys) → IsInOrder ys
in_order_back [] ys order = order
in_order_back (x ∷ xs) ys order = in_order_back xs ys order.1

-- the tare that decides is the latest of those before the cut
decided_before : (xs : List ProductTare) (key : ProductDay) (count : ℕ) → IsCut key count xs
    → deciding_tare (tares_of xs key.product) key.day
    ≡ latest (tares_of (take count xs) key.product)
decided_before xs key count cut =
    let front = take count xs in
    let back = drop count xs in
    let split : tares_of xs key.product ≡ tares_of front key.product ++ tares_of back key.product =
    ap (λ es. tares_of es key.product) (sym (take-append-drop count xs))
    ∙ tares_of_two front back key.product in
    ap (λ es. latest (dated_by es key.day)) split
    ∙ ap latest (filter-append (λ dated. int_le dated.day key.day) (tares_of front key.product)
    (tares_of back key.product))
    ∙ rw (none_dated back key cut.behind, all_dated front key cut.before, append-nil) refl

pub none_decides : (xs : List ProductTare) (key : ProductDay) → IsCut key 0 xs
    → None ≡ deciding_tare (tares_of xs key.product) key.day
none_decides xs key cut = sym (decided_before xs key 0 cut ∙ sym latest_nothing)

pub found_decides : (xs : List ProductTare) (key : ProductDay) (count : ℕ) → IsInOrder xs
    → IsCut key count xs → 0 < count →
    cond ((get_or xs (count - 1) no_entry).product == key.product)
    (Some (get_or xs (count - 1) no_entry).dated) None
    ≡ deciding_tare (tares_of xs key.product) key.day
found_decides xs key zero order cut more = absurd (omega (arith, more))
found_decides xs key (suc before) order cut more =
    subst (λ n. cond ((get_or xs n no_entry).product == key.product)
    (Some (get_or xs n no_entry).dated) None ≡ deciding_tare (tares_of xs key.product) key.day)
    {x = before} {y = suc before - 1} (omega arith)
    (let last = get_or xs before no_entry in
    let front : take (suc before) xs ≡ take before xs ++ last ∷ [] =
    subst (λ n. take n xs ≡ take before xs ++ last ∷ []) {x = before + 1} {y = suc before}
    (omega arith) (take_more xs before no_entry (omega (arith, cut.within))) in
    let ordered : IsInOrder (take before xs ++ last ∷ []) =
    subst IsInOrder front (in_order_front (take (suc before) xs) (drop (suc before) xs)
    (subst IsInOrder (sym (take-append-drop (suc before) xs)) order)) in
    let reached : is_up_to key last ≡ true =
    at_end (take before xs) last (subst (λ es. all_up_to key es ≡ true) front cut.before) in
    sym (decided_before xs key (suc before) cut ∙ ap (λ es. latest (tares_of es key.product)) front
    ∙ last_decides (take before xs) last key ordered reached))
  where
    at_end : (ys : List ProductTare) (last : ProductTare) → all_up_to key (ys ++ last ∷ []) ≡ true
        → is_up_to key last ≡ true
    at_end [] last all = (and_parts (is_up_to key last) true all).0
    at_end (y ∷ ys) last all = at_end ys last
        (and_parts (is_up_to key y) (all_up_to key (ys ++ last ∷ [])) all).1

-- the day that comes next is the next of those behind the cut
next_behind : (xs : List ProductTare) (key : ProductDay) (count : ℕ) → IsCut key count xs
    → next_day (tares_of xs key.product) key.day
    ≡ next_day (tares_of (drop count xs) key.product) key.day
next_behind xs key count cut =
    let front = take count xs in
    let back = drop count xs in
    let later = λ (dated : DatedTare). int_lt key.day dated.day in
    let split : tares_of xs key.product ≡ tares_of front key.product ++ tares_of back key.product =
    ap (λ es. tares_of es key.product) (sym (take-append-drop count xs))
    ∙ tares_of_two front back key.product in
    ap (λ es. next_day es key.day) split
    ∙ ap (λ es. least_day (map (λ (dated : DatedTare). dated.day) es))
    (filter-append later (tares_of front key.product) (tares_of back key.product))
    ∙ ap least_day (map-append (λ (dated : DatedTare). dated.day)
    (filter later (tares_of front key.product)) (filter later (tares_of back key.product)))
    ∙ ap (λ es. least_day (es ++ days_after (tares_of back key.product) key.day))
    (none_later front key cut.before)

-- a day that is no later than any is the least
least_first : (day : ℤ) (days : List ℤ) → list_all (λ other. int_le day other) days ≡ true
    → option_map_or (int_min day) (least_day days) day ≡ day
least_first day [] all = refl
least_first day (x ∷ xs) all =
    let parts = and_parts (int_le day x) (list_all (λ other. int_le day other) xs) all in
    lesser x (least_day xs) parts.0 (least_first day xs parts.1)
  where
    lesser : (x : ℤ) (o : Option ℤ) → int_le day x ≡ true → option_map_or (int_min day) o day ≡ day
        → int_min day (option_map_or (int_min x) o x) ≡ day
    lesser x None h k = grind (arith, ints)
    lesser x (Some y) h k = grind (arith, ints)

-- the first entry of an order has the least day of its product
first_is_least : (first : ProductTare) (xs : List ProductTare) (day : ℤ) → leads first xs ≡ true →
    list_all (λ other. int_le first.dated.day other) (days_after (tares_of xs first.product) day) ≡ true
first_is_least first [] day all = refl
first_is_least first (x ∷ xs) day all =
    let parts = and_parts (is_up_to (key_of x) first) (leads first xs) all in
    let rest = first_is_least first xs day parts.1 in
    elim (cases_Bool (x.product == first.product)) [
      | inl own ↦ elim (cases_Bool (int_lt day x.dated.day)) [
        | inl later ↦ rw (own, later, no_later x parts.0 own) rest
        | inr reached ↦ rw (own, reached) rest
      ]
      | inr other ↦ rw other rest
    ]
  where
    no_later : (x : ProductTare) → is_up_to (key_of x) first ≡ true
        → (x.product == first.product) ≡ true → int_le first.dated.day x.dated.day ≡ true
    no_later x h k = grind (arith, ints, nat_tests)

none_of_smaller : (first : ProductTare) (xs : List ProductTare) (product : ℕ)
    → leads first xs ≡ true → product < first.product → tares_of xs product ≡ []
none_of_smaller first [] product all less = refl
none_of_smaller first (x ∷ xs) product all less =
    let parts = and_parts (is_up_to (key_of x) first) (leads first xs) all in
    rw (other_product x parts.0) (none_of_smaller first xs product parts.1 less)
  where
    other_product : (x : ProductTare) → is_up_to (key_of x) first ≡ true → (x.product == product) ≡ false
    other_product x h = grind (arith, ints, nat_tests)

-- the first entry behind the cut tells which day comes next
first_comes : (first : ProductTare) (xs : List ProductTare) (key : ProductDay)
    → IsInOrder (first ∷ xs) → is_up_to key first ≡ false →
    next_day (tares_of (first ∷ xs) key.product) key.day
    ≡ cond (first.product == key.product) (Some first.dated.day) None
first_comes first xs key order behind = elim (cases_Bool (first.product == key.product)) [
  | inl own ↦
      let product = eqb-true first.product key.product own in
      let least = subst (λ p. list_all (λ other. int_le first.dated.day other)
      (days_after (tares_of xs p) key.day) ≡ true) product
      (first_is_least first xs key.day order.0) in
      rw (own, later_there first key behind own)
      (ap Some (least_first first.dated.day
      (days_after (tares_of xs key.product) key.day) least))
  | inr other ↦
      rw (
        other,
        none_of_smaller first xs key.product order.0
            (greater_product first key behind other),
      ) refl
]

pub none_comes : (xs : List ProductTare) (key : ProductDay) (count : ℕ) → IsCut key count xs
    → count ≡ length xs → None ≡ next_day (tares_of xs key.product) key.day
none_comes xs key count cut end =
    sym (next_behind xs key count cut
    ∙ ap (λ es. next_day (tares_of es key.product) key.day)
    (drop_all count xs (omega (arith, end))))

pub found_comes : (xs : List ProductTare) (key : ProductDay) (count : ℕ) → IsInOrder xs
    → IsCut key count xs → count < length xs →
    cond ((get_or xs count no_entry).product == key.product)
    (Some (get_or xs count no_entry).dated.day) None
    ≡ next_day (tares_of xs key.product) key.day
found_comes xs key count order cut less =
    let first = get_or xs count no_entry in
    let back : drop count xs ≡ first ∷ drop (count + 1) xs = drop_more xs count no_entry less in
    let ordered : IsInOrder (first ∷ drop (count + 1) xs) =
    subst IsInOrder back (in_order_back (take count xs) (drop count xs)
    (subst IsInOrder (sym (take-append-drop count xs)) order)) in
    let all : none_up_to key (first ∷ drop (count + 1) xs) ≡ true =
    subst (λ es. none_up_to key es ≡ true) back cut.behind in
    let behind : is_up_to key first ≡ false =
    not-true (is_up_to key first) (and_parts (not (is_up_to key first))
    (none_up_to key (drop (count + 1) xs)) all).0 in
    sym (next_behind xs key count cut ∙ ap (λ es. next_day (tares_of es key.product) key.day) back
    ∙ first_comes first (drop (count + 1) xs) key ordered behind)
