-- Where an order is cut: what one entry tells of those before it and behind it, and an entry put at
-- the cut.
use Rattle.std.proofs.Common.{◌≡◌, ℕ, true, false, not, List, [], ◌∷◌, ◌++◌, take, drop, refl, sym, subst, inl, inr, arith}
use Rattle.std.proofs.lemmas.Int.{ints}
use Rattle.std.proofs.lemmas.Bool.{cases_Bool, and_parts, and_from, not-true, both_ways}
use Rattle.std.proofs.lemmas.Bool.Decides.{nat_tests}
use Rattle.std.proofs.lemmas.List.{take-append-drop}
use Rattle.std.specs.List.{insert}
use Rattle.tare_register.specs.declared.types.ProductTare.{ProductTare}
use Rattle.tare_register.specs.declared.types.ProductDay.{ProductDay}
use Rattle.tare_register.specs.InOrder.{IsInOrder, IsCut, is_up_to, key_of, leads, none_up_to, all_up_to}

-- what is up to the key of an entry is up to each key that the entry is up to
pub up_to_chain : (entry other : ProductTare) (key : ProductDay)
    → is_up_to (key_of other) entry ≡ true → is_up_to key other ≡ true → is_up_to key entry ≡ true
up_to_chain entry other key h k = grind (arith, ints, nat_tests)

-- of two entries one is up to the key of the other
up_to_either_way : (entry other : ProductTare) → is_up_to (key_of entry) other ≡ false
    → is_up_to (key_of other) entry ≡ true
up_to_either_way entry other h = grind (arith, ints, nat_tests)

-- where the first entry isn't up to a key, none is
pub none_after : (entry : ProductTare) (xs : List ProductTare) (key : ProductDay)
    → leads entry xs ≡ true → is_up_to key entry ≡ false →
    none_up_to key xs ≡ true
none_after entry [] key all h = refl
none_after entry (x ∷ xs) key all h =
    let parts = and_parts (is_up_to (key_of x) entry) (leads entry xs) all in
    and_from (not (is_up_to key x)) (none_up_to key xs) (elim (cases_Bool (is_up_to key x)) [
      | inl earlier ↦ absurd (both_ways (is_up_to key entry) h (up_to_chain entry x key parts.0 earlier))
      | inr later ↦ rw later refl
    ]) (none_after entry xs key parts.1 h)

-- an entry is up to the keys of those that aren't up to its own
up_to_before : (entry : ProductTare) (xs : List ProductTare) → none_up_to (key_of entry) xs ≡ true
    → leads entry xs ≡ true
up_to_before entry [] all = refl
up_to_before entry (x ∷ xs) all =
    let parts = and_parts (not (is_up_to (key_of entry) x)) (none_up_to (key_of entry) xs) all in
    and_from (is_up_to (key_of x) entry) (leads entry xs)
    (up_to_either_way entry x (not-true (is_up_to (key_of entry) x) parts.0))
    (up_to_before entry xs parts.1)

all_with : (front : ProductTare) (xs ys : List ProductTare) (entry : ProductTare)
    → leads front (xs ++ ys) ≡ true → is_up_to (key_of entry) front ≡ true →
    leads front (xs ++ entry ∷ ys) ≡ true
all_with front [] ys entry all h = and_from (is_up_to (key_of entry) front) (leads front ys) h all
all_with front (x ∷ xs) ys entry all h =
    let parts = and_parts (is_up_to (key_of x) front) (leads front (xs ++ ys)) all in
    and_from (is_up_to (key_of x) front) (leads front (xs ++ entry ∷ ys)) parts.0
    (all_with front xs ys entry parts.1 h)

in_order_with : (xs ys : List ProductTare) (entry : ProductTare) → IsInOrder (xs ++ ys)
    → all_up_to (key_of entry) xs ≡ true →
    none_up_to (key_of entry) ys ≡ true → IsInOrder (xs ++ entry ∷ ys)
in_order_with [] ys entry order before behind = (up_to_before entry ys behind, order)
in_order_with (x ∷ xs) ys entry order before behind =
    let parts = and_parts (is_up_to (key_of entry) x) (all_up_to (key_of entry) xs) before in
    (all_with x xs ys entry order.0 parts.0, in_order_with xs ys entry order.1 parts.1 behind)

-- an entry put at its cut
pub in_order_put : (xs : List ProductTare) (entry : ProductTare) (count : ℕ) → IsInOrder xs
    → IsCut (key_of entry) count xs → IsInOrder (insert xs count entry)
in_order_put xs entry count order cut =
    in_order_with (take count xs) (drop count xs) entry
    (subst IsInOrder (sym (take-append-drop count xs)) order) cut.before cut.behind
