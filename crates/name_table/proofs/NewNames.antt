-- One name more: the order stays, with the new number in its place.
use Rattle.std.proofs.Common.{◌≡◌, ℕ, zero, suc, ◌+◌, ◌<◌, ◌≤◌, true, false, cond, eqb, inl, inr, List, [], ◌∷◌, ◌++◌, length, take, drop, get_or, count_by, slice_get, Option, Some, None, refl, sym, ◌∙◌, ap, subst, arith, length-append}
use Rattle.std.specs.List.{All, insert}
use Rattle.std.specs.Option.{option_map_or}
use Rattle.std.proofs.lemmas.Bool.{cases_eq, eq-eqb}
use Rattle.std.proofs.lemmas.List.Elements.{All-append, All-take, All-drop, All-cons, All-weaker}
use Rattle.std.proofs.lemmas.List.Sums.{sum_by-insert, count_by-le-length}
use Rattle.std.proofs.lemmas.List.Edits.{length-insert}
use Rattle.balanced_tree.proofs.Places.{get_left, get_here}
use Rattle.book_words.specs.declared.name.Name.{Name}
use Rattle.name_table.specs.Search.{is_before, precedes, Falls, IsOrder}
use Rattle.name_table.proofs.NameOrder.{before, not_before}
use Rattle.name_table.proofs.Falling.{count-agree, Falls-agree, Falls-insert}
use Rattle.name_table.proofs.Finding.{precedes_is}

-- with the new name go all that stand before it, and all that don't
with_it : (names : List Name) (new name : Name) (number : ℕ)
    → slice_get names number ≡ Some new → precedes names name number ≡ true → (x : ℕ)
    → precedes names new x ≡ true → precedes names name x ≡ true
with_it names new name number at holds x = either (slice_get names x)
  where
    either : (o : Option Name) → option_map_or (λ first. is_before first new) o false ≡ true
        → option_map_or (λ first. is_before first name) o false ≡ true
    either None h = absurd (let clash : false ≡ true = h in cc)
    either (Some other) h = before other new name h (sym (precedes_is names name number new at) ∙ holds)

without_it : (names : List Name) (new name : Name) (number : ℕ)
    → slice_get names number ≡ Some new → precedes names name number ≡ false → (x : ℕ)
    → precedes names new x ≡ false → precedes names name x ≡ false
without_it names new name number at fails x = either (slice_get names x)
  where
    either : (o : Option Name) → option_map_or (λ first. is_before first new) o false ≡ false
        → option_map_or (λ first. is_before first name) o false ≡ false
    either None h = refl
    either (Some other) h =
        not_before other new name h (sym (precedes_is names name number new at) ∙ fails)

module _ (names : List Name) (new : Name) (order : List ℕ) (index : IsOrder names order) where
  abbrev more : List Name
  more = names ++ new ∷ []

  abbrev place : ℕ
  place = count_by (precedes names new) order

  agree : (name : Name) → All (λ x. precedes names name x ≡ precedes more name x) order
  agree name k d within =
      ap (λ o. option_map_or (λ first. is_before first name) o false)
      (sym (get_left names new [] (get_or order k d) (index.within k d within)))

  last : slice_get more (length names) ≡ Some new
  last = get_here names new [] (length names) refl

  long : length more ≡ length names + 1
  long = length-append names (new ∷ [])

  few : place ≤ length order
  few = count_by-le-length (precedes names new) order

  falls : (name : Name) → Falls (precedes more name) (insert order place (length names))
  falls name =
      subst (λ n. Falls (precedes more name) (insert order n (length names)))
      (sym (count-agree (precedes names new) (precedes more new) order (agree new)))
      (Falls-insert (precedes more new) (precedes more name) (length names)
      (with_it more new name (length names) last) (without_it more new name (length names) last)
      order (Falls-agree (precedes names new) (precedes more new) order (agree new) (index.falls new))
      (Falls-agree (precedes names name) (precedes more name) order (agree name) (index.falls name)))

  within : All (λ number. number < length more) (insert order place (length names))
  within =
      let wider = All-weaker (λ n. n < length names) (λ n. n < length more)
      (λ n less. omega (arith, less, long)) order index.within in
      All-append (λ n. n < length more) (take place order) (length names ∷ drop place order)
      (All-take (λ n. n < length more) place order wider)
      (All-cons (λ n. n < length more) (length names) (drop place order) (omega (arith, long))
      (All-drop (λ n. n < length more) place order wider))

  each : (number : ℕ) → number < length more
      → 0 < count_by (λ other. eqb other number) (insert order place (length names))
  each number less =
      let counts = sum_by-insert (λ n. cond (eqb n number) 1 0) order place (length names) in
      elim (cases_eq (length names) number) [
        | inl same ↦
            let one : cond (eqb (length names) number) (suc zero) zero ≡ suc zero =
            ap (λ b. cond b (suc zero) zero) (eq-eqb (length names) number same) in
            omega (arith, counts, one)
        | inr differs ↦
            let old = index.each number (omega (arith, less, long, differs)) in
            omega (arith, counts, old)
      ]

  order_more : IsOrder more (insert order place (length names))
  order_more = record {
    falls = falls;
    within = within;
    each = each;
    long = omega (arith, length-insert order place (length names) few, index.long, long);
  }

pub order_made : (names longer : List Name) (new : Name) (order made : List ℕ) (at number : ℕ)
    → longer ≡ names ++ new ∷ [] → made ≡ insert order at number
    → at ≡ count_by (precedes names new) order → number ≡ length names → IsOrder names order
    → IsOrder longer made
order_made names longer new order made at number longer_is made_is at_is number_is index =
    subst (λ ns. IsOrder ns made) (sym longer_is)
    (subst (λ xs. IsOrder (names ++ new ∷ []) xs)
    (sym (made_is ∙ (λ i. insert order (at_is i) (number_is i))))
    (order_more names new order index))
