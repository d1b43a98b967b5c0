-- Which numbers were added.
use Rattle.std.proofs.Common.{◌≡◌, ℕ, zero, suc, ◌+◌, ◌<◌, ◌==◌, Bool, true, false, ◌||◌, ◌&&◌, cond, List, [], ◌∷◌, map, Option, Some, None, is_some, refl, sym, ◌∙◌, ap, arith, inl, inr}
use Rattle.std.specs.Bool.{IsTrue}
use Rattle.std.specs.List.{find, slice_set, range_with_len}
use Rattle.std.specs.Option.{option_and_then}
use Rattle.std.proofs.lemmas.Bool.{cases_Bool, eqb-true, eq-eqb}
use Rattle.batch_sums.specs.declared.types.Pack.{Pack}
use Rattle.pack_groups.specs.Population.{is_counted}
use Rattle.batch_sums.specs.Changes.{is_added, moved}
use Rattle.pack_judge.specs.declared.types.Pile.{Pile}
use Rattle.book_words.specs.declared.act.Prior.{Prior}
use Rattle.book_words.specs.declared.act.Entry.{Entry}
use Rattle.book_words.specs.declared.act.Reading.{Reading}
use Rattle.book_words.specs.Readings.{readings, reading_of}
use Rattle.book_packs.specs.Settling.{takes_out, if_counted, leaving, if_counts_for}
use Rattle.book_packs.specs.Stand.{pack_of, packs_in}
use Rattle.book_words.proofs.PlainLemmas.{eqb-swap}

-- what is found was added
found_added : (number : ℕ) (packs : List Pack) (pack : Pack)
    → find (λ (p : Pack). p.number == number) packs ≡ Some pack
    → (is_added packs pack.number ≡ true) × (pack.number ≡ number)
found_added number [] pack h = absurd (cc)
found_added number (first ∷ packs) pack h = elim (cases_Bool (first.number == number)) [
  | inl t ↦
      let same : first ≡ pack =
      one (sym (ap (λ b. cond b (Some first) (find (λ (p : Pack). p.number == number) packs)) t)
      ∙ h) in (
        ap (λ b. b || is_added packs pack.number)
            (eq-eqb pack.number first.number (ap (λ (p : Pack). p.number) (sym same))),
        ap (λ (p : Pack). p.number) (sym same) ∙ eqb-true first.number number t,
      )
  | inr f ↦
      let rest = found_added number packs pack
      (sym (ap (λ b. cond b (Some first) (find (λ (p : Pack). p.number == number) packs)) f)
      ∙ h) in
      (or_right (pack.number == first.number) (is_added packs pack.number) rest.0, rest.1)
]
  where
    one : {x y : Pack} → Some x ≡ Some y → x ≡ y
    one h = cc

    or_right : (a b : Bool) → b ≡ true → (a || b) ≡ true
    or_right true b h = refl
    or_right false b h = h

pub leaving_is_added : (unsettled : Option ℕ) (prior : Prior) (packs : List Pack) (pack : Pack)
    → leaving unsettled prior packs ≡ Some pack → IsTrue (is_added packs pack.number)
leaving_is_added None prior packs pack h = absurd (nothing (takes_out prior) h)
  where
    nothing : (b : Bool) → cond b None None ≡ Some pack → ⊥
    nothing true h = cc
    nothing false h = cc
leaving_is_added (Some number) prior packs pack h =
    each (takes_out prior) (find (λ (p : Pack). p.number == number) packs) refl h
  where
    counted : (other : Pack) (b : Bool) → find (λ (p : Pack). p.number == number) packs ≡ Some other
        → cond b (Some other) None ≡ Some pack → is_added packs pack.number ≡ true
    counted other false there k = absurd (cc)
    counted other true there k = (found_added number packs pack (there ∙ k)).0

    each : (b : Bool) (o : Option Pack) → find (λ (p : Pack). p.number == number) packs ≡ o
        → cond b (option_and_then if_counted o) None ≡ Some pack → is_added packs pack.number ≡ true
    each false o there k = absurd (cc)
    each true None there k = absurd (cc)
    each true (Some other) there k = counted other (is_counted other.pile) there k

-- a pack of a reading was added
pub reading_is_added : (entries : List Entry) (number : ℕ)
    → is_some (reading_of entries number) ≡ true → is_added (packs_in entries) number ≡ true
reading_is_added entries number h = among (readings entries) h
  where
    among : (some : List Reading) → is_some (find (λ (r : Reading). r.number == number) some) ≡ true
        → is_added (map (pack_of entries) some) number ≡ true
    among [] k = absurd (cc)
    among (reading ∷ some) k = either (reading.number == number) (eqb-swap number reading.number) k
        (among some)
      where
        either : (b : Bool) → (number == reading.number) ≡ b
            → is_some (cond b (Some reading) (find (λ (r : Reading). r.number == number) some))
            ≡ true
            → (is_some (find (λ (r : Reading). r.number == number) some) ≡ true
            → is_added (map (pack_of entries) some) number ≡ true)
            → is_added (map (pack_of entries) (reading ∷ some)) number ≡ true
        either true same l rest = ap (λ b. b || is_added (map (pack_of entries) some) number) same
        either false same l rest = ap (λ b. b || is_added (map (pack_of entries) some) number) same
            ∙ rest l

-- moving a pack keeps the numbers
pub moved_added : (to : ℕ) (pile : Pile) (packs : List Pack) (number : ℕ)
    → is_added (moved to pile packs) number ≡ is_added packs number
moved_added to pile [] number = refl
moved_added to pile (pack ∷ packs) number = λ i. (number == same i) || moved_added to pile packs number i
  where
    same : (cond (pack.number == to) (record pack { pile = pile }) pack).number ≡ pack.number
    same = elim (pack.number == to) as
        (λ b. (cond b (record pack { pile = pile }) pack).number ≡ pack.number)
        [ true ↦ refl | false ↦ refl ]

-- one place of a list over a range is set
pub range_set : {A : Type 0} (f g : ℕ → A) (x : A) (from many k : ℕ) → k < many → g (from + k) ≡ x
    → ((n : ℕ) → n < from + k → f n ≡ g n) → ((n : ℕ) → from + k < n → f n ≡ g n)
    → slice_set (map f (range_with_len from many)) k x ≡ map g (range_with_len from many)
range_set f g x from zero k h is below over = absurd (omega arith)
range_set f g x from (suc many) zero h is below over =
    λ i. (sym is ∙ ap g (let same : from + 0 ≡ from = omega arith in same)) i
    ∷ rest (from + 1) many (omega arith) i
  where
    rest : (next more : ℕ) → from < next
        → map f (range_with_len next more) ≡ map g (range_with_len next more)
    rest next zero k = refl
    rest next (suc more) k = ap (λ x. x ∷ map f (range_with_len (next + 1) more))
        (over next (omega (arith, k)))
        ∙ ap (λ xs. g next ∷ xs) (rest (next + 1) more (omega (arith, k)))
range_set f g x from (suc many) (suc k) h is below over = λ i.
    below from (omega arith) i
    ∷ range_set f g x (from + 1) many k (omega arith)
    (ap g (let same : (from + 1) + k ≡ from + suc k = omega arith in same) ∙ is)
    (λ n less. below n (omega (arith, less))) (λ n more. over n (omega (arith, more))) i

pub picked_is_added : (batch pick : ℕ) (packs : List Pack) (pack : Pack)
    → option_and_then (if_counts_for batch) (find (λ (p : Pack). p.number == pick) packs)
    ≡ Some pack → IsTrue (is_added packs pack.number)
picked_is_added batch pick packs pack h = each (find (λ (p : Pack). p.number == pick) packs) refl h
  where
    counted : (other : Pack) (b : Bool) → find (λ (p : Pack). p.number == pick) packs ≡ Some other
        → cond b (Some other) None ≡ Some pack → is_added packs pack.number ≡ true
    counted other false there k = absurd (cc)
    counted other true there k = (found_added pick packs pack (there ∙ k)).0

    each : (o : Option Pack) → find (λ (p : Pack). p.number == pick) packs ≡ o
        → option_and_then (if_counts_for batch) o ≡ Some pack → is_added packs pack.number ≡ true
    each None there k = absurd (cc)
    each (Some other) there k = counted other ((other.batch == batch) && is_counted other.pile) there k
