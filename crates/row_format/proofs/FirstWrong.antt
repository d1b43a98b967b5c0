-- A number of some range, of which some low bytes are known: whether there is one, and the first
-- byte with which there is none.
use Rattle.std.proofs.Common.{◌≡◌, ℕ, zero, suc, ◌+◌, ◌-◌, ◌*◌, ◌/◌, ◌%◌, ◌<◌, ◌≤◌, Bool, true, false, cond, ◌&&◌, ◌||◌, leb, eqb, ◌⊎◌, inl, inr, Decides, refl, sym, ap, subst, ◌∙◌, add-one, arith}
use Rattle.std.proofs.lemmas.Bool.{cases_order, or_cases, or_left, or_right, and_parts, and_from, leb-true, le-leb, eqb-true, eq-eqb}
use Rattle.std.proofs.lemmas.Bool.Decides.{nat_tests}
use Rattle.std.proofs.lemmas.Nat.{div-add-mod', mod-mul-add, row_fits, pow_pos, mod_below}
use Rattle.row_format.specs.declared.fields.Numbers.{Numbers}
use Rattle.row_format.specs.Reading.{has_number, can_begin, wrong_from}
use Rattle.row_format.proofs.LowBytes.{modulus, modulus_more}

-- the number is one of them
abbrev pub IsOneOf : Numbers → ℕ → Type 0
IsOneOf numbers number = ((numbers.zero ≡ true) × (number ≡ 0))
    ⊎ ((numbers.least ≤ number) × (number ≤ numbers.greatest))

-- one of them has this low part
pub record HasLow (numbers : Numbers) (low modulus : ℕ) : Type 0 where
  pub one : ℕ
  pub is : IsOneOf numbers one
  pub same : one % modulus ≡ low

has_yes : (zero : Bool) (least greatest number : ℕ)
    → has_number (record { zero = zero; least = least; greatest = greatest }) number ≡ true
    → IsOneOf (record { zero = zero; least = least; greatest = greatest }) number
has_yes true least greatest zero h = inl (refl, refl)
has_yes true least greatest (suc number) h = inr (grind (arith, nat_tests), grind (arith, nat_tests))
has_yes false least greatest number h = inr (grind (arith, nat_tests), grind (arith, nat_tests))

has_no : (zero : Bool) (least greatest number : ℕ)
    → IsOneOf (record { zero = zero; least = least; greatest = greatest }) number
    → has_number (record { zero = zero; least = least; greatest = greatest }) number ≡ true
has_no admits least greatest number (inl h) = rw (h.0, h.1) refl
has_no true least greatest number (inr h) = let low = h.0 in let high = h.1 in grind (arith, nat_tests)
has_no false least greatest number (inr h) = let low = h.0 in let high = h.1 in grind (arith, nat_tests)

pub has_decides : (numbers : Numbers) (number : ℕ)
    → Decides (has_number numbers number) (IsOneOf numbers number)
has_decides numbers number = (
  has_yes numbers.zero numbers.least numbers.greatest number,
  has_no numbers.zero numbers.least numbers.greatest number,
)

-- the place at which a low part meets the least number's multiple of the modulus
near_parts : (least low modulus : ℕ) → least - least % modulus + low ≡ least / modulus * modulus + low
near_parts least low modulus = omega (arith, div-add-mod' least modulus)

near_same : (least low modulus : ℕ) → low < modulus → (least - least % modulus + low) % modulus ≡ low
near_same least low modulus small = ap (λ k. k % modulus) (near_parts least low modulus)
    ∙ mod-mul-add (least / modulus) modulus low small

next_same : (least low modulus : ℕ) → low < modulus
    → (least - least % modulus + low + modulus) % modulus ≡ low
next_same least low modulus small =
    let parts : least - least % modulus + low + modulus ≡ (least / modulus + 1) * modulus + low =
    omega (arith, near_parts least low modulus) in
    ap (λ k. k % modulus) parts ∙ mod-mul-add (least / modulus + 1) modulus low small

-- a number from the least on with the low part is at least the one or the other
near_or_next : (least low modulus number : ℕ) → low < modulus → least ≤ number → number % modulus ≡ low
    → ((least ≤ least - least % modulus + low) × (least - least % modulus + low ≤ number))
    ⊎ (least - least % modulus + low + modulus ≤ number)
near_or_next least low modulus number small from same =
    let first = div-add-mod' least modulus in
    let second = div-add-mod' number modulus in
    let near = near_parts least low modulus in
    elim (cases_order (least / modulus) (number / modulus)) [
      | inl e ↦ let products : least / modulus * modulus ≡ number / modulus * modulus =
          ap (λ k. k * modulus) e in inl (omega (arith, products), omega (arith, products))
      | inr (inl lt) ↦ let products =
          row_fits (least / modulus) modulus (number / modulus) modulus lt (omega arith) in
          inr (omega (arith, products))
      | inr (inr lt) ↦ let products =
          row_fits (number / modulus) modulus (least / modulus) modulus lt (omega arith) in
          absurd (omega (arith, products))
    ]

-- where a low part meets the least number's multiple of the modulus
abbrev met : ℕ → ℕ → ℕ → ℕ
met least low modulus = least - least % modulus + low

pub begin_decides : (numbers : Numbers) (low modulus : ℕ) → low < modulus
    → Decides (can_begin numbers low modulus) (HasLow numbers low modulus)
begin_decides numbers low modulus small = (to, from)
  where
    within : (leb numbers.least (met numbers.least low modulus)
        && leb (met numbers.least low modulus) numbers.greatest) ≡ true → HasLow numbers low modulus
    within h =
        let parts = and_parts (leb numbers.least (met numbers.least low modulus))
        (leb (met numbers.least low modulus) numbers.greatest) h in
        record {
          one = (met numbers.least low modulus);
          is =
              inr (leb-true _ _ parts.0, leb-true _ _ parts.1);
          same =
              near_same numbers.least low modulus small;
        }

    nothing : (numbers.zero && eqb low 0) ≡ true → HasLow numbers low modulus
    nothing h =
        let parts = and_parts numbers.zero (eqb low 0) h in
        let is : low ≡ 0 = eqb-true low 0 parts.1 in
        record { one = 0; is = inl (parts.0, refl); same = omega arith }

    to : can_begin numbers low modulus ≡ true → HasLow numbers low modulus
    to h =
        elim (or_cases ((numbers.zero && eqb low 0)
        || (leb numbers.least (met numbers.least low modulus)
        && leb (met numbers.least low modulus) numbers.greatest))
        (leb ((met numbers.least low modulus) + modulus) numbers.greatest) h) [
          | inl first ↦
              elim (or_cases (numbers.zero && eqb low 0)
              (leb numbers.least (met numbers.least low modulus)
              && leb (met numbers.least low modulus) numbers.greatest) first) [
                | inl zero_is ↦ nothing zero_is
                | inr both ↦ within both
              ]
          | inr next ↦
              let most = leb-true ((met numbers.least low modulus) + modulus) numbers.greatest next in
              let least : numbers.least ≤ (met numbers.least low modulus) + modulus =
              omega (
                arith,
                near_parts numbers.least low modulus,
                div-add-mod' numbers.least modulus,
              ) in
              record {
                one = (met numbers.least low modulus) + modulus;
                is = inr (least, most);
                same = next_same numbers.least low modulus small;
              }
        ]

    among : (number : ℕ) → number % modulus ≡ low → IsOneOf numbers number
        → can_begin numbers low modulus ≡ true
    among number same (inl h) =
        let is : low ≡ 0 = omega (arith, h.1, same) in
        or_left _ _ (or_left _ _ (and_from numbers.zero (eqb low 0) h.0 (eq-eqb low 0 is)))
    among number same (inr h) =
        let most = h.1 in
        elim (near_or_next numbers.least low modulus number small h.0 same) [
          | inl both ↦
              or_left _ _ (or_right _ _ (and_from _ _
              (le-leb numbers.least (met numbers.least low modulus) both.0)
              (le-leb (met numbers.least low modulus) numbers.greatest (omega (arith, both.1)))))
          | inr next ↦
              or_right _ _ (le-leb ((met numbers.least low modulus) + modulus) numbers.greatest
              (omega (arith, next)))
        ]

    from : HasLow numbers low modulus → can_begin numbers low modulus ≡ true
    from h = among h.one h.same h.is

-- one of the numbers has the same low bytes, so many
pub record Agrees (numbers : Numbers) (number count : ℕ) : Type 0 where
  pub one : ℕ
  pub is : IsOneOf numbers one
  pub same : one % modulus count ≡ number % modulus count

-- so many bytes are right, and the next is wrong
pub record IsFirstWrong (numbers : Numbers) (number last found : ℕ) : Type 0 where
  pub within : found ≤ last
  pub before : Agrees numbers number found
  pub wrong : Agrees numbers number (found + 1) → ⊥

modulus_positive : (count : ℕ) → 0 < modulus count
modulus_positive count = pow_pos (8 * count)

next_modulus : (count : ℕ) → modulus (count + 1) ≡ modulus count * 256
next_modulus count = rw add-one (modulus_more count)

true_is_not_false : false ≡ true → ⊥
true_is_not_false h = cc

pub wrong_is : (numbers : Numbers) (number count more last : ℕ) → count + more ≡ last
    → Agrees numbers number count → (Agrees numbers number (last + 1) → ⊥)
    → IsFirstWrong numbers number last (wrong_from numbers number (modulus count) count more)
unfolding wrong_from
wrong_is numbers number count zero last ends here end =
    let is : last ≡ count = omega (arith, ends) in
    record {
      within = omega arith;
      before = here;
      wrong =
          subst (λ k. Agrees numbers number (k + 1) → ⊥) is end;
    }
wrong_is numbers number count (suc more) last ends here end =
    either (can_begin numbers (number % (modulus count * 256)) (modulus count * 256))
    (begin_decides numbers (number % (modulus count * 256)) (modulus count * 256)
    (mod_below number (modulus count * 256) positive))
    (wrong_is numbers number (count + 1) more last (omega (arith, ends)))
  where
    positive : 0 < modulus count * 256
    positive = omega (arith, modulus_positive count)

    either : (right : Bool) → Decides right
        (HasLow numbers (number % (modulus count * 256)) (modulus count * 256))
        → (Agrees numbers number (count + 1) → (Agrees numbers number (last + 1) → ⊥)
        → IsFirstWrong numbers number last
        (wrong_from numbers number (modulus (count + 1)) (count + 1) more))
        → IsFirstWrong numbers number last
        (cond right (wrong_from numbers number (modulus count * 256) (count + 1) more) count)
    either true decides step =
        let has = decides.0 refl in
        let agrees : Agrees numbers number (count + 1) =
        record {
          one = has.one;
          is = has.is;
          same =
              subst (λ m. has.one % m ≡ number % m) (sym (next_modulus count)) has.same;
        } in
        subst (λ m. IsFirstWrong numbers number last (wrong_from numbers number m (count + 1) more))
        (next_modulus count) (step agrees end)
    either false decides step =
        record {
          within = omega (arith, ends);
          before = here;
          wrong = λ agrees. true_is_not_false
              (decides.1 (record {
                one = agrees.one;
                is = agrees.is;
                same =
                    subst (λ m. agrees.one % m ≡ number % m) (next_modulus count) agrees.same;
              }));
        }
