-- The steps of the loops that look for the first wrong byte.
use Rattle.std.proofs.Common.{◌≡◌, ℕ, zero, suc, ◌+◌, ◌*◌, ◌%◌, ◌<◌, ◌≤◌, Bool, true, false, cond, List, length, get_or, drop, refl, sym, ◌∙◌, arith}
use Rattle.std.proofs.lemmas.Bool.{ne_eqb}
use Rattle.std.proofs.lemmas.List.{at_drop_more, at_drop_all}
use Rattle.std.specs.Prelude.{Ok}
use Rattle.row_format.specs.declared.fields.Numbers.{Numbers}
use Rattle.row_format.specs.Reading.{can_begin, wrong_from, zeros_in, faulty}

-- one byte more is right
pub right_more : (numbers : Numbers) (number modulus count more rest : ℕ) → more ≡ suc rest
    → can_begin numbers (number % (modulus * 256)) (modulus * 256) ≡ true
    → wrong_from numbers number (modulus * 256) (count + 1) rest
    ≡ wrong_from numbers number modulus count more
unfolding wrong_from
right_more numbers number modulus count more rest is right = rw (is, right) refl

-- the next byte is wrong
pub wrong_next : (numbers : Numbers) (number modulus count more rest : ℕ) → more ≡ suc rest
    → can_begin numbers (number % (modulus * 256)) (modulus * 256) ≡ false
    → count ≡ wrong_from numbers number modulus count more
unfolding wrong_from
wrong_next numbers number modulus count more rest is wrong = rw (is, wrong) refl

-- no byte is left
pub wrong_last : (numbers : Numbers) (number modulus count more : ℕ) → more ≡ 0
    → count ≡ wrong_from numbers number modulus count more
unfolding wrong_from
wrong_last numbers number modulus count more is = rw is refl

-- at most so many more are right
pub wrong_within : (numbers : Numbers) (number modulus count more : ℕ)
    → wrong_from numbers number modulus count more ≤ count + more
unfolding wrong_from
wrong_within numbers number modulus count zero = omega arith
wrong_within numbers number modulus count (suc more) =
    either (can_begin numbers (number % (modulus * 256)) (modulus * 256))
    (wrong_within numbers number (modulus * 256) (count + 1) more)
  where
    either : (right : Bool) → wrong_from numbers number (modulus * 256) (count + 1) more ≤ count + 1
        + more → cond right (wrong_from numbers number (modulus * 256) (count + 1) more) count
        ≤ count + suc more
    either true h = omega (arith, h)
    either false h = omega arith

-- one zero more
pub zero_more : (place behind : ℕ) (bytes : List ℕ) → behind < length bytes
    → get_or bytes behind 0 ≡ 0 → zeros_in (place + (behind + 1)) (drop (behind + 1) bytes)
    ≡ zeros_in (place + behind) (drop behind bytes)
unfolding zeros_in
zero_more place behind bytes inside is =
    let next : place + (behind + 1) ≡ place + behind + 1 = omega arith in
    rw next (sym (at_drop_more (zeros_in (place + behind)) bytes behind 0 inside ∙ rw is refl))

-- the first byte that isn't 0
pub zero_wrong : (place behind : ℕ) (bytes : List ℕ) → behind < length bytes
    → (get_or bytes behind 0 ≡ 0 → ⊥)
    → faulty (place + behind) ≡ zeros_in (place + behind) (drop behind bytes)
unfolding zeros_in
zero_wrong place behind bytes inside other =
    sym (at_drop_more (zeros_in (place + behind)) bytes behind 0 inside ∙ rw (ne_eqb _ _ other) refl)

-- zeros alone
pub zero_last : (place behind : ℕ) (bytes : List ℕ) → length bytes ≤ behind
    → Ok tt ≡ zeros_in (place + behind) (drop behind bytes)
unfolding zeros_in
zero_last place behind bytes all = sym (at_drop_all (zeros_in (place + behind)) bytes behind all)
