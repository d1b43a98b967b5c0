-- The low bytes of a number, its little end first.
use Rattle.std.proofs.Common.{◌≡◌, ℕ, zero, suc, ◌+◌, ◌*◌, ◌/◌, ◌%◌, ◌^◌, ◌≤◌, List, [], ◌∷◌, length, get_or, take, refl, sym, ap, ◌∙◌, arith}
use Rattle.std.specs.Int.{byte_at, bytes_low_first}
use Rattle.std.proofs.Math.Nat.{pow-suc}
use Rattle.std.proofs.lemmas.Nat.{mod-pow-add, shr-shr, pow-add}

abbrev pub low : ℕ → ℕ → List ℕ
low zero number = []
low (suc count) number = number % 256 ∷ low count (number / 256)

-- the number below which so many bytes tell all
abbrev pub modulus : ℕ → ℕ
modulus count = 2 ^ (8 * count)

pub modulus_more : (count : ℕ) → modulus (suc count) ≡ modulus count * 256
modulus_more count = let e : 8 * suc count ≡ 8 * count + 8 = omega arith in ap (λ k. 2 ^ k) e
    ∙ pow-add 2 (8 * count) 8

pub modulus_parts : (count number : ℕ)
    → number % modulus (suc count) ≡ (number / 256 % modulus count) * 256 + number % 256
modulus_parts count number = let e : 8 * suc count ≡ 8 * count + 8 = omega arith in
    ap (λ k. number % 2 ^ k) e ∙ mod-pow-add number (8 * count) 8

pub length-low : (count number : ℕ) → length (low count number) ≡ count
length-low zero number = refl
length-low (suc count) number = ap suc (length-low count (number / 256))

pub take-low : (count size number : ℕ) → count ≤ size → take count (low size number) ≡ low count number
take-low zero size number h = refl
take-low (suc count) zero number h = absurd (omega arith)
take-low (suc count) (suc size) number h =
    ap (λ (xs : List ℕ). number % 256 ∷ xs) (take-low count size (number / 256) (omega arith))

pub low_same : (count a b : ℕ) → a % modulus count ≡ b % modulus count → low count a ≡ low count b
low_same zero a b h = refl
low_same (suc count) a b h =
    let p = modulus_parts count a in
    let q = modulus_parts count b in
    let first : a % 256 ≡ b % 256 = omega (arith, p, q, h) in
    let others : a / 256 % modulus count ≡ b / 256 % modulus count = omega (arith, p, q, h) in
    ap (λ (x : ℕ). x ∷ low count (a / 256)) first
    ∙ ap (λ (xs : List ℕ). b % 256 ∷ xs) (low_same count (a / 256) (b / 256) others)

pub same_low : (count a b : ℕ) → low count a ≡ low count b → a % modulus count ≡ b % modulus count
same_low zero a b h = omega arith
same_low (suc count) a b h =
    let first : a % 256 ≡ b % 256 = ap (λ (xs : List ℕ). get_or xs 0 0) h in
    let others : low count (a / 256) ≡ low count (b / 256) = cc in
    modulus_parts count a ∙ ap (λ k. k * 256 + a % 256) (same_low count (a / 256) (b / 256) others)
    ∙ ap (λ k. b / 256 % modulus count * 256 + k) first ∙ sym (modulus_parts count b)

-- the bytes that std writes
byte_behind : (place number : ℕ) → byte_at (suc place) number ≡ byte_at place (number / 256)
byte_behind zero number = refl
byte_behind (suc place) number =
    let power : 256 ^ suc place ≡ 2 ^ (8 * suc place) = powers (suc place) in
    let next : 256 ^ suc (suc place) ≡ 2 ^ (8 + 8 * suc place) = powers (suc (suc place))
    ∙ ap (λ k. 2 ^ k) (omega arith) in
    ap (λ k. number / k % 256) next ∙ ap (λ k. k % 256) (sym (shr-shr number 8 (8 * suc place)))
    ∙ ap (λ k. number / 256 / k % 256) (sym power)
  where
    powers : (count : ℕ) → 256 ^ count ≡ 2 ^ (8 * count)
    powers zero = refl
    powers (suc count) = pow-suc 256 count ∙ ap (λ k. k * 256) (powers count) ∙ sym (modulus_more count)

low_behind : (place count number : ℕ)
    → bytes_low_first (suc place) count number ≡ bytes_low_first place count (number / 256)
low_behind place zero number = refl
low_behind place (suc count) number =
    ap (λ (x : ℕ). x ∷ bytes_low_first (suc (suc place)) count number) (byte_behind place number)
    ∙ ap (λ (xs : List ℕ). byte_at place (number / 256) ∷ xs)
    (low_behind (suc place) count number)

pub written_low : (count number : ℕ) → bytes_low_first 0 count number ≡ low count number
written_low zero number = refl
written_low (suc count) number =
    ap (λ (xs : List ℕ). number % 256 ∷ xs)
    (low_behind 0 count number ∙ written_low count (number / 256))
