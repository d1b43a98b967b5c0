-- Laws of whole numbers: products of sums and of differences.
use Rattle.std.proofs.Common.{◌≡◌, ℕ, suc, ◌+◌, ◌*◌, ℤ, pos, ◌+ℤ◌, ◌-ℤ◌, ◌*ℤ◌, neg_ℤ, ap, ◌∙◌, arith}
use Rattle.std.proofs.Math.IntN.{suc_ℤ-*ℤ}
use Rattle.std.proofs.lemmas.Int.{ints}
use borrow.Author.Differences.{up, down, sum_is_lem, neg_is, product_is, same_in}

-- a product distributes over a sum
pub *ℤ-+ℤ : (c a b : ℤ) → c *ℤ (a +ℤ b) ≡ c *ℤ a +ℤ c *ℤ b
*ℤ-+ℤ c a b =
    let h = sum_is_lem a b in
    let hu = ap (λ t. up c * t) h in
    let hd = ap (λ t. down c * t) h in
    same_in _ _ (omega (arith, ints, hu, hd))

-- a product with a negative
*ℤ-neg_ℤ : (c a : ℤ) → c *ℤ neg_ℤ a ≡ neg_ℤ (c *ℤ a)
*ℤ-neg_ℤ c a =
    let hu = ap (λ t. up c * t) (neg_is a).0 in
    let hd = ap (λ t. up c * t) (neg_is a).1 in
    let hu' = ap (λ t. down c * t) (neg_is a).0 in
    let hd' = ap (λ t. down c * t) (neg_is a).1 in
    same_in _ _ (omega (arith, ints, hu, hd, hu', hd'))

-- a product distributes over a difference
pub *ℤ--ℤ : (c a b : ℤ) → c *ℤ (a -ℤ b) ≡ c *ℤ a -ℤ c *ℤ b
*ℤ--ℤ c a b = *ℤ-+ℤ c a (neg_ℤ b) ∙ ap (λ t. c *ℤ a +ℤ t) (*ℤ-neg_ℤ c b)

pub *ℤ_assoc : (a b c : ℤ) → a *ℤ b *ℤ c ≡ a *ℤ (b *ℤ c)
*ℤ_assoc a b c =
    let p = product_is a b in
    let q = product_is b c in
    let pu = ap (λ t. t * up c) p.0 in
    let pd = ap (λ t. t * down c) p.0 in
    let pu' = ap (λ t. t * up c) p.1 in
    let pd' = ap (λ t. t * down c) p.1 in
    let qu = ap (λ t. up a * t) q.0 in
    let qd = ap (λ t. down a * t) q.0 in
    let qu' = ap (λ t. up a * t) q.1 in
    let qd' = ap (λ t. down a * t) q.1 in
    same_in _ _ (omega (arith, ints, pu, pd, pu', pd', qu, qd, qu', qd'))

-- one time more
pub suc-*ℤ : (n : ℕ) (a : ℤ) → pos (suc n) *ℤ a ≡ a +ℤ pos n *ℤ a
suc-*ℤ n a = let h = suc_ℤ-*ℤ (pos n) a in omega (arith, ints, h)

-- the square of a difference, as it is known, with natural numbers for the parts of the two numbers
square_of_parts : (u d p q : ℕ) → u + q ≡ d + p
    → u * u + d * d + 2 * (p * q) ≡ p * p + q * q + 2 * (u * d)
square_of_parts u d p q h =
    let hu = ap (λ t. u * t) h in
    let hd = ap (λ t. d * t) h in
    let hp = ap (λ t. p * t) h in
    let hq = ap (λ t. q * t) h in
    omega (arith, hu, hd, hp, hq)

-- the square of a difference
pub square_of_difference : (a b : ℤ) → (a -ℤ b) *ℤ (a -ℤ b) +ℤ pos 2 *ℤ (a *ℤ b) ≡ a *ℤ a +ℤ b *ℤ b
square_of_difference a b =
    let h : up (a -ℤ b) + (down a + up b) ≡ down (a -ℤ b) + (up a + down b) = omega (arith, ints) in
    let s = square_of_parts (up (a -ℤ b)) (down (a -ℤ b)) (up a + down b) (down a + up b) h in
    same_in _ _ (omega (arith, ints, s))
