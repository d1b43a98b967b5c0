-- How high a balanced tree of so many items is at most.
use Rattle.std.proofs.Common.{◌≡◌, ℕ, zero, suc, ◌+◌, ◌<◌, ◌≤◌, ◌^◌, inl, inr, ◌∷◌, length, refl, arith, length-append, lit<, lit≤}
use Rattle.std.proofs.lemmas.Bool.{cases_lt}
use Rattle.balanced_tree.specs.Trees.{items, height_of, count_of, IsBalanced, fewest_items}
use Rattle.balanced_tree.specs.declared.tree.Tree.{Tree}
use Rattle.balanced_tree.specs.declared.tree.Tree.TheVariants.{Leaf, Fork'}

pub count_is : {T : Type 0} (t : Tree T) → IsBalanced t → count_of t ≡ length (items t)
count_is Leaf balanced = refl
count_is (Fork' h n p l x r) balanced = omega (arith, length-append (items l) (x ∷ items r))

-- a higher tree has more
fewest_rises : (h : ℕ) → fewest_items h ≤ fewest_items (suc h)
fewest_rises zero = omega arith
fewest_rises (suc h) = omega arith

pub fewest-monotone : (h k : ℕ) → h ≤ k → fewest_items h ≤ fewest_items k
fewest-monotone h zero low = let e : h ≡ 0 = omega arith in rw e (omega arith)
fewest-monotone h (suc k) low =
    elim (cases_lt h (suc k)) [
      | inl less ↦ let more = fewest_rises k in let before = fewest-monotone h k (omega arith) in
          omega arith
      | inr not_less ↦ let e : h ≡ suc k = omega arith in rw e (omega arith)
    ]

-- a level more at most doubles them
fewest_doubles : (h : ℕ) → fewest_items (suc h) ≤ fewest_items h + 1 + fewest_items h
fewest_doubles zero = omega arith
fewest_doubles (suc h) = let more = fewest_rises h in omega arith

-- two sides whose heights differ by at most one have the items of the smallest tree on top of them
fewest_above : (a b : ℕ) → a ≤ b → b ≤ suc a → fewest_items (suc b) ≤ fewest_items a + 1 + fewest_items b
fewest_above a b low high =
    elim (cases_lt a b) [
      | inl less ↦ let e : b ≡ suc a = omega arith in rw e (omega arith)
      | inr not_less ↦ let e : b ≡ a = omega arith in let twice = fewest_doubles a in rw e (omega arith)
    ]

pub fewest_held : {T : Type 0} (t : Tree T) → IsBalanced t
    → fewest_items (height_of t) ≤ length (items t)
fewest_held Leaf balanced = omega arith
fewest_held (Fork' h n p l x r) balanced =
    let on_left = fewest_held l balanced.0 in
    let on_right = fewest_held r balanced.1 in
    let long = length-append (items l) (x ∷ items r) in
    elim (cases_lt (height_of l) (height_of r)) [
      | inl less ↦
          let e : h ≡ suc (height_of r) = omega arith in
          let above = fewest_above (height_of l) (height_of r) (omega arith) (omega arith) in
          rw e (omega arith)
      | inr not_less ↦
          let e : h ≡ suc (height_of l) = omega arith in
          let above = fewest_above (height_of r) (height_of l) (omega arith) (omega arith) in
          rw e (omega arith)
    ]

-- a balanced tree with fewer items than the smallest of a height is lower
pub lower_than : {T : Type 0} (t : Tree T) (height : ℕ) → IsBalanced t
    → length (items t) < fewest_items height → height_of t < height
lower_than t height balanced few =
    elim (cases_lt (height_of t) height) [
      | inl less ↦ less
      | inr not_less ↦
          let more = fewest-monotone height (height_of t) not_less in
          let held = fewest_held t balanced in
          absurd (omega arith)
    ]

pub lower_than_47 : {T : Type 0} (t : Tree T) → IsBalanced t → length (items t) < 2 ^ 32
    → height_of t < 47
lower_than_47 t balanced few =
    lower_than t 47 balanced (let enough : 2 ^ 32 ≤ fewest_items 47 = lit≤ tt in omega arith)

pub lower_than_19 : {T : Type 0} (t : Tree T) → IsBalanced t → length (items t) ≤ 10000
    → height_of t < 19
lower_than_19 t balanced few =
    lower_than t 19 balanced (let enough : 10000 < fewest_items 19 = lit< tt in omega arith)
