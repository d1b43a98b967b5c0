-- What a tree of nodes holds, and when it is balanced.
use Rattle.std.specs.Prelude.{◌≡◌, ℕ, zero, suc, ◌+◌, ◌≤◌, max, List, [], ◌∷◌, ◌++◌, length}
use Rattle.balanced_tree.specs.declared.tree.Tree.{Tree}
use Rattle.balanced_tree.specs.declared.tree.Tree.TheVariants.{Leaf, Fork'}

-- the items in order
abbrev pub items : {T : Type 0} → Tree T → List T
items Leaf = []
items (Fork' height count p left item right) = items left ++ item ∷ items right

-- the height that the tree states
abbrev pub height_of : {T : Type 0} → Tree T → ℕ
height_of Leaf = 0
height_of (Fork' height count p left item right) = height

-- the number of items that the tree states
abbrev pub count_of : {T : Type 0} → Tree T → ℕ
count_of Leaf = 0
count_of (Fork' height count p left item right) = count

-- neither height is more than this above the other
abbrev pub DifferByAtMost : ℕ → ℕ → ℕ → Type 0
DifferByAtMost by l r = (l ≤ r + by) × (r ≤ l + by)

-- the stated height and number are right at every node, and the heights of its two sides differ by
-- at most one
abbrev pub IsBalanced : {T : Type 0} → Tree T → Type 0
IsBalanced Leaf = Unit {0}
IsBalanced (Fork' height count p left item right) =
    IsBalanced left × IsBalanced right
    × (count ≡ length (items left) + 1 + length (items right))
    × (height ≡ max (height_of left) (height_of right) + 1)
    × DifferByAtMost 1 (height_of left) (height_of right)

-- the two sides of a tree are balanced, and their heights differ by at most two
abbrev pub IsSided : {T : Type 0} → Tree T → Type 0
IsSided Leaf = Unit {0}
IsSided (Fork' height count p left item right) =
    IsBalanced left × IsBalanced right × DifferByAtMost 2 (height_of left) (height_of right)

-- the height of the higher side of a tree
abbrev pub higher_side : {T : Type 0} → Tree T → ℕ
higher_side Leaf = 0
higher_side (Fork' height count p left item right) = max (height_of left) (height_of right)

-- an item is the root of a balanced tree, between the trees on its two sides
pub record IsRootBetween {T : Type 0} (left : Tree T) (item : T) (right tree : Tree T)
    : Type 0 where
  pub items : items tree ≡ items left ++ item ∷ items right
  pub balanced_left : IsBalanced left
  pub balanced_right : IsBalanced right
  pub height : height_of tree ≡ max (height_of left) (height_of right) + 1
  pub differ : DifferByAtMost 1 (height_of left) (height_of right)

-- the height that a node between two balanced trees settles to, where their heights differ by at
-- most two: that of the higher one or one more, and exactly one more where they differ by at most
-- one
abbrev pub IsHeightAfterRebalance : ℕ → ℕ → ℕ → Type 0
IsHeightAfterRebalance left right height =
    (max left right ≤ height) × (height ≤ max left right + 1)
    × (DifferByAtMost 1 left right → height ≡ max left right + 1)

-- the fewest items of a balanced tree of a height, beside those of the next height: the sides of
-- the smallest such tree are the two smallest before it
abbrev pub next_fewest : ℕ × ℕ → ℕ × ℕ
next_fewest fewest = (fewest.1, fewest.0 + 1 + fewest.1)

abbrev pub fewest_from : ℕ → ℕ × ℕ
fewest_from zero = (0, 1)
fewest_from (suc height) = next_fewest (fewest_from height)

-- the fewest items of a balanced tree of a height
abbrev pub fewest_items : ℕ → ℕ
fewest_items height = (fewest_from height).0
