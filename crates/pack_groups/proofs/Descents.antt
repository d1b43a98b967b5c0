-- One step down a tree in order, from its root to one of its sides.
use Rattle.std.proofs.Common.{◌≡◌, ℕ, ◌+◌, ◌<◌, ◌≤◌, ltb, true, false, List, ◌∷◌, ◌++◌, length, subst, sym, arith, length-append}
use Rattle.balanced_tree.specs.Trees.{items, IsRootBetween}
use Rattle.balanced_tree.specs.declared.tree.Tree.{Tree}
use Rattle.std.specs.List.{insert}
use Rattle.std.proofs.lemmas.List.Edits.{length-insert}
use Rattle.balanced_tree.proofs.Heights.{count_is}
use Rattle.balanced_tree.proofs.Places.{insert_left, insert_right}
use Rattle.pack_groups.specs.Rising.{IsRising}
use Rattle.pack_groups.proofs.OrderLemmas.{below, below-le-length, IsRising-front, IsRising_behind, below_past, below_before}

pub rising_left : {T : Type 0} (rank : T → ℕ) {left right tree : Tree T} {item : T}
    → IsRootBetween left item right tree → IsRising rank (items tree) → IsRising rank (items left)
rising_left rank {left} {right} {tree} {item} root up =
    IsRising-front rank (items left) (item ∷ items right) (subst (IsRising rank) root.items up)

pub rising_right : {T : Type 0} (rank : T → ℕ) {left right tree : Tree T} {item : T}
    → IsRootBetween left item right tree → IsRising rank (items tree) → IsRising rank (items right)
rising_right rank {left} {right} {tree} {item} root up =
    IsRising_behind rank (items left) item (items right) (subst (IsRising rank) root.items up)

pub few_on_sides : {T : Type 0} {left right tree : Tree T} {item : T}
    → IsRootBetween left item right tree
    → length (items left) + length (items right) + 1 ≡ length (items tree)
few_on_sides {left} {right} {tree} {item} root =
    rw root.items (omega (arith, length-append (items left) (item ∷ items right)))

-- an item below the limit: so are those on its left
pub below_right : {T : Type 0} (rank : T → ℕ) {left right tree : Tree T} {item : T} (limit : ℕ)
    → IsRootBetween left item right tree → IsRising rank (items tree) → ltb (rank item) limit ≡ true
    → length (items left) + 1 + below rank limit (items right) ≡ below rank limit (items tree)
below_right rank {left} {right} {tree} {item} limit root up less =
    rw root.items
    (sym (below_past rank limit (items left) item (items right)
    (subst (IsRising rank) root.items up)
    (Rattle.std.proofs.lemmas.Bool.ltb-true (rank item) limit less)))

-- an item that isn't below the limit: nor are those on its right
pub below_left : {T : Type 0} (rank : T → ℕ) {left right tree : Tree T} {item : T} (limit : ℕ)
    → IsRootBetween left item right tree → IsRising rank (items tree)
    → ltb (rank item) limit ≡ false → below rank limit (items left) ≡ below rank limit (items tree)
below_left rank {left} {right} {tree} {item} limit root up more =
    rw root.items
    (sym (below_before rank limit (items left) item (items right)
    (subst (IsRising rank) root.items up)
    (Rattle.std.proofs.lemmas.Bool.ltb-false (rank item) limit more)))

-- an item that is put behind one that is lighter
pub put_behind : {T : Type 0} (rank : T → ℕ) (limit : ℕ) (l : List T) (x : T) (r : List T) (y : T)
    → IsRising rank (l ++ x ∷ r) → rank x < limit
    → l ++ x ∷ insert r (below rank limit r) y
    ≡ insert (l ++ x ∷ r) (below rank limit (l ++ x ∷ r)) y
put_behind rank limit l x r y up less =
    sym (insert_right l x r (below rank limit (l ++ x ∷ r)) (below rank limit r) y
    (below_past rank limit l x r up less))

-- an item that is put before one that isn't
pub put_before : {T : Type 0} (rank : T → ℕ) (limit : ℕ) (l : List T) (x : T) (r : List T) (y : T)
    → IsRising rank (l ++ x ∷ r) → limit ≤ rank x
    → insert l (below rank limit l) y ++ x ∷ r
    ≡ insert (l ++ x ∷ r) (below rank limit (l ++ x ∷ r)) y
put_before rank limit l x r y up more =
    rw (below_before rank limit l x r up more) (sym (insert_left l x r (below rank limit l) y (below-le-length rank limit l)))

-- how many an item more makes
pub put_longer : {T : Type 0} (rank : T → ℕ) (limit : ℕ) (l : List T) (y : T)
    → length (insert l (below rank limit l) y) ≡ length l + 1
put_longer rank limit l y = length-insert l (below rank limit l) y (below-le-length rank limit l)

pub ruleset putting = (count_is, put_behind, put_before, put_longer)

pub ruleset descending = (count_is, rising_left, rising_right, few_on_sides, below_right, below_left)
