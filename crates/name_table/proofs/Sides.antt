-- One step down a tree, from its root to one of its sides.
use Rattle.std.proofs.Common.{◌≡◌, suc, ◌+◌, Bool, true, false, ◌∷◌, ◌++◌, length, count_by, subst, sym, arith, refl, length-append}
use Rattle.std.specs.List.{All}
use Rattle.std.proofs.lemmas.List.{get_or_append_left, get_or_at, get_or-append-add}
use Rattle.balanced_tree.specs.Trees.{items, IsRootBetween}
use Rattle.balanced_tree.specs.declared.tree.Tree.{Tree}
use Rattle.name_table.specs.Search.{Falls}
use Rattle.name_table.proofs.Falling.{Falls-front, Falls_behind, count_past, count_before}

module _ {T : Type 0} {left right tree : Tree T} {item : T}
    (root : IsRootBetween left item right tree) where
  pub few_on_sides : length (items left) + length (items right) + 1 ≡ length (items tree)
  few_on_sides = rw root.items (omega (arith, length-append (items left) (item ∷ items right)))

  module _ (P : T → Type 0) (all : All P (items tree)) where
    whole : All P (items left ++ item ∷ items right)
    whole = subst (All P) root.items all

    pub all_left : All P (items left)
    all_left k d h = subst P (get_or_append_left (items left) (item ∷ items right) d k h)
        (whole k d (omega (arith, h, length-append (items left) (item ∷ items right))))

    pub at_root : P item
    at_root =
        subst P (get_or_at (items left) item (items right) item (length (items left)) refl)
        (whole (length (items left)) item
        (omega (arith, length-append (items left) (item ∷ items right))))

    pub all_right : All P (items right)
    all_right k d h = subst P (get_or-append-add (items left) (item ∷ items right) (suc k) d)
        (whole (length (items left) + suc k) d
        (omega (arith, h, length-append (items left) (item ∷ items right))))

  module _ (test : T → Bool) (falls : Falls test (items tree)) where
    in_parts : Falls test (items left ++ item ∷ items right)
    in_parts = subst (Falls test) root.items falls

    pub falls_left : Falls test (items left)
    falls_left = Falls-front test (items left) (item ∷ items right) in_parts

    pub falls_right : Falls test (items right)
    falls_right = Falls_behind test (items left) item (items right) in_parts

    -- an item of which the test holds: so it does on its left
    pub count_right : test item ≡ true
        → length (items left) + 1 + count_by test (items right) ≡ count_by test (items tree)
    count_right holds =
        rw root.items (sym (count_past test (items left) item (items right) in_parts holds))

    -- an item of which it doesn't hold: nor does it on its right
    pub count_left : test item ≡ false
        → count_by test (items left) ≡ count_by test (items tree)
    count_left fails =
        rw root.items (sym (count_before test (items left) item (items right) in_parts fails))
