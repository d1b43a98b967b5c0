-- The faces of groups, by their places.
use Rattle.std.proofs.Common.{◌≡◌, ℕ, suc, ◌+◌, ◌<◌, List, ◌∷◌, ◌++◌, length, get_or, refl, ap, sym, subst, ◌∙◌, arith, length-append}
use Rattle.std.specs.List.{All}
use Rattle.std.proofs.lemmas.List.{get_or_append_left, get_or_at, get_or-append-add, get_or-map}
use Rattle.balanced_tree.specs.Trees.{items, IsRootBetween}
use Rattle.balanced_tree.specs.declared.tree.Tree.{Tree}
use Rattle.pack_groups.specs.declared.group.Group.{Group}
use Rattle.pack_groups.specs.Groups.{face_of, faces, nth_face, no_face}

module _ {T : Type 0} (P : T → Type 0) {left right tree : Tree T} {item : T}
    (root : IsRootBetween left item right tree) (all : All P (items tree)) where
  whole : All P (items left ++ item ∷ items right)
  whole = subst (All P) root.items all

  pub all_left : All P (items left)
  all_left k d h = subst P (get_or_append_left (items left) (item ∷ items right) d k h)
      (whole k d (omega (arith, h, length-append (items left) (item ∷ items right))))

  pub at_root : P item
  at_root = subst P (get_or_at (items left) item (items right) item (length (items left)) refl)
      (whole (length (items left)) item
      (omega (arith, length-append (items left) (item ∷ items right))))

  pub all_right : All P (items right)
  all_right k d h = subst P (get_or-append-add (items left) (item ∷ items right) (suc k) d)
      (whole (length (items left) + suc k) d
      (omega (arith, h, length-append (items left) (item ∷ items right))))

-- the face of a group that was read
pub face-read : (groups : List Group) (place : ℕ) (group : Group) → place < length groups
    → group ≡ get_or groups place group → nth_face (faces groups) place ≡ face_of group
face-read groups place group within read = get_or-map face_of groups place group no_face within
    ∙ ap face_of (sym read)

pub face-at : (groups : List Group) (place : ℕ) (other : Group) → place < length groups
    → nth_face (faces groups) place ≡ face_of (get_or groups place other)
face-at groups place other within = get_or-map face_of groups place other no_face within
