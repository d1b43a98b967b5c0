-- An edit of a list that is a left side, an item and a right side.
use Rattle.std.proofs.Common.{◌≡◌, ℕ, zero, suc, ◌+◌, ◌-◌, ◌<◌, ◌≤◌, List, [], ◌∷◌, ◌++◌, length, Some, refl, ap, sym, ◌∙◌, arith, length-append, length-take, length-drop}
use Rattle.std.specs.List.{insert, remove, slice_get}
use Rattle.std.proofs.lemmas.List.Edits.{insert-append_left, insert-append_right, remove-append_left, remove-append_right}
use Rattle.balanced_tree.proofs.Heights.{count_is}

pub insert_left : {T : Type 0} (l : List T) (x : T) (r : List T) (place : ℕ) (y : T)
    → place ≤ length l → insert (l ++ x ∷ r) place y ≡ insert l place y ++ x ∷ r
insert_left l x r place y within = insert-append_left l (x ∷ r) place y within

pub insert_right : {T : Type 0} (l : List T) (x : T) (r : List T) (place k : ℕ) (y : T)
    → place ≡ length l + 1 + k → insert (l ++ x ∷ r) place y ≡ l ++ x ∷ insert r k y
insert_right l x r place k y behind =
    let left : place - length l ≡ suc k = omega arith in
    insert-append_right l (x ∷ r) (length l) place y refl (omega arith) ∙ rw left refl

pub remove_left : {T : Type 0} (l : List T) (x : T) (r : List T) (place : ℕ) → place < length l
    → remove (l ++ x ∷ r) place ≡ remove l place ++ x ∷ r
remove_left l x r place within = remove-append_left l (x ∷ r) place within

pub remove_right : {T : Type 0} (l : List T) (x : T) (r : List T) (place k : ℕ)
    → place ≡ length l + 1 + k → remove (l ++ x ∷ r) place ≡ l ++ x ∷ remove r k
remove_right l x r place k behind =
    let left : place - length l ≡ suc k = omega arith in
    remove-append_right l (x ∷ r) (length l) place refl (omega arith) ∙ rw left refl

pub remove_here : {T : Type 0} (l : List T) (x : T) (r : List T) (place : ℕ) → place ≡ length l
    → remove (l ++ x ∷ r) place ≡ l ++ r
remove_here l x r place here =
    let left : place - length l ≡ 0 = omega arith in
    remove-append_right l (x ∷ r) (length l) place refl (omega arith) ∙ rw left refl

pub get_left : {T : Type 0} (l : List T) (x : T) (r : List T) (place : ℕ) → place < length l
    → slice_get (l ++ x ∷ r) place ≡ slice_get l place
get_left [] x r place within = absurd (omega arith)
get_left (y ∷ l) x r zero within = refl
get_left (y ∷ l) x r (suc place) within = get_left l x r place (omega arith)

pub get_right : {T : Type 0} (l : List T) (x : T) (r : List T) (place k : ℕ)
    → place ≡ length l + 1 + k → slice_get (l ++ x ∷ r) place ≡ slice_get r k
get_right [] x r zero k behind = absurd (omega arith)
get_right [] x r (suc place) k behind = let e : place ≡ k = omega arith in rw e refl
get_right (y ∷ l) x r zero k behind = absurd (omega arith)
get_right (y ∷ l) x r (suc place) k behind = get_right l x r place k (omega arith)

pub get_here : {T : Type 0} (l : List T) (x : T) (r : List T) (place : ℕ) → place ≡ length l
    → slice_get (l ++ x ∷ r) place ≡ Some x
get_here [] x r place here = rw here refl
get_here (y ∷ l) x r zero here = absurd (omega arith)
get_here (y ∷ l) x r (suc place) here = get_here l x r place (omega arith)

-- no removal makes a list longer
length-remove-le : {T : Type 0} (l : List T) (place : ℕ) → length (remove l place) ≤ length l
length-remove-le l place =
    simp (length-append, length-take, length-drop) (omega arith)

pub fewer_left : {T : Type 0} (whole l : List T) (x : T) (r rest : List T) (place : ℕ)
    → whole ≡ l ++ x ∷ r → rest ≡ remove l place → length rest + length r + 1 ≤ length whole
fewer_left whole l x r rest place is left =
    rw (is, left) (omega (arith, length-append l (x ∷ r), length-remove-le l place))

pub fewer_right : {T : Type 0} (whole l : List T) (x : T) (r rest : List T) (place : ℕ)
    → whole ≡ l ++ x ∷ r → rest ≡ remove r place → length l + length rest + 1 ≤ length whole
fewer_right whole l x r rest place is left =
    rw (is, left) (omega (arith, length-append l (x ∷ r), length-remove-le r place))

pub first_out : {T : Type 0} (xs : List T) (x : T) → slice_get xs 0 ≡ Some x → x ∷ remove xs 0 ≡ xs
first_out [] x is = cc
first_out (y ∷ xs) x is = let e : x ≡ y = cc in rw e refl

-- the item at the root goes, and the first of the right side takes its place
pub root_out : {T : Type 0} (whole l : List T) (x : T) (r rest : List T) (y : T) (place : ℕ)
    → whole ≡ l ++ x ∷ r → slice_get r 0 ≡ Some y → rest ≡ remove r 0 → place ≡ length l
    → l ++ y ∷ rest ≡ remove whole place
root_out whole l x r rest y place is first left here =
    rw (left, is) (ap (λ z. l ++ z) (first_out r y first) ∙ sym (remove_here l x r place here))

pub ruleset placing = (
  count_is,
  insert_left,
  insert_right,
  remove_left,
  remove_right,
  remove_here,
  get_left,
  get_right,
  get_here,
)
