-- One step down the tree of an order, from its root to one of its sides.
use Rattle.std.proofs.Common.{◌≡◌, ℕ, zero, suc, ◌+◌, ◌<◌, true, false, not, List, [], ◌∷◌, ◌++◌, length, get_or, refl, ap, sym, subst, ◌∙◌, arith, length-append}
use Rattle.std.proofs.lemmas.Bool.{and_parts, and_from}
use Rattle.std.proofs.lemmas.List.{map-append, length-map, get_or_append_left, get_or_at, get_or-append-add}
use Rattle.std.specs.List.{All}
use Rattle.balanced_tree.specs.declared.tree.Tree.{Tree}
use Rattle.balanced_tree.specs.Trees.{items, IsRootBetween}
use Rattle.tare_register.specs.declared.types.ProductTare.{ProductTare}
use Rattle.tare_register.specs.declared.types.ProductDay.{ProductDay}
use Rattle.tare_register.specs.InOrder.{IsOrder, IsInOrder, IsCut, is_up_to, key_of, no_entry, entries_at, leads, none_up_to}
use Rattle.tare_register.proofs.CutLemmas.{up_to_chain, none_after}
use Rattle.tare_register.proofs.SidesOfCut.{in_order_front, in_order_back}

-- an entry that leads some is up to the key of one among them
up_to_middle : (entry : ProductTare) (xs : List ProductTare) (x : ProductTare)
    (ys : List ProductTare) → leads entry (xs ++ x ∷ ys) ≡ true → is_up_to (key_of x) entry ≡ true
up_to_middle entry [] x ys all = (and_parts (is_up_to (key_of x) entry) (leads entry ys) all).0
up_to_middle entry (z ∷ zs) x ys all =
    up_to_middle entry zs x ys
    (and_parts (is_up_to (key_of z) entry) (leads entry (zs ++ x ∷ ys)) all).1

module _ (x : ProductTare) (ys : List ProductTare) (key : ProductDay) where
  -- an entry up to a key: so are those before it
  cut_past : (xs : List ProductTare) (count past : ℕ) → past ≡ length xs + 1 + count
      → IsInOrder (xs ++ x ∷ ys) → is_up_to key x ≡ true → IsCut key count ys
      → IsCut key past (xs ++ x ∷ ys)
  cut_past xs count zero is order h cut = absurd (omega (arith, is))
  cut_past [] count (suc past) is order h cut =
      let same : past ≡ count = omega (arith, is) in
      rw same (record {
        within = omega (arith, cut.within);
        before = and_from (is_up_to key x) _ h cut.before;
        behind = cut.behind;
      })
  cut_past (z ∷ zs) count (suc past) is order h cut =
      let rest = cut_past zs count past (omega (arith, is)) order.1 h cut in
      let own = up_to_chain z x key (up_to_middle z zs x ys order.0) h in
      record {
        within = omega (arith, rest.within);
        before = and_from (is_up_to key z) _ own rest.before;
        behind = rest.behind;
      }

  -- one that isn't up to a key: nor are those behind it
  cut_ahead : (xs : List ProductTare) (count : ℕ) → IsInOrder (xs ++ x ∷ ys)
      → is_up_to key x ≡ false → IsCut key count xs → IsCut key count (xs ++ x ∷ ys)
  cut_ahead [] (suc count) order h cut = absurd (omega (arith, cut.within))
  cut_ahead [] zero order h cut =
      record {
        within = omega arith;
        before = refl;
        behind =
            and_from (not (is_up_to key x)) (none_up_to key ys) (rw h refl)
            (none_after x ys key order.0 h);
      }
  cut_ahead (z ∷ zs) zero order h cut =
      let parts = and_parts (not (is_up_to key z)) (none_up_to key zs) cut.behind in
      let rest = cut_ahead zs zero order.1 h
      (record { within = omega arith; before = refl; behind = parts.1 }) in
      record {
        within = omega arith;
        before = refl;
        behind =
            and_from (not (is_up_to key z)) (none_up_to key (zs ++ x ∷ ys)) parts.0 rest.behind;
      }
  cut_ahead (z ∷ zs) (suc count) order h cut =
      let parts = and_parts (is_up_to key z) _ cut.before in
      let rest = cut_ahead zs count order.1 h
      (record {
        within = omega (arith, cut.within);
        before = parts.1;
        behind = cut.behind;
      }) in
      record {
        within = omega (arith, rest.within);
        before = and_from (is_up_to key z) _ parts.0 rest.before;
        behind = rest.behind;
      }

module _ (entries : List ProductTare) {left right order : Tree ℕ} {place : ℕ}
    (root : IsRootBetween left place right order) (placed : IsOrder entries order) where
  long : length (items order) ≡ length (items left) + 1 + length (items right)
  long = rw root.items (omega (arith, length-append (items left) (place ∷ items right)))

  whole : All (λ k. k < length entries) (items left ++ place ∷ items right)
  whole = subst (All (λ k. k < length entries)) root.items placed.within

  pub at_root : place < length entries
  at_root =
      subst (λ k. k < length entries)
      (get_or_at (items left) place (items right) place (length (items left)) refl)
      (whole (length (items left)) place
      (omega (arith, length-append (items left) (place ∷ items right))))

  parts : entries_at entries (items order)
      ≡ entries_at entries (items left)
      ++ get_or entries place no_entry ∷ entries_at entries (items right)
  parts = ap (entries_at entries) root.items
      ∙ map-append (λ k. get_or entries k no_entry) (items left) (place ∷ items right)

  sorted : IsInOrder (entries_at entries (items left)
      ++ get_or entries place no_entry ∷ entries_at entries (items right))
  sorted = subst IsInOrder parts placed.in_order

  pub order_left : IsOrder entries left
  order_left =
      record {
        balanced = root.balanced_left;
        few = omega (arith, long, placed.few);
        within = λ k d h. subst (λ n. n < length entries)
            (get_or_append_left (items left) (place ∷ items right) d k h)
            (whole k d (omega (arith, h, length-append (items left) (place ∷ items right))));
        in_order = in_order_front (entries_at entries (items left)) _ sorted;
      }

  pub order_right : IsOrder entries right
  order_right =
      record {
        balanced = root.balanced_right;
        few = omega (arith, long, placed.few);
        within = λ k d h. subst (λ n. n < length entries)
            (get_or-append-add (items left) (place ∷ items right) (suc k) d)
            (whole (length (items left) + suc k) d
            (omega (arith, h, length-append (items left) (place ∷ items right))));
        in_order = (in_order_back (entries_at entries (items left)) _ sorted).1;
      }

  -- how many are up to a key, by what one side has
  pub cut_right : (key : ProductDay) (count past : ℕ) → past ≡ length (items left) + 1 + count
      → is_up_to key (get_or entries place no_entry) ≡ true
      → IsCut key count (entries_at entries (items right))
      → IsCut key past (entries_at entries (items order))
  cut_right key count past is h cut =
      subst (IsCut key past) (sym parts)
      (cut_past (get_or entries place no_entry) (entries_at entries (items right)) key
      (entries_at entries (items left)) count past
      (omega (arith, is, length-map (items left) (λ k. get_or entries k no_entry))) sorted h cut)

  pub cut_left : (key : ProductDay) (count : ℕ)
      → is_up_to key (get_or entries place no_entry) ≡ false
      → IsCut key count (entries_at entries (items left))
      → IsCut key count (entries_at entries (items order))
  cut_left key count h cut =
      subst (IsCut key count) (sym parts)
      (cut_ahead (get_or entries place no_entry) (entries_at entries (items right)) key
      (entries_at entries (items left)) count sorted h cut)
