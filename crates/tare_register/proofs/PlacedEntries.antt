-- The entries at the places of an index.
use Rattle.std.proofs.Common.{◌≡◌, ℕ, ◌+◌, ◌-◌, ◌^◌, ◌<◌, ◌==◌, cond, List, [], ◌∷◌, ◌++◌, length, get_or, take, drop, Some, None, inl, inr, refl, ap, sym, ◌∙◌, subst, arith, length-append}
use Rattle.std.proofs.lemmas.Bool.{cases_lt, eq-eqb, ne_eqb}
use Rattle.std.proofs.lemmas.List.{get_or-map, length-map, map-append, take-map, drop-map, get_or_append_left, get_or_at}
use Rattle.std.proofs.lemmas.List.Elements.{All-append, All-weaker, All-cons, All-head, All-tail, All-take, All-drop}
use Rattle.std.proofs.lemmas.List.Edits.{length-insert}
use Rattle.std.proofs.lemmas.Option.{slice_get_within, slice_get-get_or, get_or_from_slice_get}
use Rattle.std.specs.List.{All, insert, slice_get}
use Rattle.balanced_tree.specs.declared.tree.Tree.{Tree}
use Rattle.balanced_tree.specs.Trees.{items, IsBalanced}
use Rattle.tare_register.specs.declared.types.ProductTare.{ProductTare}
use Rattle.tare_register.specs.declared.types.ProductDay.{ProductDay}
use Rattle.pack_judge.specs.Tares.{deciding_tare}
use Rattle.tare_register.specs.Tares.{tares_of, next_day}
use Rattle.tare_register.specs.InOrder.{IsIndex, IsCut, IsInOrder, SaysSame, key_of, no_entry, entries_at}
use Rattle.tare_register.proofs.Alike.{same_put}
use Rattle.tare_register.proofs.CutLemmas.{in_order_put}
use Rattle.tare_register.proofs.SidesOfCut.{none_decides, found_decides, none_comes, found_comes}

-- one more entry behind the others leaves what is read at the places
read_more : (entries : List ProductTare) (entry : ProductTare) (places : List ℕ)
    → All (λ place. place < length entries) places
    → entries_at (entries ++ entry ∷ []) places ≡ entries_at entries places
read_more entries entry [] all = refl
read_more entries entry (p ∷ ps) all =
    rw (
      get_or_append_left entries (entry ∷ []) no_entry p
          (All-head (λ place. place < length entries) p ps all),
      read_more entries entry ps (All-tail (λ place. place < length entries) p ps all),
    ) refl

module _ (entries : List ProductTare) (order : Tree ℕ) (index : IsIndex entries order) where
  abbrev places : List ℕ
  places = items order

  abbrev entry_at : ℕ → ProductTare
  entry_at place = get_or entries place no_entry

  -- a place that is found in the order is that of an entry
  pub found_within : (i place : ℕ) → slice_get places i ≡ Some place → place < length entries
  found_within i place found =
      subst (λ k. k < length entries) (get_or_from_slice_get places i place place found)
      (index.placed.within i place (slice_get_within places i place found))

  found_is : (i place : ℕ) → slice_get places i ≡ Some place
      → get_or (entries_at entries places) i no_entry ≡ entry_at place
  found_is i place found =
      get_or-map entry_at places i place no_entry (slice_get_within places i place found)
      ∙ ap entry_at (get_or_from_slice_get places i place place found)

  long : length (entries_at entries places) ≡ length places
  long = length-map places entry_at

  pub none_read : (key : ProductDay) → IsCut key 0 (entries_at entries places)
      → None ≡ deciding_tare (tares_of entries key.product) key.day
  none_read key cut = none_decides (entries_at entries places) key cut
      ∙ index.same.deciding key.product key.day

  -- where some are up to a key, the last of them is there
  pub last_within : (key : ProductDay) (count : ℕ) → IsCut key count (entries_at entries places)
      → 0 < count → slice_get places (count - 1) ≡ None → ⊥
  last_within key count cut more past =
      let found = slice_get-get_or places (count - 1) 0 (omega (arith, more, cut.within, long)) in
      cc (found, past)

  module _ (key : ProductDay) (count place : ℕ)
      (cut : IsCut key count (entries_at entries places)) where
    last_read : 0 < count → slice_get places (count - 1) ≡ Some place →
        cond ((entry_at place).product == key.product) (Some (entry_at place).dated) None
        ≡ deciding_tare (tares_of entries key.product) key.day
    last_read more found =
        subst (λ (entry : ProductTare). cond (entry.product == key.product) (Some entry.dated) None
        ≡ deciding_tare (tares_of entries key.product) key.day) (found_is (count - 1) place found)
        (found_decides (entries_at entries places) key count index.placed.in_order cut more
        ∙ index.same.deciding key.product key.day)

    pub own_read : 0 < count → slice_get places (count - 1) ≡ Some place
        → (entry_at place).product ≡ key.product →
        Some (entry_at place).dated ≡ deciding_tare (tares_of entries key.product) key.day
    own_read more found own = let read = last_read more found in
        rw (eq-eqb (entry_at place).product key.product own) at read

    pub other_read : 0 < count → slice_get places (count - 1) ≡ Some place
        → ((entry_at place).product ≡ key.product → ⊥) →
        None ≡ deciding_tare (tares_of entries key.product) key.day
    other_read more found other = let read = last_read more found in
        rw (ne_eqb (entry_at place).product key.product other) at read

    first_read : slice_get places count ≡ Some place →
        cond ((entry_at place).product == key.product) (Some (entry_at place).dated.day) None
        ≡ next_day (tares_of entries key.product) key.day
    first_read found =
        let within = slice_get_within places count place found in
        subst (λ (entry : ProductTare). cond (entry.product == key.product)
        (Some entry.dated.day) None ≡ next_day (tares_of entries key.product) key.day)
        (found_is count place found)
        (found_comes (entries_at entries places) key count index.placed.in_order cut
        (omega (arith, within, long)) ∙ index.same.next key.product key.day)

    pub own_next : slice_get places count ≡ Some place → (entry_at place).product ≡ key.product →
        Some (entry_at place).dated.day ≡ next_day (tares_of entries key.product) key.day
    own_next found own = let read = first_read found in
        rw (eq-eqb (entry_at place).product key.product own) at read

    pub other_next : slice_get places count ≡ Some place
        → ((entry_at place).product ≡ key.product → ⊥) →
        None ≡ next_day (tares_of entries key.product) key.day
    other_next found other = let read = first_read found in
        rw (ne_eqb (entry_at place).product key.product other) at read

  pub end_read : (key : ProductDay) (count : ℕ) → IsCut key count (entries_at entries places)
      → slice_get places count ≡ None → None ≡ next_day (tares_of entries key.product) key.day
  end_read key count cut past =
      elim (cases_lt count (length places)) [
        | inl less ↦ absurd (let found = slice_get-get_or places count 0 less in cc (found, past))
        | inr not_less ↦
            none_comes (entries_at entries places) key count cut
            (omega (arith, cut.within, long, not_less))
            ∙ index.same.next key.product key.day
      ]

  -- an entry put behind the others, and its place into the order at the cut
  module _ (entry : ProductTare) (count : ℕ)
      (cut : IsCut (key_of entry) count (entries_at entries places)) where
    put_reads : entries_at (entries ++ entry ∷ []) (insert places count (length entries))
        ≡ insert (entries_at entries places) count entry
    put_reads =
        map-append (λ place. get_or (entries ++ entry ∷ []) place no_entry) (take count places)
        (length entries ∷ drop count places)
        ∙ joined (read_more entries entry (take count places)
        (All-take (λ place. place < length entries) count places index.placed.within)
        ∙ sym (take-map entry_at count places))
        (get_or_at entries entry [] no_entry (length entries) refl)
        (read_more entries entry (drop count places)
        (All-drop (λ place. place < length entries) count places index.placed.within)
        ∙ sym (drop-map entry_at count places))
      where
        joined : {xs xs' ys ys' : List ProductTare} {x x' : ProductTare} → xs ≡ xs' → x ≡ x'
            → ys ≡ ys' → xs ++ x ∷ ys ≡ xs' ++ x' ∷ ys'
        joined h k l = rw (h, k, l) refl

    put_within : All (λ place. place < length (entries ++ entry ∷ []))
        (insert places count (length entries))
    put_within =
        let grown : All (λ place. place < length (entries ++ entry ∷ [])) places =
        All-weaker (λ place. place < length entries)
        (λ place. place < length (entries ++ entry ∷ []))
        (λ place h. omega (arith, h, length-append entries (entry ∷ []))) places
        index.placed.within in
        All-append (λ place. place < length (entries ++ entry ∷ [])) (take count places)
        (length entries ∷ drop count places)
        (All-take (λ place. place < length (entries ++ entry ∷ [])) count places grown)
        (All-cons (λ place. place < length (entries ++ entry ∷ [])) (length entries)
        (drop count places) (omega (arith, length-append entries (entry ∷ [])))
        (All-drop (λ place. place < length (entries ++ entry ∷ [])) count places grown))

    put_long : length (insert places count (length entries)) ≡ length (entries ++ entry ∷ [])
    put_long =
        omega (
          arith,
          length-insert places count (length entries) (omega (arith, cut.within, long)),
          index.long,
          length-append entries (entry ∷ []),
        )

    pub index_put : (put : Tree ℕ) → IsBalanced put
        → items put ≡ insert places count (length entries) → length entries + 1 < 2 ^ 32
        → IsIndex (entries ++ entry ∷ []) put
    index_put put balanced made few =
        let reads = ap (entries_at (entries ++ entry ∷ [])) made ∙ put_reads in
        let own = ap length made ∙ put_long in
        record {
          placed = record {
            balanced = balanced;
            few = omega (arith, own, length-append entries (entry ∷ []), few);
            within = subst (All (λ place. place < length (entries ++ entry ∷ []))) (sym made)
                put_within;
            in_order = subst IsInOrder (sym reads)
                (in_order_put (entries_at entries places) entry count index.placed.in_order cut);
          };
          long = own;
          same = subst (λ xs. SaysSame xs (entries ++ entry ∷ [])) (sym reads)
              (same_put (entries_at entries places) entries entry count index.same cut);
        }
