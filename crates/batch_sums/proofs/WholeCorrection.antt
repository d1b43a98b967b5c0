-- All groups of a product within some days have the corrected tare: what the list of packs is then,
-- and in how many steps.
use Rattle.std.proofs.Common.{◌≡◌, ℕ, zero, suc, ◌+◌, ◌*◌, ◌-◌, ◌<◌, ◌≤◌, Bool, true, false, cond, ◌&&◌, ◌||◌, eqb, ltb, leb, max, inl, inr, List, [], ◌∷◌, ◌++◌, length, map, filter, get_or, take, drop, Option, Some, refl, ap, sym, subst, ◌∙◌, arith, true≢false}
use Rattle.std.specs.Prelude.{ℤ, pos, ◌≤ℤ◌}
use Rattle.std.specs.Ordering.{int_eq}
use Rattle.std.specs.Option.{option_map_or}
use Rattle.std.specs.List.{sum_by, count_by, list_any, slice_get, between, All}
use Rattle.std.proofs.lemmas.Bool.{cases_Bool, eq-eqb, eqb-true, and_parts, and_from, or_cases, or_right, le-leb, lt-ltb, leb-true, ltb-true}
use Rattle.std.proofs.lemmas.Bool.Decides.{Decides-int_eq}
use Rattle.std.proofs.lemmas.Cmp.{int_eq_equiv}
use Rattle.std.proofs.lemmas.List.{length-map, get_or-map}
use Rattle.std.proofs.lemmas.List.Folds.{list_any_at}
use Rattle.std.proofs.lemmas.List.Elements.{All-head, All-tail, All-take, All-drop}
use Rattle.std.proofs.lemmas.List.Sums.{sum_by-cons, sum_by-take-le, sum_by-take-drop, get_or-le-sum_by}
use Rattle.std.proofs.lemmas.Option.{slice_get-map, slice_get_cases}
use Rattle.hall_limits.specs.declared.TheConstants.{MAX_DAY}
use Rattle.pack_judge.specs.declared.tares.Span.{Span}
use Rattle.pack_judge.specs.Tares.{covers}
use Rattle.pack_groups.specs.declared.batch.Batch.{Batch}
use Rattle.pack_groups.specs.declared.group.Group.{Group}
use Rattle.batch_sums.specs.declared.types.Held.{Held}
use Rattle.batch_sums.specs.Totals.{Terms}
use Rattle.batch_sums.specs.declared.types.Pack.{Pack}
use Rattle.pack_groups.specs.Groups.{Face, face_of, faces, nth_face, nth_rank, at_least_0}
use Rattle.pack_groups.specs.Index.{IsIndex}
use Rattle.batch_sums.specs.Kept.{Sound, seen, terms_of}
use Rattle.batch_sums.specs.Changes.{is_concerned, concerned, corrected, same_group, group_count}
use Rattle.pack_groups.proofs.OrderLemmas.{below}
use Rattle.batch_sums.proofs.SoundLemmas.{face-found}
use Rattle.batch_sums.proofs.GroupRanges.{any_counted, counted_any, bool_same, between_ranks, ranks_between, in_days, of_days}
use Rattle.batch_sums.proofs.GroupCounts.{different_groups}
use Rattle.batch_sums.proofs.ReadyGroups.{exists_by}
use Rattle.batch_sums.proofs.Underway.{face_by, int_same}

-- an item of a list is counted in it
counted_itself : (xs : List ℕ) (k d : ℕ) → k < length xs
    → 0 < count_by (λ other. eqb other (get_or xs k d)) xs
counted_itself xs k d within =
    let one : cond (eqb (get_or xs k d) (get_or xs k d)) (suc zero) zero ≡ suc zero =
    ap (λ b. cond b (suc zero) zero) (eq-eqb _ _ refl) in
    omega (arith, get_or-le-sum_by (λ other. cond (eqb other (get_or xs k d)) 1 0) xs k d within, one)

sum_by-le-all : (f g : ℕ → ℕ) (xs : List ℕ) → All (λ x. f x ≤ g x) xs → sum_by f xs ≤ sum_by g xs
sum_by-le-all f g [] all = omega arith
sum_by-le-all f g (x ∷ xs) all =
    omega (
      arith,
      sum_by-cons f x xs,
      sum_by-cons g x xs,
      All-head (λ y. f y ≤ g y) x xs all,
      sum_by-le-all f g xs (All-tail (λ y. f y ≤ g y) x xs all),
    )

any_filter : (p q : Pack → Bool) (xs : List Pack) → list_any (λ x. q x && p x) xs ≡ true
    → list_any p (filter q xs) ≡ true
any_filter p q [] there = there
any_filter p q (x ∷ xs) there =
    elim (or_cases (q x && p x) (list_any (λ y. q y && p y) xs) there) [
      | inl here ↦
          let both = and_parts (q x) (p x) here in
          subst (λ b. list_any p (cond b (x ∷ filter q xs) (filter q xs)) ≡ true) (sym both.0)
          (ap (λ b. b || list_any p (filter q xs)) both.1)
      | inr later ↦ by (q x) (any_filter p q xs later)
    ]
  where
    by : (b : Bool) → list_any p (filter q xs) ≡ true
        → list_any p (cond b (x ∷ filter q xs) (filter q xs)) ≡ true
    by true rest = or_right (p x) (list_any p (filter q xs)) rest
    by false rest = rest

module _ (batches : List Batch) (groups : List Group) (held : List Held)
    (sound : Sound batches groups held)
    (used : (place : ℕ) → place < length groups → 0 < count_by (λ pack. eqb pack.group place) held)
    (order : List ℕ) (index : IsIndex (faces groups) order) (product from until first end : ℕ)
    (low : from < 4294967296) (high : until < 4294967296)
    (first_is : first ≡ below (nth_rank (faces groups))
    ((product * 4294967296 + from) * 4294967296 + 0) order)
    (end_is : end ≡ max first (below (nth_rank (faces groups))
    ((product * 4294967296 + until) * 4294967296 + 0) order))
    (span : Span) (days : (day : ℕ) → pos day ≤ℤ MAX_DAY
    → covers span (pos day) ≡ (leb from day && ltb day until)) where
  long : length (faces groups) ≡ length groups
  long = length-map groups face_of

  -- the groups between the two places are those of the product within the days
  own : (place : ℕ) → 0 < count_by (λ other. eqb other place) (between first end order)
      → place < length groups
      → ((nth_face (faces groups) place).key.product ≡ product)
      × (from ≤ (nth_face (faces groups) place).key.day)
      × ((nth_face (faces groups) place).key.day < until)
  own place there within =
      let ranks = between_ranks (faces groups) order index _ _ first end first_is end_is place there in
      in_days product from until (nth_face (faces groups) place)
      (index.keys place (omega (arith, within, long))) low high ranks.0 ranks.1

  pub visited_is : (place : ℕ) → place < length groups
      → list_any (λ other. eqb other place) (between first end order)
      ≡ (eqb (nth_face (faces groups) place).key.product product
      && (leb from (nth_face (faces groups) place).key.day
      && ltb (nth_face (faces groups) place).key.day until))
  visited_is place within =
      bool_same _ _
      (λ any. let o = own place (counted_any place (between first end order) any) within in
      and_from _ _ (eq-eqb _ _ o.0) (and_from _ _ (le-leb _ _ o.1) (lt-ltb _ _ o.2)))
      (λ all. let parts = and_parts _ _ all in let rest = and_parts _ _ parts.1 in
      let ranks = of_days product from until (nth_face (faces groups) place)
      (index.keys place (omega (arith, within, long))) (eqb-true _ _ parts.0)
      (leb-true _ _ rest.0) (ltb-true _ _ rest.1) in
      any_counted place (between first end order)
      (ranks_between (faces groups) order index _ _ first end first_is end_is place
      (omega (arith, within, long)) ranks.0 ranks.1))

  -- a pack is concerned where its group was visited
  pub concerned_is : (h : Held) → h.group < length groups
      → is_concerned (map terms_of batches) product span (seen (faces groups) h)
      ≡ list_any (λ other. eqb other h.group) (between first end order)
  concerned_is h within =
      elim (slice_get_cases groups h.group).1 [
        | inl found ↦
            let kept = sound.group h.group found.0 found.2 in
            let face = face-found groups h.group found.0 found.2 in
            let key = index.keys h.group (omega (arith, within, long)) in
            let terms : slice_get (map terms_of batches) (nth_face (faces groups) h.group).key.batch
            ≡ Some (terms_of kept.batch) =
            ap (λ (f : Face). slice_get (map terms_of batches) f.key.batch) face
            ∙ slice_get-map terms_of batches found.0.key.batch
            ∙ ap (Rattle.std.proofs.Common.option_map terms_of) kept.is in
            let mine : kept.batch.product ≡ (nth_face (faces groups) h.group).key.product =
            kept.product ∙ sym (ap (λ (f : Face). f.key.product) face) in
            (λ i. option_map_or (λ (t : Terms). eqb t.product product) (terms i) false
            && days (nth_face (faces groups) h.group).key.day key.day i)
            ∙ ap (λ n. eqb n product && (leb from (nth_face (faces groups) h.group).key.day
            && ltb (nth_face (faces groups) h.group).key.day until)) mine
            ∙ sym (visited_is h.group within)
        | inr past ↦ absurd (omega (arith, within, past.0))
      ]

  -- the packs, once the groups between the two places have the tare
  pub packs_corrected : (tare : ℕ) (mass : ℤ) (now : List Face) → pos tare ≡ mass
      → ((place : ℕ) → nth_face now place
      ≡ face_by (between first end order) tare place (nth_face (faces groups) place))
      → map (seen now) held ≡ corrected (map terms_of batches) product span mass
      (map (seen (faces groups)) held)
  packs_corrected tare mass now same face = by held sound.grouped
    where
      one : (b c : Bool) (h : Held) (f : Face) → c ≡ b
          → f ≡ cond b (record { key = (nth_face (faces groups) h.group).key; tare = tare })
          (nth_face (faces groups) h.group)
          → ◌≡◌ {A = Pack}
          (record {
            number = h.number;
            batch = f.key.batch;
            day = pos f.key.day;
            gross =
                pos h.gross;
            tare = pos f.tare;
            pile = h.pile;
          })
          (cond c (record {
            number = h.number;
            batch = (nth_face (faces groups) h.group).key.batch;
            day = pos (nth_face (faces groups) h.group).key.day;
            gross = pos h.gross;
            tare = mass;
            pile = h.pile;
          }) (seen (faces groups) h))
      one true c h f is at =
          (λ i. record {
            number = h.number;
            batch = (at i).key.batch;
            day = pos (at i).key.day;
            gross = pos h.gross;
            tare = pos (at i).tare;
            pile = h.pile;
          })
          ∙ (λ i. record {
            number = h.number;
            batch = (nth_face (faces groups) h.group).key.batch;
            day = pos (nth_face (faces groups) h.group).key.day;
            gross = pos h.gross;
            tare =
                same i;
            pile = h.pile;
          })
          ∙ sym (ap (λ d. cond d (record {
            number = h.number;
            batch = (nth_face (faces groups) h.group).key.batch;
            day =
                pos (nth_face (faces groups) h.group).key.day;
            gross = pos h.gross;
            tare = mass;
            pile = h.pile;
          }) (seen (faces groups) h)) is)
      one false c h f is at =
          (λ i. record {
            number = h.number;
            batch = (at i).key.batch;
            day = pos (at i).key.day;
            gross = pos h.gross;
            tare = pos (at i).tare;
            pile = h.pile;
          })
          ∙ sym (ap (λ d. cond d (record {
            number = h.number;
            batch = (nth_face (faces groups) h.group).key.batch;
            day =
                pos (nth_face (faces groups) h.group).key.day;
            gross = pos h.gross;
            tare = mass;
            pile = h.pile;
          }) (seen (faces groups) h)) is)

      by : (xs : List Held) → All (λ h. h.group < length groups) xs
          → map (seen now) xs ≡ corrected (map terms_of batches) product span mass
          (map (seen (faces groups)) xs)
      by [] all = refl
      by (h ∷ xs) all =
          let here = one (list_any (λ other. eqb other h.group) (between first end order))
          (is_concerned (map terms_of batches) product span (seen (faces groups) h)) h
          (nth_face now h.group) (concerned_is h
          (All-head (λ g. g.group < length groups) h xs all)) (face h.group) in
          let rest = by xs (All-tail (λ g. g.group < length groups) h xs all) in
          λ i. here i ∷ rest i

  -- a group by its batch and day
  of_group : ℕ → Pack → Bool
  of_group place pack = eqb (nth_face (faces groups) place).key.batch pack.batch
      && int_eq (pos (nth_face (faces groups) place).key.day) pack.day

  pub placed_in : All (λ place. place < length (faces groups)) (between first end order)
  placed_in = All-take (λ place. place < length (faces groups)) (end - first) (drop first order)
      (All-drop (λ place. place < length (faces groups)) first order index.within)

  -- a group that was visited and has the batch and day of a pack has a rank that these decide
  ranked : (pack : Pack) (k d : ℕ) → k < length (between first end order)
      → cond (of_group (get_or (between first end order) k d) pack) 1 0
      ≤ cond (eqb (nth_rank (faces groups) (get_or (between first end order) k d))
      ((product * 4294967296 + at_least_0 pack.day) * 4294967296 + pack.batch)) 1 0
  unfolding of_group
  ranked pack k d within =
      elim (cases_Bool (of_group (get_or (between first end order) k d) pack)) [
        | inl mine ↦
            let parts = and_parts _ _ mine in
            let day = ap at_least_0
            ((Decides-int_eq
            (pos (nth_face (faces groups) (get_or (between first end order) k d)).key.day)
            pack.day).0 parts.1) in
            let batch = eqb-true _ _ parts.0 in
            let o = own (get_or (between first end order) k d)
            (counted_itself (between first end order) k d within)
            (omega (arith, placed_in k d within, long)) in
            let same : nth_rank (faces groups) (get_or (between first end order) k d)
            ≡ (product * 4294967296 + at_least_0 pack.day) * 4294967296 + pack.batch =
            omega (arith, day, batch, o.0) in
            let one : cond (eqb (nth_rank (faces groups) (get_or (between first end order) k d))
            ((product * 4294967296 + at_least_0 pack.day) * 4294967296 + pack.batch))
            (suc zero) zero ≡ suc zero = ap (λ b. cond b (suc zero) zero) (eq-eqb _ _ same) in
            omega (arith, one, one_le (of_group (get_or (between first end order) k d) pack))
        | inr other ↦
            let none : cond (of_group (get_or (between first end order) k d) pack) (suc zero) zero
            ≡ zero = ap (λ b. cond b (suc zero) zero) other in
            omega (arith, none)
      ]
    where
      one_le : (b : Bool) → cond b 1 0 ≤ 1
      one_le true = omega arith
      one_le false = omega arith

  no_pack : Held
  no_pack = record {
    number = 0;
    group = 0;
    links = record { before = 0; skip = 0; rank = 0 };
    gross = 0;
    pile =
        Rattle.pack_judge.specs.declared.types.Pile.TheVariants.Passed;
  }

  -- the groups between the two places are no more than those of the packs that are concerned
  pub visited_few : length (between first end order)
      ≤ group_count (concerned (map terms_of batches) product span (map (seen (faces groups)) held))
  unfolding of_group
  visited_few = different_groups of_group follows
      (concerned (map terms_of batches) product span (map (seen (faces groups)) held))
      (between first end order) among apart
    where
      follows : (x : ℕ) (one other : Pack) → of_group x one ≡ true → same_group one other ≡ true
          → of_group x other ≡ true
      follows x one other mine same =
          let a = and_parts _ _ mine in
          let b = and_parts _ _ same in
          and_from _ _ (eq-eqb _ _ (eqb-true _ _ a.0 ∙ eqb-true _ _ b.0))
          (sym (int_eq_equiv.congr one.day (pos (nth_face (faces groups) x).key.day) other.day
          (int_eq_equiv.symm one.day (pos (nth_face (faces groups) x).key.day) ∙ a.1)) ∙ b.1)

      among : All (λ x. list_any (of_group x)
          (concerned (map terms_of batches) product span (map (seen (faces groups)) held)) ≡ true)
          (between first end order)
      among k d within =
          let x = get_or (between first end order) k d in
          let visited : list_any (λ other. eqb other (get_or (between first end order) k d))
          (between first end order) ≡ true =
          any_counted _ (between first end order)
          (counted_itself (between first end order) k d within) in
          let placed : get_or (between first end order) k d < length groups =
          omega (arith, placed_in k d within, long) in
          let found = exists_by x held (used x placed) in
          let h : Held = get_or held found.0 no_pack in
          let same : h.group ≡ x = found.2 no_pack in
          let grouped : h.group < length groups = omega (arith, same, placed) in
          let is : is_concerned (map terms_of batches) product span (seen (faces groups) h) ≡ true =
          concerned_is h grouped
          ∙ ap (λ n. list_any (λ other. eqb other n) (between first end order)) same
          ∙ visited in
          let batch : eqb (nth_face (faces groups) x).key.batch
          (nth_face (faces groups) h.group).key.batch ≡ true =
          eq-eqb _ _ (ap (λ n. (nth_face (faces groups) n).key.batch) (sym same)) in
          let day : int_eq (pos (nth_face (faces groups) x).key.day)
          (pos (nth_face (faces groups) h.group).key.day) ≡ true =
          subst (λ n. int_eq (pos (nth_face (faces groups) x).key.day)
          (pos (nth_face (faces groups) n).key.day) ≡ true) (sym same)
          (int_same (pos (nth_face (faces groups) x).key.day)) in
          let test : Pack → Bool = λ pack. is_concerned (map terms_of batches) product span pack
          && of_group x pack in
          let passes : test (seen (faces groups) h) ≡ true = and_from _ _ is (and_from _ _ batch day) in
          any_filter (of_group x) (is_concerned (map terms_of batches) product span)
          (map (seen (faces groups)) held)
          (list_any_at test (map (seen (faces groups)) held) found.0 (seen (faces groups) no_pack)
          (omega (arith, found.1, length-map held (seen (faces groups))))
          (ap test (get_or-map (seen (faces groups)) held found.0 no_pack
          (seen (faces groups) no_pack) found.1) ∙ passes))

      apart : (pack : Pack) → count_by (λ x. of_group x pack) (between first end order) ≤ 1
      apart pack =
          let rank = (product * 4294967296 + at_least_0 pack.day) * 4294967296 + pack.batch in
          let most = sum_by-le-all (λ x. cond (of_group x pack) 1 0)
          (λ x. cond (eqb (nth_rank (faces groups) x) rank) 1 0) (between first end order)
          (λ k d within. ranked pack k d within) in
          let part = sum_by-take-le (λ x. cond (eqb (nth_rank (faces groups) x) rank) 1 0)
          (drop first order) (end - first) in
          let whole = sum_by-take-drop (λ x. cond (eqb (nth_rank (faces groups) x) rank) 1 0) order
          first in
          omega (arith, most, part, whole, index.distinct rank)
