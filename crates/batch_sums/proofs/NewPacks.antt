-- A pack is put into the group that was found or opened for it.
use Rattle.std.proofs.Common.{◌≡◌, ℕ, zero, suc, ◌<◌, Bool, false, cond, ◌&&◌, eqb, ltb, ◌⊎◌, inl, inr, List, [], ◌∷◌, ◌++◌, length, map, get_or, Some, refl, ap, sym, subst, ◌∙◌, arith, length-append}
use Rattle.std.specs.Prelude.{pos, ◌≤ℤ◌}
use Rattle.std.specs.List.{sum_by, count_by, All, slice_get}
use Rattle.std.proofs.lemmas.Bool.{ne_eqb}
use Rattle.std.proofs.lemmas.List.{length-map, map-append}
use Rattle.std.proofs.lemmas.List.Elements.{All-head, All-tail, All-weaker}
use Rattle.std.proofs.lemmas.List.Sums.{sum_by-cons}
use Rattle.std.proofs.lemmas.Option.{same_Some, none-some}
use Rattle.hall_limits.specs.declared.TheConstants.{MAX_TARE}
use Rattle.pack_groups.specs.declared.batch.Batch.{Batch}
use Rattle.pack_groups.specs.declared.group.Group.{Group}
use Rattle.batch_sums.specs.declared.types.Held.{Held}
use Rattle.pack_groups.specs.Population.{is_counted}
use Rattle.pack_judge.specs.Piles.{same_pile}
use Rattle.pack_groups.specs.Rising.{mass_of}
use Rattle.pack_groups.specs.Groups.{Face, face_of, faces, nth_face, threshold}
use Rattle.pack_groups.specs.Running.{pile_sum, one_if_below}
use Rattle.batch_sums.specs.Kept.{AddsUp, Sound, IsGroup, seen, is_member, added_count, added_gross, added_tare, added_below}
use Rattle.pack_groups.proofs.NewGroups.{sum_by-agree}
use Rattle.pack_groups.proofs.NewGroups.{face-old}
use Rattle.batch_sums.proofs.SoundLemmas.{face-found}

zeros : {X : Type 0} (xs : List X) → sum_by (λ x. 0) xs ≡ 0
zeros [] = refl
zeros (x ∷ xs) = sum_by-cons (λ y. 0) x xs ∙ omega (arith, zeros xs)

-- what stands in a list with one item more
get-append_left : {X : Type 0} (xs : List X) (y x : X) (place : ℕ) → slice_get xs place ≡ Some x
    → slice_get (xs ++ y ∷ []) place ≡ Some x
get-append_left [] y x place is = absurd (none-some x is)
get-append_left (z ∷ xs) y x zero is = is
get-append_left (z ∷ xs) y x (suc place) is = get-append_left xs y x place is

pub get-append_new : {X : Type 0} (xs : List X) (y : X) → slice_get (xs ++ y ∷ []) (length xs) ≡ Some y
get-append_new [] y = refl
get-append_new (z ∷ xs) y = get-append_new xs y

pub get-append_cases : {X : Type 0} (xs : List X) (y x : X) (place : ℕ)
    → slice_get (xs ++ y ∷ []) place ≡ Some x → (slice_get xs place ≡ Some x)
    ⊎ ((place ≡ length xs) × (x ≡ y))
get-append_cases [] y x zero is = inr (refl, sym (same_Some y x is))
get-append_cases [] y x (suc place) is = absurd (none-some x is)
get-append_cases (z ∷ xs) y x zero is = inl is
get-append_cases (z ∷ xs) y x (suc place) is =
    elim (get-append_cases xs y x place is) [
      | inl there ↦ inl there
      | inr new ↦ inr (ap suc new.0, new.1)
    ]

-- sums of packs whose groups are there stay where a group comes behind the others
module _ (some : List Face) (face : Face) (held : List Held)
    (there : All (λ h. h.group < length some) held) where
  same : (k : ℕ) (d : Held) → k < length held
      → nth_face (some ++ face ∷ []) (get_or held k d).group ≡ nth_face some (get_or held k d).group
  same k d within = face-old some face (get_or held k d).group (there k d within)

  pub adds_up_more : (number : ℕ) (batch : Batch) → AddsUp some held number batch
      → AddsUp (some ++ face ∷ []) held number batch
  adds_up_more number batch sums =
      record {
        count = λ pile. sums.count pile
            ∙ sum_by-agree (added_count some number pile)
            (added_count (some ++ face ∷ []) number pile) held
            (λ k d within. ap (λ (f : Face). cond
            (eqb f.key.batch number && same_pile (get_or held k d).pile pile) 1 0)
            (sym (same k d within)));
        gross = λ pile. sums.gross pile
            ∙ sum_by-agree (added_gross some number pile)
            (added_gross (some ++ face ∷ []) number pile) held
            (λ k d within. ap (λ (f : Face). cond
            (eqb f.key.batch number && same_pile (get_or held k d).pile pile)
            (get_or held k d).gross 0) (sym (same k d within)));
        tares = sums.tares ∙ sum_by-agree (added_tare some number)
            (added_tare (some ++ face ∷ []) number) held
            (λ k d within. ap (λ (f : Face). cond
            (eqb f.key.batch number && is_counted (get_or held k d).pile) f.tare 0)
            (sym (same k d within)));
        nonstandard = sums.nonstandard
            ∙ sum_by-agree (added_below some number batch.limits.t1)
            (added_below (some ++ face ∷ []) number batch.limits.t1) held
            (λ k d within. ap (λ (f : Face). cond (eqb f.key.batch number)
            (one_if_below (get_or held k d).pile (get_or held k d).gross
            (threshold batch.limits.t1 f.tare)) 0) (sym (same k d within)));
        inadequate = sums.inadequate ∙ sum_by-agree (added_below some number batch.limits.t2)
            (added_below (some ++ face ∷ []) number batch.limits.t2) held
            (λ k d within. ap (λ (f : Face). cond (eqb f.key.batch number)
            (one_if_below (get_or held k d).pile (get_or held k d).gross
            (threshold batch.limits.t2 f.tare)) 0) (sym (same k d within)));
      }

  pub seen_more : map (seen (some ++ face ∷ [])) held ≡ map (seen some) held
  seen_more = by held there
    where
      by : (xs : List Held) → All (λ h. h.group < length some) xs
          → map (seen (some ++ face ∷ [])) xs ≡ map (seen some) xs
      by [] all = refl
      by (h ∷ xs) all =
          let here = face-old some face h.group (All-head (λ g. g.group < length some) h xs all) in
          let rest = by xs (All-tail (λ g. g.group < length some) h xs all) in
          λ i. record {
            number = h.number;
            batch = (here i).key.batch;
            day = pos (here i).key.day;
            gross = pos h.gross;
            tare = pos (here i).tare;
            pile = h.pile;
          } ∷ rest i

pub faces-push : (groups : List Group) (group : Group)
    → faces (groups ++ group ∷ []) ≡ faces groups ++ face_of group ∷ []
faces-push groups group = map-append face_of groups (group ∷ [])

module _ (batches : List Batch) (groups : List Group) (held : List Held)
    (sound : Sound batches groups held) where
  there : All (λ h. h.group < length (faces groups)) held
  there = subst (λ n. All (λ h. h.group < n) held) (sym (length-map groups face_of)) sound.grouped

  -- no pack is in a group that isn't there yet
  no_member : (test : ℕ → Bool) → count_by (is_member (length groups) test) held ≡ 0
  no_member test =
      sum_by-agree (λ h. cond (is_member (length groups) test h) 1 0) (λ h. 0) held
      (λ k d within. ap
      (λ b. cond ((b && is_counted (get_or held k d).pile) && test (get_or held k d).gross) 1 0)
      (ne_eqb (get_or held k d).group (length groups)
      (λ same. omega (arith, sound.grouped k d within, same))))
      ∙ zeros held

  -- a group without packs is opened
  pub sound_opened : (group : Group) (batch : Batch)
      → slice_get batches group.key.batch ≡ Some batch → batch.product ≡ group.key.product
      → pos group.tare ≤ℤ MAX_TARE → group.grosses ≡ [] → group.nonstandard ≡ 0
      → group.inadequate ≡ 0
      → Sound batches (groups ++ group ∷ []) held
  sound_opened group batch is product tare grosses nonstandard inadequate =
      record {
        group = λ place other at.
            elim (get-append_cases groups group other place at) [
              | inl before ↦ sound.group place other before
              | inr new ↦
                  let own : IsGroup batches held (length groups) group =
                  record {
                    batch = batch;
                    is = is;
                    product = product;
                    judged = record {
                      nonstandard = nonstandard ∙ ap
                          (λ xs. count_by (λ gross. ltb (mass_of gross)
                          (threshold batch.limits.t1 group.tare)) xs) (sym grosses);
                      inadequate = inadequate
                          ∙ ap (λ xs. count_by (λ gross. ltb (mass_of gross)
                          (threshold batch.limits.t2 group.tare)) xs) (sym grosses);
                    };
                    tare = tare;
                    grosses = λ test. ap (λ xs. count_by (λ gross. test (mass_of gross)) xs) grosses
                        ∙ sym (no_member test);
                  } in
                  subst (λ n. IsGroup batches held n other) (sym new.0)
                  (subst (λ g. IsGroup batches held (length groups) g) (sym new.1) own)
            ];
        batch = λ number other at. subst (λ fs. AddsUp fs held number other)
            (sym (faces-push groups group))
            (adds_up_more (faces groups) (face_of group) held there number other
            (sound.batch number other at));
        grouped = All-weaker (λ h. h.group < length groups)
            (λ h. h.group < length (groups ++ group ∷ []))
            (λ h less. omega (arith, less, length-append groups (group ∷ []))) held sound.grouped;
        light = sound.light;
        few = sound.few;
      }

  -- a batch without packs comes behind the others
  none_of : (f : Held → ℕ) → ((h : Held)
      → (nth_face (faces groups) h.group).key.batch < length batches → f h ≡ 0) → sum_by f held ≡ 0
  none_of f none = sum_by-agree f (λ h. 0) held
      (λ k d within. none (get_or held k d)
      (Rattle.batch_sums.proofs.SoundLemmas.homed batches groups held sound k d within))
      ∙ zeros held

  pub sound_batch : (batch : Batch)
      → ((pile : _) → pile_sum batch pile ≡ record { count = 0; gross = 0 }) → batch.tares ≡ 0
      → batch.nonstandard ≡ 0 → batch.inadequate ≡ 0 → Sound (batches ++ batch ∷ []) groups held
  sound_batch batch piles tares nonstandard inadequate =
      let apart : (h : Held) → (nth_face (faces groups) h.group).key.batch < length batches
      → eqb (nth_face (faces groups) h.group).key.batch (length batches) ≡ false =
      λ h less. ne_eqb _ _ (λ same. omega (arith, less, same)) in
      let own : AddsUp (faces groups) held (length batches) batch =
      record {
        count = λ pile. ap (λ s. s.count) (piles pile)
            ∙ sym (none_of (added_count (faces groups) (length batches) pile)
            (λ h less. ap (λ b. cond (b && same_pile h.pile pile) 1 0) (apart h less)));
        gross = λ pile. ap (λ s. s.gross) (piles pile)
            ∙ sym (none_of (added_gross (faces groups) (length batches) pile)
            (λ h less. ap (λ b. cond (b && same_pile h.pile pile) h.gross 0) (apart h less)));
        tares = tares
            ∙ sym (none_of (added_tare (faces groups) (length batches))
            (λ h less. ap (λ b. cond (b && is_counted h.pile)
            (nth_face (faces groups) h.group).tare 0) (apart h less)));
        nonstandard = nonstandard ∙ sym
            (none_of (added_below (faces groups) (length batches) batch.limits.t1)
            (λ h less. ap
            (λ b. cond b (one_if_below h.pile h.gross
            (threshold batch.limits.t1 (nth_face (faces groups) h.group).tare)) 0) (apart h less)));
        inadequate = inadequate
            ∙ sym (none_of (added_below (faces groups) (length batches) batch.limits.t2)
            (λ h less. ap
            (λ b. cond b (one_if_below h.pile h.gross
            (threshold batch.limits.t2 (nth_face (faces groups) h.group).tare)) 0) (apart h less)));
      } in
      record {
        group = λ place other at.
            let old = sound.group place other at in
            record {
              batch = old.batch;
              is =
                  get-append_left batches batch old.batch other.key.batch old.is;
              product =
                  old.product;
              judged = old.judged;
              tare = old.tare;
              grosses = old.grosses;
            };
        batch = λ number other at.
            elim (get-append_cases batches batch other number at) [
              | inl before ↦ sound.batch number other before
              | inr new ↦ subst (λ n. AddsUp (faces groups) held n other) (sym new.0)
                  (subst (λ b. AddsUp (faces groups) held (length batches) b) (sym new.1) own)
            ];
        grouped = sound.grouped;
        light = sound.light;
        few = sound.few;
      }
