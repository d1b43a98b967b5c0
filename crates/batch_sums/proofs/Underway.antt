-- What holds while a corrected tare is worked into one group after another.
use Rattle.std.proofs.Common.{◌≡◌, ℕ, zero, suc, ◌+◌, ◌*◌, ◌<◌, ◌≤◌, Bool, true, false, cond, ◌&&◌, ◌||◌, eqb, inl, inr, List, [], ◌∷◌, ◌++◌, length, map, get_or, set, Some, option_map, Vec, vec_len, vec_capacity, refl, ap, sym, subst, ◌∙◌, arith, length-append}
use Rattle.std.specs.Prelude.{ℤ, pos, ◌≤ℤ◌, ◌==◌}
use Rattle.std.specs.Ordering.{int_eq}
use Rattle.std.specs.declared.alloc.Global.{Global}
use Rattle.std.specs.Vec.{with_item}
use Rattle.std.specs.List.{list_any, count_by, slice_get}
use Rattle.std.proofs.lemmas.Bool.{cases_eq, eq-eqb, ne_eqb, or_right}
use Rattle.std.proofs.lemmas.Cmp.{int_eq_equiv}
use Rattle.std.proofs.lemmas.Int.{ints}
use Rattle.std.proofs.lemmas.List.{map-set}
use Rattle.std.proofs.lemmas.List.Folds.{list_any-append}
use Rattle.std.proofs.lemmas.List.Sums.{sum_by-le-sum_by}
use Rattle.std.proofs.lemmas.Option.{slice_get_read, slice_get_within, slice_get-map}
use Rattle.annex_tables.specs.declared.TheConstants.{MAX_POPULATION}
use Rattle.hall_limits.specs.declared.TheConstants.{MAX_TARE}
use Rattle.batch_sums.specs.declared.sums.BatchSums.TheInside.{Inside}
use Rattle.pack_groups.specs.declared.batch.Batch.{Batch}
use Rattle.pack_groups.specs.declared.group.Group.{Group}
use Rattle.batch_sums.specs.declared.types.Held.{Held}
use Rattle.pack_groups.specs.Population.{is_counted}
use Rattle.batch_sums.specs.declared.types.Pack.{Pack}
use Rattle.pack_groups.specs.Groups.{Face, face_of, faces, nth_face, IsJudged}
use Rattle.pack_groups.specs.Running.{HasShare, IsCorrected}
use Rattle.batch_sums.specs.Kept.{Sound, IsGroup, is_member, seen, terms_of}
use Rattle.batch_sums.specs.Changes.{HasFewPerGroup, group_population}
use Rattle.batch_sums.specs.Invariant.{reaches_of}
use Rattle.batch_sums.proofs.PackSums.{sum_by-map}
use Rattle.batch_sums.proofs.SoundLemmas.{face-found, set_same}
use Rattle.batch_sums.proofs.NewTares.{share, members, sound_corrected, face-same, face-other}

pub int_same : (x : ℤ) → int_eq x x ≡ true
int_same x = int_eq_equiv.refl x

-- the face of a group with another tare, where it is one of some
abbrev pub face_by : List ℕ → ℕ → ℕ → Face → Face
face_by visited tare place face =
    cond (list_any (λ other. eqb other place) visited) (record { key = face.key; tare = tare }) face

pub record IsUnderway (before now : Inside) (visited : List ℕ) (tare start steps : ℕ) : Type 0 where
  pub batches_long : vec_len now.batches ≡ vec_len before.batches
  pub batches_room : vec_capacity now.batches ≡ vec_capacity before.batches
  pub groups_long : vec_len now.groups ≡ vec_len before.groups
  pub groups_room : vec_capacity now.groups ≡ vec_capacity before.groups
  pub order : now.order ≡ before.order
  pub packs : now.packs ≡ before.packs
  pub gross_nodes : now.gross_nodes ≡ before.gross_nodes
  pub order_nodes : now.order_nodes ≡ before.order_nodes
  pub spare : now.spare ≡ before.spare
  pub piles : now.piles ≡ before.piles
  pub reaches : reaches_of now.batches.items ≡ reaches_of before.batches.items
  pub terms : map terms_of now.batches.items ≡ map terms_of before.batches.items
  pub sound : Sound now.batches.items now.groups.items now.packs.items
  pub face : (place : ℕ) → nth_face (faces now.groups.items) place
      ≡ face_by visited tare place (nth_face (faces before.groups.items) place)
  pub cost : HasFewPerGroup (map (seen (faces before.groups.items)) before.packs.items)
      → steps ≤ start + 36 * length visited

pub face_by-key : (visited : List ℕ) (tare place : ℕ) (face : Face)
    → (face_by visited tare place face).key ≡ face.key
face_by-key visited tare place face = by (list_any (λ other. eqb other place) visited)
  where
    by : (b : Bool) → (cond b (record { key = face.key; tare = tare }) face).key ≡ face.key
    by true = refl
    by false = refl

one_of : (group : ℕ) (visited : List ℕ)
    → list_any (λ other. eqb other group) (visited ++ group ∷ []) ≡ true
one_of group visited =
    list_any-append (λ other. eqb other group) visited (group ∷ [])
    ∙ or_right (list_any (λ other. eqb other group) visited) _
    (ap (λ b. b || false) (eq-eqb group group refl))

none_more : (group place : ℕ) (visited : List ℕ) → (place ≡ group → ⊥)
    → list_any (λ other. eqb other place) (visited ++ group ∷ [])
    ≡ list_any (λ other. eqb other place) visited
none_more group place visited differs =
    list_any-append (λ other. eqb other place) visited (group ∷ [])
    ∙ ap (λ b. list_any (λ other. eqb other place) visited || (b || false))
    (ne_eqb group place (λ same. differs (sym same)))
    ∙ by (list_any (λ other. eqb other place) visited)
  where
    by : (b : Bool) → (b || false) ≡ b
    by true = refl
    by false = refl

-- a group has no more grosses than its batch and day have packs in the population
population_of : (some : List Face) (place : ℕ) (held : List Held)
    → count_by (is_member place (λ mass. true)) held
    ≤ group_population (nth_face some place).key.batch (pos (nth_face some place).key.day)
    (map (seen some) held)
population_of some place held =
    let test : Pack → Bool = λ pack.
    ((pack.batch == (nth_face some place).key.batch)
    && int_eq pack.day (pos (nth_face some place).key.day)) && is_counted pack.pile in
    subst (λ n. count_by (is_member place (λ mass. true)) held ≤ n)
    (sym (sum_by-map (λ pack. cond (test pack) 1 0) (seen some) held))
    (sum_by-le-sum_by (λ h. cond (is_member place (λ mass. true) h) 1 0)
    (λ h. cond (test (seen some h)) 1 0) held (λ h. by h))
  where
    le_any : (c : Bool) → cond ((true && c) && true) 1 0 ≤ cond c 1 0
    le_any true = omega arith
    le_any false = omega arith

    nothing_le : (b : Bool) → 0 ≤ cond b 1 0
    nothing_le b = omega arith

    by : (h : Held) → cond ((eqb h.group place && is_counted h.pile) && true) 1 0
        ≤ cond ((eqb (nth_face some h.group).key.batch (nth_face some place).key.batch
        && int_eq (pos (nth_face some h.group).key.day) (pos (nth_face some place).key.day))
        && is_counted h.pile) 1 0
    by h =
        elim (cases_eq h.group place) [
          | inl same ↦
              let mine : cond ((eqb h.group place && is_counted h.pile) && true) (suc zero) zero
              ≡ cond ((true && is_counted h.pile) && true) (suc zero) zero =
              ap (λ b. cond ((b && is_counted h.pile) && true) (suc zero) zero)
              (eq-eqb h.group place same) in
              let batch : eqb (nth_face some h.group).key.batch (nth_face some place).key.batch
              ≡ true = eq-eqb _ _ (ap (λ n. (nth_face some n).key.batch) same) in
              let day : int_eq (pos (nth_face some h.group).key.day)
              (pos (nth_face some place).key.day) ≡ true =
              subst (λ n. int_eq (pos (nth_face some h.group).key.day)
              (pos (nth_face some n).key.day) ≡ true) same
              (int_same (pos (nth_face some h.group).key.day)) in
              let its : cond
              ((eqb (nth_face some h.group).key.batch (nth_face some place).key.batch
              && int_eq (pos (nth_face some h.group).key.day)
              (pos (nth_face some place).key.day)) && is_counted h.pile) (suc zero) zero
              ≡ cond (is_counted h.pile) (suc zero) zero =
              λ i. cond ((batch i && day i) && is_counted h.pile) (suc zero) zero in
              omega (arith, mine, its, le_any (is_counted h.pile))
          | inr differs ↦
              let none : cond ((eqb h.group place && is_counted h.pile) && true) (suc zero) zero
              ≡ zero = ap (λ b. cond ((b && is_counted h.pile) && true) (suc zero) zero)
              (ne_eqb h.group place differs) in
              omega (arith, none)
        ]

module _ (before now : Inside) (visited : List ℕ) (tare start steps more : ℕ)
    (under : IsUnderway before now visited tare start steps)
    (place : ℕ) (group : Group) (read_group : group ≡ get_or now.groups.items place group)
    (within : place < length now.groups.items) where
  pub at_group : slice_get now.groups.items place ≡ Some group
  at_group = slice_get_read now.groups.items (length now.groups.items) place group refl within read_group

  kept : IsGroup now.batches.items now.packs.items place group
  kept = under.sound.group place group at_group

  pub home_there : group.key.batch < length now.batches.items
  home_there = slice_get_within now.batches.items group.key.batch kept.batch kept.is

  key_is : group.key ≡ (nth_face (faces before.groups.items) place).key
  key_is = ap (λ (f : Face). f.key)
      (sym (face-found now.groups.items place group at_group) ∙ under.face place)
      ∙ face_by-key visited tare place (nth_face (faces before.groups.items) place)

  module _ (batch : Batch) (read_batch : batch ≡ get_or now.batches.items group.key.batch batch) where
    pub at_batch : slice_get now.batches.items group.key.batch ≡ Some batch
    at_batch = slice_get_read now.batches.items
        (length now.batches.items) group.key.batch batch refl home_there read_batch

    pub has_share : HasShare batch group
    has_share = share now.batches.items now.groups.items now.packs.items under.sound place group
        at_group batch at_batch

    module _ (after : Group) (new : Batch) (light : pos tare ≤ℤ MAX_TARE)
        (face : face_of after ≡ record { key = group.key; tare = tare })
        (grosses : after.grosses ≡ group.grosses) (judged : IsJudged batch.limits after)
        (changes : IsCorrected batch new group after) (reach : new.reach ≡ batch.reach)
        (cost : length group.grosses ≤ MAX_POPULATION → more ≤ steps + 36) where
      key_after : after.key ≡ group.key
      key_after = ap (λ (f : Face). f.key) face

      terms_new : terms_of new ≡ terms_of batch
      terms_new = λ i. record { product = changes.product i; limits = changes.limits i }

      face_after : (other : ℕ) → nth_face (faces (set now.groups.items place after)) other
          ≡ face_by (visited ++ place ∷ []) tare other (nth_face (faces before.groups.items) other)
      face_after other =
          elim (cases_eq other place) [
            | inl same ↦
                subst (λ n. nth_face (faces (set now.groups.items place after)) n
                ≡ face_by (visited ++ place ∷ []) tare n
                (nth_face (faces before.groups.items) n)) (sym same)
                (face-same now.groups.items place group after at_group key_after ∙ face
                ∙ (λ i. record { key = key_is i; tare = tare })
                ∙ sym (ap (λ b. cond b (record
                { key = (nth_face (faces before.groups.items) place).key; tare = tare })
                (nth_face (faces before.groups.items) place)) (one_of place visited)))
            | inr differs ↦
                face-other now.groups.items place group after at_group key_after other differs
                ∙ under.face other
                ∙ sym (ap (λ b. cond b (record
                { key = (nth_face (faces before.groups.items) other).key; tare = tare })
                (nth_face (faces before.groups.items) other))
                (none_more place other visited differs))
          ]

      pub underway_more : IsUnderway before
          (record now {
            batches = with_item now.batches group.key.batch new;
            groups =
                with_item now.groups place after;
          }) (visited ++ place ∷ []) tare start more
      underway_more =
          record {
            batches_long = under.batches_long;
            batches_room = under.batches_room;
            groups_long = under.groups_long;
            groups_room = under.groups_room;
            order = under.order;
            packs = under.packs;
            gross_nodes = under.gross_nodes;
            order_nodes = under.order_nodes;
            spare = under.spare;
            piles = under.piles;
            reaches = map-set (λ b. b.reach) now.batches.items group.key.batch new
                ∙ ap (λ n. set (reaches_of now.batches.items) group.key.batch n) reach
                ∙ set_same (reaches_of now.batches.items) group.key.batch batch.reach
                (slice_get-map (λ b. b.reach) now.batches.items group.key.batch
                ∙ ap (option_map (λ b. b.reach)) at_batch) ∙ under.reaches;
            terms = map-set terms_of now.batches.items group.key.batch new
                ∙ ap (λ t. set (map terms_of now.batches.items) group.key.batch t) terms_new
                ∙ set_same (map terms_of now.batches.items) group.key.batch (terms_of batch)
                (slice_get-map terms_of now.batches.items group.key.batch
                ∙ ap (option_map terms_of) at_batch) ∙ under.terms;
            sound = sound_corrected now.batches.items now.groups.items now.packs.items under.sound
                place group at_group batch at_batch after new tare light face grosses judged
                changes;
            face = face_after;
            cost = λ few.
                let most = population_of (faces before.groups.items) place before.packs.items in
                let count = members now.batches.items now.groups.items now.packs.items under.sound
                place group at_group batch at_batch in
                let same : count_by (is_member place (λ mass. true)) now.packs.items
                ≡ count_by (is_member place (λ mass. true)) before.packs.items =
                ap (λ (v : Vec Held Global). count_by (is_member place (λ mass. true)) v.items)
                under.packs in
                let limit = few (nth_face (faces before.groups.items) place).key.batch
                (pos (nth_face (faces before.groups.items) place).key.day) in
                let small : length group.grosses ≤ MAX_POPULATION =
                omega (arith, ints, most, count, same, limit) in
                omega (arith, cost small, under.cost few, length-append visited (place ∷ []));
          }

      pub underway_next : (next : List ℕ) → next ≡ visited ++ place ∷ []
          → IsUnderway before (record now {
            batches = with_item now.batches group.key.batch new;
            groups =
                with_item now.groups place after;
          }) next tare start more
      underway_next next is =
          subst (λ visits. IsUnderway before
          (record now {
            batches = with_item now.batches group.key.batch new;
            groups =
                with_item now.groups place after;
          }) visits tare start more) (sym is) underway_more
