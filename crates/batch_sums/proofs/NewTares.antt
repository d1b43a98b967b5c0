-- A group gets another tare: what that does to the sums of its batch.
use Rattle.std.proofs.Common.{◌≡◌, ℕ, zero, suc, ◌+◌, ◌*◌, ◌<◌, ◌≤◌, Bool, true, false, cond, ◌&&◌, eqb, ltb, inl, inr, List, [], ◌∷◌, length, set, Some, refl, ap, sym, subst, ◌∙◌, arith}
use Rattle.std.specs.Prelude.{ℤ, pos, ◌≤ℤ◌}
use Rattle.std.specs.List.{sum_by, count_by, slice_get}
use Rattle.std.proofs.lemmas.Bool.{cases_eq, eq-eqb, ne_eqb}
use Rattle.std.proofs.lemmas.List.{map-set, get_or-set_same, get_or-set_other, length-map}
use Rattle.std.proofs.lemmas.List.Sums.{sum_by-cons, sum_by-le-sum_by, count_by-le-length}
use Rattle.std.proofs.lemmas.Option.{slice_get_within, same_Some}
use Rattle.hall_limits.specs.declared.TheConstants.{MAX_TARE}
use Rattle.pack_groups.specs.declared.batch.Batch.{Batch}
use Rattle.pack_groups.specs.declared.group.Group.{Group}
use Rattle.batch_sums.specs.declared.types.Held.{Held}
use Rattle.pack_groups.specs.Population.{is_counted}
use Rattle.pack_judge.specs.Piles.{same_pile}
use Rattle.pack_groups.specs.Rising.{mass_of}
use Rattle.pack_groups.specs.Groups.{Face, face_of, faces, nth_face, no_face, threshold, IsJudged}
use Rattle.pack_groups.specs.Running.{one_if_below, HasShare, IsCorrected}
use Rattle.batch_sums.specs.Kept.{AddsUp, Sound, IsGroup, belongs, is_member, added_count, added_gross, added_tare, added_below}
use Rattle.batch_sums.proofs.PackSums.{sum_by-same, sum_by-plus}
use Rattle.batch_sums.proofs.GroupChanges.{count_by-all}
use Rattle.batch_sums.proofs.SoundLemmas.{face-found, sound_changed}
use Rattle.batch_sums.proofs.BatchTotals.{tared, bounded}
use Rattle.annex_tables.specs.declared.types.Limits.{Limits}

sum_by-times : {X : Type 0} (f : X → ℕ) (n : ℕ) (xs : List X)
    → sum_by (λ x. f x * n) xs ≡ sum_by f xs * n
sum_by-times f n [] = omega arith
sum_by-times f n (x ∷ xs) =
    sum_by-cons (λ y. f y * n) x xs ∙ ap (λ s. f x * n + s) (sum_by-times f n xs)
    ∙ sym (ap (λ s. s * n) (sum_by-cons f x xs)
    ∙ Rattle.std.proofs.Math.Nat.add-mul (f x) (sum_by f xs) n)

module _ (groups : List Group) (place : ℕ) (group after : Group)
    (at : slice_get groups place ≡ Some group) (key : after.key ≡ group.key) where
  within : place < length (faces groups)
  within = omega (arith, slice_get_within groups place group at, length-map groups face_of)

  changed : faces (set groups place after) ≡ set (faces groups) place (face_of after)
  changed = map-set face_of groups place after

  pub face-same : nth_face (faces (set groups place after)) place ≡ face_of after
  face-same = ap (λ fs. nth_face fs place) changed
      ∙ get_or-set_same (faces groups) place (face_of after) no_face within

  pub face-other : (other : ℕ) → (other ≡ place → ⊥)
      → nth_face (faces (set groups place after)) other ≡ nth_face (faces groups) other
  face-other other differs = ap (λ fs. nth_face fs other) changed
      ∙ get_or-set_other (faces groups) place other (face_of after) no_face differs

  -- no group changes its key
  pub key-same : (other : ℕ) → (nth_face (faces (set groups place after)) other).key
      ≡ (nth_face (faces groups) other).key
  key-same other =
      elim (cases_eq other place) [
        | inl same ↦ subst (λ n. (nth_face (faces (set groups place after)) n).key
            ≡ (nth_face (faces groups) n).key) (sym same)
            (ap (λ (f : Face). f.key) face-same ∙ key
            ∙ sym (ap (λ (f : Face). f.key) (face-found groups place group at)))
        | inr differs ↦ ap (λ (f : Face). f.key) (face-other other differs)
      ]

  belongs-same : (number : ℕ) (h : Held)
      → belongs (faces (set groups place after)) number h ≡ belongs (faces groups) number h
  belongs-same number h = ap (λ k. eqb k.batch number) (key-same h.group)

  module _ (held : List Held) where
    -- a batch of another number keeps its sums
    pub adds_up_apart : (number : ℕ) (batch : Batch) → (number ≡ group.key.batch → ⊥)
        → AddsUp (faces groups) held number batch
        → AddsUp (faces (set groups place after)) held number batch
    adds_up_apart number batch apart sums =
        record {
          count = λ pile. sums.count pile
              ∙ sum_by-same (added_count (faces groups) number pile)
              (added_count (faces (set groups place after)) number pile) held
              (λ h. ap (λ b. cond (b && same_pile h.pile pile) 1 0) (sym (belongs-same number h)));
          gross = λ pile. sums.gross pile
              ∙ sum_by-same (added_gross (faces groups) number pile)
              (added_gross (faces (set groups place after)) number pile) held
              (λ h. ap (λ b. cond (b && same_pile h.pile pile) h.gross 0)
              (sym (belongs-same number h)));
          tares = sums.tares ∙ sum_by-same (added_tare (faces groups) number)
              (added_tare (faces (set groups place after)) number) held tare;
          nonstandard = sums.nonstandard
              ∙ sum_by-same (added_below (faces groups) number batch.limits.t1)
              (added_below (faces (set groups place after)) number batch.limits.t1) held
              (low batch.limits.t1);
          inadequate = sums.inadequate ∙ sum_by-same
              (added_below (faces groups) number batch.limits.t2)
              (added_below (faces (set groups place after)) number batch.limits.t2) held
              (low batch.limits.t2);
        }
      where
        foreign : (h : Held) → h.group ≡ place → belongs (faces groups) number h ≡ false
        foreign h same = ne_eqb _ number
            (λ own. apart (sym own ∙ ap (λ (f : Face). f.key.batch)
            (ap (nth_face (faces groups)) same ∙ face-found groups place group at)))

        tare : (h : Held) → added_tare (faces groups) number h
            ≡ added_tare (faces (set groups place after)) number h
        tare h =
            elim (cases_eq h.group place) [
              | inl same ↦
                  ap (λ b. cond (b && is_counted h.pile) (nth_face (faces groups) h.group).tare 0)
                  (foreign h same)
                  ∙ sym (ap (λ b. cond (b && is_counted h.pile)
                  (nth_face (faces (set groups place after)) h.group).tare 0)
                  (belongs-same number h ∙ foreign h same))
              | inr differs ↦
                  sym (ap (λ (f : Face). cond (eqb f.key.batch number && is_counted h.pile) f.tare
                  0) (face-other h.group differs))
            ]

        low : (limit : ℤ) (h : Held) → added_below (faces groups) number limit h
            ≡ added_below (faces (set groups place after)) number limit h
        low limit h =
            elim (cases_eq h.group place) [
              | inl same ↦
                  ap (λ b. cond b (one_if_below h.pile h.gross
                  (threshold limit (nth_face (faces groups) h.group).tare)) 0) (foreign h same)
                  ∙ sym (ap (λ b. cond b (one_if_below h.pile h.gross
                  (threshold limit (nth_face (faces (set groups place after)) h.group).tare)) 0)
                  (belongs-same number h ∙ foreign h same))
              | inr differs ↦
                  sym (ap (λ (f : Face). cond (eqb f.key.batch number)
                  (one_if_below h.pile h.gross (threshold limit f.tare)) 0)
                  (face-other h.group differs))
            ]

    one : Held → ℕ
    one h = cond ((eqb h.group place && is_counted h.pile) && true) 1 0

    -- what a pack adds to the tares, before and after
    tare_moves : (h : Held) → added_tare (faces (set groups place after)) group.key.batch h
        + cond ((eqb h.group place && is_counted h.pile) && true) 1 0 * group.tare
        ≡ added_tare (faces groups) group.key.batch h
        + cond ((eqb h.group place && is_counted h.pile) && true) 1 0 * after.tare
    tare_moves h =
        elim (cases_eq h.group place) [
          | inl same ↦
              let mine : belongs (faces groups) group.key.batch h ≡ true =
              eq-eqb _ _ (ap (λ (f : Face). f.key.batch)
              (ap (nth_face (faces groups)) same ∙ face-found groups place group at)) in
              let before : added_tare (faces groups) group.key.batch h
              ≡ cond (is_counted h.pile) group.tare 0 =
              ap (λ b. cond (b && is_counted h.pile) (nth_face (faces groups) h.group).tare 0) mine
              ∙ ap (λ (f : Face). cond (is_counted h.pile) f.tare 0)
              (ap (nth_face (faces groups)) same ∙ face-found groups place group at) in
              let later : added_tare (faces (set groups place after)) group.key.batch h
              ≡ cond (is_counted h.pile) after.tare 0 =
              ap (λ b. cond (b && is_counted h.pile)
              (nth_face (faces (set groups place after)) h.group).tare 0)
              (belongs-same group.key.batch h ∙ mine)
              ∙ ap (λ (f : Face). cond (is_counted h.pile) f.tare 0)
              (ap (nth_face (faces (set groups place after))) same ∙ face-same) in
              let counted : cond ((eqb h.group place && is_counted h.pile) && true) (suc zero) zero
              ≡ cond (is_counted h.pile) (suc zero) zero =
              ap (λ b. cond ((b && is_counted h.pile) && true) (suc zero) zero)
              (eq-eqb h.group place same) ∙ by (is_counted h.pile) in
              swap (is_counted h.pile) _ _ _ before later counted
          | inr differs ↦
              let none : cond ((eqb h.group place && is_counted h.pile) && true) (suc zero) zero
              ≡ zero = ap (λ b. cond ((b && is_counted h.pile) && true) (suc zero) zero)
              (ne_eqb h.group place differs) in
              let same : added_tare (faces (set groups place after)) group.key.batch h
              ≡ added_tare (faces groups) group.key.batch h =
              ap (λ (f : Face). cond (eqb f.key.batch group.key.batch && is_counted h.pile)
              f.tare 0) (face-other h.group differs) in
              stay _ _ _ same none
        ]
      where
        by : (b : Bool) → cond (b && true) (suc zero) zero ≡ cond b (suc zero) zero
        by true = refl
        by false = refl

        swap : (c : Bool) (t0 t1 n : ℕ) → t0 ≡ cond c group.tare 0 → t1 ≡ cond c after.tare 0
            → n ≡ cond c (suc zero) zero → t1 + n * group.tare ≡ t0 + n * after.tare
        swap true t0 t1 n before later is = rw (before, later, is) (omega arith)
        swap false t0 t1 n before later is = rw (before, later, is) (omega arith)

        stay : (t0 t1 n : ℕ) → t1 ≡ t0 → n ≡ zero → t1 + n * group.tare ≡ t0 + n * after.tare
        stay t0 t1 n same is = rw (same, is) (omega arith)

    tares_move : sum_by (added_tare (faces (set groups place after)) group.key.batch) held
        + count_by (is_member place (λ mass. true)) held * group.tare
        ≡ sum_by (added_tare (faces groups) group.key.batch) held
        + count_by (is_member place (λ mass. true)) held * after.tare
    tares_move =
        let m : Held → ℕ = λ h. cond ((eqb h.group place && is_counted h.pile) && true) 1 0 in
        ap (λ s. sum_by (added_tare (faces (set groups place after)) group.key.batch) held + s)
        (sym (sum_by-times m group.tare held))
        ∙ sym (sum_by-plus (added_tare (faces (set groups place after)) group.key.batch)
        (λ h. m h * group.tare) held)
        ∙ sum_by-same _ _ held tare_moves
        ∙ sum_by-plus (added_tare (faces groups) group.key.batch) (λ h. m h * after.tare) held
        ∙ ap (λ s. sum_by (added_tare (faces groups) group.key.batch) held + s)
        (sum_by-times m after.tare held)

    -- what a pack adds to those below a limit, before and after
    low_moves : (limit : ℤ) (h : Held)
        → added_below (faces (set groups place after)) group.key.batch limit h
        + cond (is_member place (λ mass. ltb mass (threshold limit group.tare)) h) 1 0
        ≡ added_below (faces groups) group.key.batch limit h
        + cond (is_member place (λ mass. ltb mass (threshold limit after.tare)) h) 1 0
    low_moves limit h =
        elim (cases_eq h.group place) [
          | inl same ↦
              let mine : belongs (faces groups) group.key.batch h ≡ true =
              eq-eqb _ _ (ap (λ (f : Face). f.key.batch)
              (ap (nth_face (faces groups)) same ∙ face-found groups place group at)) in
              let before : added_below (faces groups) group.key.batch limit h
              ≡ one_if_below h.pile h.gross (threshold limit group.tare) =
              ap (λ b. cond b (one_if_below h.pile h.gross
              (threshold limit (nth_face (faces groups) h.group).tare)) 0) mine
              ∙ ap (λ (f : Face). one_if_below h.pile h.gross (threshold limit f.tare))
              (ap (nth_face (faces groups)) same ∙ face-found groups place group at) in
              let later : added_below (faces (set groups place after)) group.key.batch limit h
              ≡ one_if_below h.pile h.gross (threshold limit after.tare) =
              ap (λ b. cond b (one_if_below h.pile h.gross
              (threshold limit (nth_face (faces (set groups place after)) h.group).tare)) 0)
              (belongs-same group.key.batch h ∙ mine)
              ∙ ap (λ (f : Face). one_if_below h.pile h.gross (threshold limit f.tare))
              (ap (nth_face (faces (set groups place after))) same ∙ face-same) in
              let member : (least : ℕ) → cond (is_member place (λ mass. ltb mass least) h)
              (suc zero) zero ≡ one_if_below h.pile h.gross least =
              λ least. ap (λ b. cond ((b && is_counted h.pile) && ltb h.gross least)
              (suc zero) zero) (eq-eqb h.group place same) in
              omega (
                arith,
                before,
                later,
                member (threshold limit group.tare),
                member (threshold limit after.tare),
              )
          | inr differs ↦
              let none : (least : ℕ) → cond (is_member place (λ mass. ltb mass least) h)
              (suc zero) zero ≡ zero = λ least. ap
              (λ b. cond ((b && is_counted h.pile) && ltb h.gross least) (suc zero) zero)
              (ne_eqb h.group place differs) in
              let same : added_below (faces (set groups place after)) group.key.batch limit h
              ≡ added_below (faces groups) group.key.batch limit h =
              ap (λ (f : Face). cond (eqb f.key.batch group.key.batch)
              (one_if_below h.pile h.gross (threshold limit f.tare)) 0)
              (face-other h.group differs) in
              omega (arith, same, none (threshold limit group.tare), none (threshold limit after.tare))
        ]

    lows_move : (limit : ℤ) → sum_by
        (added_below (faces (set groups place after)) group.key.batch limit) held
        + count_by (is_member place (λ mass. ltb mass (threshold limit group.tare))) held
        ≡ sum_by (added_below (faces groups) group.key.batch limit) held
        + count_by (is_member place (λ mass. ltb mass (threshold limit after.tare))) held
    lows_move limit =
        sym (sum_by-plus (added_below (faces (set groups place after)) group.key.batch limit)
        (λ h. cond (is_member place (λ mass. ltb mass (threshold limit group.tare)) h) 1 0)
        held)
        ∙ sum_by-same _ _ held (low_moves limit)
        ∙ sum_by-plus (added_below (faces groups) group.key.batch limit)
        (λ h. cond (is_member place (λ mass. ltb mass (threshold limit after.tare)) h) 1 0) held

le_one : (b : Bool) → cond b (suc zero) zero ≤ 1
le_one true = omega arith
le_one false = omega arith

length_by : {X : Type 0} (xs : List X) → sum_by (λ x. 1) xs ≡ length xs
length_by [] = refl
length_by (x ∷ xs) = omega (arith, sum_by-cons (λ y. 1) x xs, length_by xs)

module _ (batches : List Batch) (groups : List Group) (held : List Held)
    (sound : Sound batches groups held) (place : ℕ) (group : Group)
    (at : slice_get groups place ≡ Some group)
    (batch : Batch) (home : slice_get batches group.key.batch ≡ Some batch) where
  kept : IsGroup batches held place group
  kept = sound.group place group at

  sums : AddsUp (faces groups) held group.key.batch batch
  sums = sound.batch group.key.batch batch home

  pub judged_group : IsJudged batch.limits group
  judged_group = subst (λ (b : Batch). IsJudged b.limits group)
      (same_Some kept.batch batch (sym kept.is ∙ home)) kept.judged

  pub members : length group.grosses ≡ count_by (is_member place (λ mass. true)) held
  members = sym (count_by-all group.grosses) ∙ kept.grosses (λ mass. true)

  face_is : (h : Held) → h.group ≡ place → nth_face (faces groups) h.group ≡ face_of group
  face_is h same = ap (nth_face (faces groups)) same ∙ face-found groups place group at

  mine : (h : Held) → h.group ≡ place → belongs (faces groups) group.key.batch h ≡ true
  mine h same = eq-eqb _ _ (ap (λ (f : Face). f.key.batch) (face_is h same))

  tare_share : (h : Held) → cond ((eqb h.group place && is_counted h.pile) && true) 1 0 * group.tare
      ≤ added_tare (faces groups) group.key.batch h
  tare_share h =
      elim (cases_eq h.group place) [
        | inl same ↦
            let is : added_tare (faces groups) group.key.batch h
            ≡ cond (is_counted h.pile) group.tare 0 =
            ap (λ b. cond (b && is_counted h.pile) (nth_face (faces groups) h.group).tare 0)
            (mine h same) ∙ ap (λ (f : Face). cond (is_counted h.pile) f.tare 0)
            (face_is h same) in
            let counted : cond ((eqb h.group place && is_counted h.pile) && true) (suc zero) zero
            ≡ cond (is_counted h.pile) (suc zero) zero =
            ap (λ b. cond ((b && is_counted h.pile) && true) (suc zero) zero)
            (eq-eqb h.group place same) ∙ by (is_counted h.pile) in
            part (is_counted h.pile) _ _ is counted
        | inr differs ↦
            let none : cond ((eqb h.group place && is_counted h.pile) && true) (suc zero) zero
            ≡ zero = ap (λ b. cond ((b && is_counted h.pile) && true) (suc zero) zero)
            (ne_eqb h.group place differs) in
            nothing _ _ none
      ]
    where
      by : (b : Bool) → cond (b && true) (suc zero) zero ≡ cond b (suc zero) zero
      by true = refl
      by false = refl

      part : (c : Bool) (t n : ℕ) → t ≡ cond c group.tare 0 → n ≡ cond c (suc zero) zero
          → n * group.tare ≤ t
      part true t n is counted = rw (is, counted) (omega arith)
      part false t n is counted = rw (is, counted) (omega arith)

      nothing : (t n : ℕ) → n ≡ zero → n * group.tare ≤ t
      nothing t n is = rw is (omega arith)

  low_share : (limit : ℤ) (h : Held)
      → (cond (is_member place (λ mass. ltb mass (threshold limit group.tare)) h) 1 0
      ≤ added_below (faces groups) group.key.batch limit h)
      × (added_below (faces groups) group.key.batch limit h
      + cond (is_member place (λ mass. true) h) 1 0 ≤ 1
      + cond (is_member place (λ mass. ltb mass (threshold limit group.tare)) h) 1 0)
  low_share limit h =
      elim (cases_eq h.group place) [
        | inl same ↦
            let is : added_below (faces groups) group.key.batch limit h
            ≡ one_if_below h.pile h.gross (threshold limit group.tare) =
            ap (λ b. cond b (one_if_below h.pile h.gross
            (threshold limit (nth_face (faces groups) h.group).tare)) 0) (mine h same)
            ∙ ap (λ (f : Face). one_if_below h.pile h.gross (threshold limit f.tare))
            (face_is h same) in
            let member : cond (is_member place (λ mass. ltb mass (threshold limit group.tare)) h)
            (suc zero) zero ≡ one_if_below h.pile h.gross (threshold limit group.tare) =
            ap (λ b. cond ((b && is_counted h.pile) && ltb h.gross (threshold limit group.tare))
            (suc zero) zero) (eq-eqb h.group place same) in (
              omega (arith, is, member),
              omega
                  (arith, is, member, le_one (is_member place (λ mass. true) h)),
            )
        | inr differs ↦
            let none : (test : ℕ → Bool) → cond (is_member place test h) (suc zero) zero ≡ zero =
            λ test. ap (λ b. cond ((b && is_counted h.pile) && test h.gross) (suc zero) zero)
            (ne_eqb h.group place differs) in (
              omega (arith, none (λ mass. ltb mass (threshold limit group.tare))),
              omega (
                arith,
                none (λ mass. true),
                none (λ mass. ltb mass (threshold limit group.tare)),
                most (belongs (faces groups) group.key.batch h),
              ),
            )
      ]
    where
      most : (b : Bool)
          → cond b (one_if_below h.pile h.gross
          (threshold limit (nth_face (faces groups) h.group).tare)) 0 ≤ 1
      most true = le_one _
      most false = omega arith

  -- those below a limit that aren't of the group, and all of the group, are no more than there are
  -- packs
  low_rest : (limit : ℤ) → sum_by (added_below (faces groups) group.key.batch limit) held
      + count_by (is_member place (λ mass. true)) held ≤ length held
      + count_by (is_member place (λ mass. ltb mass (threshold limit group.tare))) held
  low_rest limit =
      let f : Held → ℕ = λ h. added_below (faces groups) group.key.batch limit h
      + cond (is_member place (λ mass. true) h) 1 0 in
      let g : Held → ℕ = λ h. 1 + cond
      (is_member place (λ mass. ltb mass (threshold limit group.tare)) h) 1 0 in
      omega (
        arith,
        sum_by-le-sum_by f g held (λ h. (low_share limit h).1),
        sum_by-plus (added_below (faces groups) group.key.batch limit)
            (λ h. cond (is_member place (λ mass. true) h) 1 0) held,
        sum_by-plus (λ h. 1) (λ h. cond
            (is_member place (λ mass. ltb mass (threshold limit group.tare)) h) 1 0) held,
        length_by held,
      )

  low_part : (limit : ℤ) → count_by
      (is_member place (λ mass. ltb mass (threshold limit group.tare))) held
      ≤ sum_by (added_below (faces groups) group.key.batch limit) held
  low_part limit = sum_by-le-sum_by
      (λ h. cond (is_member place (λ mass. ltb mass (threshold limit group.tare)) h) 1 0)
      (added_below (faces groups) group.key.batch limit) held (λ h. (low_share limit h).0)

  pub share : HasShare batch group
  share =
      let m : Held → ℕ = λ h. cond ((eqb h.group place && is_counted h.pile) && true) 1 0 in
      let tares : count_by (is_member place (λ mass. true)) held * group.tare
      ≤ sum_by (added_tare (faces groups) group.key.batch) held =
      subst (λ n. n ≤ sum_by (added_tare (faces groups) group.key.batch) held)
      (sum_by-times m group.tare held)
      (sum_by-le-sum_by (λ h. m h * group.tare)
      (added_tare (faces groups) group.key.batch) held tare_share) in
      let first = kept.grosses (λ mass. ltb mass (threshold batch.limits.t1 group.tare)) in
      let second = kept.grosses (λ mass. ltb mass (threshold batch.limits.t2 group.tare)) in
      let small = bounded (faces groups) group.key.batch batch held sums sound.light
      (tared batches groups held sound) sound.few in
      record {
        tares = subst (λ n. n * group.tare ≤ batch.tares) (sym members)
            (omega (arith, tares, sums.tares));
        nonstandard = omega (
          arith,
          judged_group.nonstandard,
          first,
          sums.nonstandard,
          low_part batch.limits.t1,
        );
        inadequate = omega (
          arith,
          judged_group.inadequate,
          second,
          sums.inadequate,
          low_part batch.limits.t2,
        );
        few = omega (
          arith,
          members,
          count_by-le-length (is_member place (λ mass. true)) held,
          sound.few,
        );
        rest = omega (
          arith,
          members,
          judged_group.nonstandard,
          first,
          sums.nonstandard,
          low_rest batch.limits.t1,
          low_part batch.limits.t1,
          sound.few,
        );
        other = omega (
          arith,
          members,
          judged_group.inadequate,
          second,
          sums.inadequate,
          low_rest batch.limits.t2,
          low_part batch.limits.t2,
          sound.few,
        );
        light = omega (arith, small.tares);
      }

  -- the group got another tare, and its batch the sums that follow
  module _ (after : Group) (new : Batch) (tare : ℕ) (light : pos tare ≤ℤ MAX_TARE)
      (face : face_of after ≡ record { key = group.key; tare = tare })
      (grosses : after.grosses ≡ group.grosses) (judged : IsJudged batch.limits after)
      (changes : IsCorrected batch new group after) where
    key : after.key ≡ group.key
    key = ap (λ (f : Face). f.key) face

    has : (test : ℕ → Bool) → count_by (λ gross. test (mass_of gross)) after.grosses
        ≡ count_by (is_member place test) held
    has test = ap (λ xs. count_by (λ gross. test (mass_of gross)) xs) grosses ∙ kept.grosses test

    same_key : (h : Held) → belongs (faces (set groups place after)) group.key.batch h
        ≡ belongs (faces groups) group.key.batch h
    same_key h = ap (λ k. eqb k.batch group.key.batch) (key-same groups place group after at key h.group)

    own : AddsUp (faces (set groups place after)) held group.key.batch new
    own =
        let first = lows_move groups place group after at key held batch.limits.t1 in
        let second = lows_move groups place group after at key held batch.limits.t2 in
        let was_first = judged_group.nonstandard
        ∙ kept.grosses (λ mass. ltb mass (threshold batch.limits.t1 group.tare)) in
        let was_second = judged_group.inadequate
        ∙ kept.grosses (λ mass. ltb mass (threshold batch.limits.t2 group.tare)) in
        let is_first = judged.nonstandard
        ∙ has (λ mass. ltb mass (threshold batch.limits.t1 after.tare)) in
        let is_second = judged.inadequate
        ∙ has (λ mass. ltb mass (threshold batch.limits.t2 after.tare)) in
        record {
          count = λ pile. ap (λ s. s.count) (changes.piles pile) ∙ sums.count pile
              ∙ sum_by-same (added_count (faces groups) group.key.batch pile)
              (added_count (faces (set groups place after)) group.key.batch pile) held
              (λ h. ap (λ b. cond (b && same_pile h.pile pile) 1 0) (sym (same_key h)));
          gross = λ pile. ap (λ s. s.gross) (changes.piles pile) ∙ sums.gross pile
              ∙ sum_by-same (added_gross (faces groups) group.key.batch pile)
              (added_gross (faces (set groups place after)) group.key.batch pile) held
              (λ h. ap (λ b. cond (b && same_pile h.pile pile) h.gross 0) (sym (same_key h)));
          tares = balance _ _ _ _ _ _ _ changes.tares
              (ap (λ xs. length xs) grosses) members sums.tares
              (tares_move groups place group after at key held);
          nonstandard = subst (λ (l : Limits). new.nonstandard
              ≡ sum_by (added_below (faces (set groups place after)) group.key.batch l.t1) held)
              (sym changes.limits)
              (omega (arith, changes.nonstandard, first, was_first, is_first, sums.nonstandard));
          inadequate = subst (λ (l : Limits). new.inadequate
              ≡ sum_by (added_below (faces (set groups place after)) group.key.batch l.t2) held)
              (sym changes.limits)
              (omega (arith, changes.inadequate, second, was_second, is_second, sums.inadequate));
        }
      where
        balance : (after_tares before_tares sum_after sum_before old_long new_long count : ℕ)
            → after_tares + old_long * group.tare ≡ before_tares + new_long * after.tare
            → new_long ≡ old_long → old_long ≡ count → before_tares ≡ sum_before
            → sum_after + count * group.tare ≡ sum_before + count * after.tare → after_tares ≡ sum_after
        balance after_tares before_tares sum_after sum_before old_long new_long count moves long is
            sum all =
            let left : after_tares + count * group.tare ≡ before_tares + count * after.tare =
            ap (λ n. after_tares + n * group.tare) (sym is) ∙ moves
            ∙ ap (λ n. before_tares + n * after.tare) (long ∙ is) in
            omega (arith, left, sum, all)

    pub sound_corrected : Sound (set batches group.key.batch new) (set groups place after) held
    sound_corrected =
        sound_changed batches groups held sound place group after batch new held at home key
        (subst (λ t. pos t ≤ℤ MAX_TARE) (sym (ap (λ (f : Face). f.tare) face)) light)
        changes.product changes.limits
        (subst (λ l. IsJudged l after) (sym changes.limits) judged) sound.grouped sound.light
        sound.few own
        (λ number other differs some. adds_up_apart groups place group after at key held number
        other differs some)
        has (λ other some differs all. all)
