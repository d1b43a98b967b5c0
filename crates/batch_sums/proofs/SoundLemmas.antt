-- A change of one batch, one group and the packs keeps them fitting together.
use Rattle.std.proofs.Common.{◌≡◌, ℕ, zero, suc, ◌<◌, inl, inr, List, [], ◌∷◌, length, get_or, set, Some, refl, ap, sym, subst, ◌∙◌, arith, length-set}
use Rattle.std.specs.Prelude.{pos, ◌≤ℤ◌}
use Rattle.std.specs.List.{All, slice_get, remove}
use Rattle.std.proofs.lemmas.Bool.{cases_eq}
use Rattle.std.proofs.lemmas.List.{map-set}
use Rattle.std.proofs.lemmas.List.Elements.{All-take, All-drop, All-append}
use Rattle.std.proofs.lemmas.Option.{slice_get_cases, slice_get_within, same_Some}
use Rattle.hall_limits.specs.declared.TheConstants.{MAX_GROSS, MAX_TARE}
use Rattle.pack_groups.specs.declared.batch.Batch.{Batch}
use Rattle.pack_groups.specs.declared.grosses.Gross.{Gross}
use Rattle.pack_groups.specs.declared.group.Group.{Group}
use Rattle.batch_sums.specs.declared.types.Held.{Held}
use Rattle.pack_groups.specs.Groups.{Face, face_of, faces, nth_face, IsJudged}
use Rattle.batch_sums.specs.Kept.{AddsUp, Sound, IsGroup}
use Rattle.pack_groups.proofs.Faces.{face-at}
use Rattle.batch_sums.proofs.OnePackMore.{HasGrosses}

-- what stands at a place after a write
pub get-set_same : {X : Type 0} (xs : List X) (i : ℕ) (y : X) → i < length xs
    → slice_get (set xs i y) i ≡ Some y
get-set_same [] i y within = absurd (omega arith)
get-set_same (x ∷ xs) zero y within = refl
get-set_same (x ∷ xs) (suc i) y within = get-set_same xs i y (omega arith)

pub get-set_other : {X : Type 0} (xs : List X) (i j : ℕ) (y : X) → (j ≡ i → ⊥)
    → slice_get (set xs i y) j ≡ slice_get xs j
get-set_other [] i j y other = refl
get-set_other (x ∷ xs) zero zero y other = absurd (other refl)
get-set_other (x ∷ xs) zero (suc j) y other = refl
get-set_other (x ∷ xs) (suc i) zero y other = refl
get-set_other (x ∷ xs) (suc i) (suc j) y other = get-set_other xs i j y (λ same. other (ap suc same))

-- a write of what stands there changes nothing
pub set_same : {X : Type 0} (xs : List X) (i : ℕ) (x : X) → slice_get xs i ≡ Some x → set xs i x ≡ xs
set_same [] i x is = refl
set_same (y ∷ xs) zero x is = ap (λ z. z ∷ xs) (sym (same_Some y x is))
set_same (y ∷ xs) (suc i) x is = ap (λ zs. y ∷ zs) (set_same xs i x is)

pub face-found : (groups : List Group) (place : ℕ) (group : Group)
    → slice_get groups place ≡ Some group → nth_face (faces groups) place ≡ face_of group
face-found groups place group is =
    face-at groups place group (slice_get_within groups place group is)
    ∙ ap face_of (Rattle.std.proofs.lemmas.Option.get_or_from_slice_get groups place group group
    is)

-- a group that keeps its face keeps all faces
pub faces-set : (groups : List Group) (place : ℕ) (group after : Group)
    → slice_get groups place ≡ Some group → face_of after ≡ face_of group
    → faces (set groups place after) ≡ faces groups
faces-set groups place group after is face =
    map-set face_of groups place after
    ∙ ap (λ f. set (faces groups) place f) face
    ∙ set_same (faces groups) place (face_of group)
    (Rattle.std.proofs.lemmas.Option.slice_get-map face_of groups place ∙ rw is refl)

pub All-remove : {X : Type 0} (P : X → Type 0) (xs : List X) (i : ℕ) → All P xs → All P (remove xs i)
All-remove P xs i all = All-append P _ _ (All-take P i xs all) (All-drop P (suc i) xs all)

module _ (batches : List Batch) (groups : List Group) (held : List Held)
    (sound : Sound batches groups held) where
  -- the batch of each pack is there
  pub homed : All (λ h. (nth_face (faces groups) h.group).key.batch < length batches) held
  homed k d within = at (get_or held k d).group (sound.grouped k d within)
    where
      at : (place : ℕ) → place < length groups
          → (nth_face (faces groups) place).key.batch < length batches
      at place there =
          elim (slice_get_cases groups place).1 [
            | inl found ↦
                let group = sound.group place found.0 found.2 in
                subst (λ (face : Face). face.key.batch < length batches)
                (sym (face-found groups place found.0 found.2))
                (slice_get_within batches found.0.key.batch group.batch group.is)
            | inr past ↦ absurd (omega (arith, there, past.0))
          ]

  -- one batch, one group and the packs change
  module _ (place : ℕ) (group after : Group) (batch new : Batch) (packs : List Held)
      (at_group : slice_get groups place ≡ Some group)
      (at_batch : slice_get batches group.key.batch ≡ Some batch)
      (key : after.key ≡ group.key) (tare : pos after.tare ≤ℤ MAX_TARE)
      (product : new.product ≡ batch.product) (limits : new.limits ≡ batch.limits)
      (judged : IsJudged new.limits after)
      (grouped : All (λ h. h.group < length groups) packs)
      (light : All (λ h. pos h.gross ≤ℤ MAX_GROSS) packs) (few : length packs < 4294967296)
      (own : AddsUp (faces (set groups place after)) packs group.key.batch new)
      (others : (number : ℕ) (other : Batch) → (number ≡ group.key.batch → ⊥)
      → AddsUp (faces groups) held number other
      → AddsUp (faces (set groups place after)) packs number other)
      (grosses : HasGrosses place packs after.grosses)
      (rest : (other : ℕ) (some : List Gross) → (other ≡ place → ⊥) → HasGrosses other held some
      → HasGrosses other packs some) where
    there : group.key.batch < length batches
    there = slice_get_within batches group.key.batch batch at_batch

    sums_after : (number : ℕ) (other : Batch)
        → slice_get (set batches group.key.batch new) number ≡ Some other
        → AddsUp (faces (set groups place after)) packs number other
    sums_after number other is =
        elim (cases_eq number group.key.batch) [
          | inl same ↦
              let e : new ≡ other = same_Some new other
              (sym (get-set_same batches group.key.batch new there)
              ∙ ap (λ n. slice_get (set batches group.key.batch new) n) (sym same) ∙ is) in
              subst (λ n. AddsUp (faces (set groups place after)) packs n other) (sym same)
              (subst (λ b. AddsUp (faces (set groups place after)) packs group.key.batch b) e
              own)
          | inr differs ↦
              let before = sym (get-set_other batches group.key.batch number new differs) ∙ is in
              others number other differs (sound.batch number other before)
        ]

    -- the batch of a group that was judged by a batch before
    batch_after : (number : ℕ) (old : Batch) → slice_get batches number ≡ Some old → (b : Batch)
        × (slice_get (set batches group.key.batch new) number ≡ Some b) × (b.product ≡ old.product)
        × (b.limits ≡ old.limits)
    batch_after number old is =
        elim (cases_eq number group.key.batch) [
          | inl same ↦
              let e : batch ≡ old = same_Some batch old
              (sym at_batch ∙ ap (λ n. slice_get batches n) (sym same) ∙ is) in (
                new,
                ap (λ n. slice_get (set batches group.key.batch new) n) same
                    ∙ get-set_same batches group.key.batch new there,
                product
                    ∙ ap (λ (b : Batch). b.product) e,
                limits ∙ ap (λ (b : Batch). b.limits) e,
              )
          | inr differs ↦ (
            old,
            get-set_other batches group.key.batch number new differs
                ∙ is,
            refl,
            refl,
          )
        ]

    group_after : (other : ℕ) (some : Group) → slice_get (set groups place after) other ≡ Some some
        → IsGroup (set batches group.key.batch new) packs other some
    group_after other some is =
        elim (cases_eq other place) [
          | inl same ↦
              let old = sound.group place group at_group in
              let within = slice_get_within groups place group at_group in
              let e : after ≡ some = same_Some after some
              (sym (get-set_same groups place after within)
              ∙ ap (λ n. slice_get (set groups place after) n) (sym same) ∙ is) in
              let own_after : IsGroup (set batches group.key.batch new) packs place after =
              record {
                batch = new;
                is = ap (λ n. slice_get (set batches group.key.batch new) n) (ap (λ k. k.batch) key)
                    ∙ get-set_same batches group.key.batch new there;
                product = product ∙ ap (λ (b : Batch). b.product)
                    (same_Some batch old.batch (sym at_batch ∙ old.is)) ∙ old.product
                    ∙ sym (ap (λ k. k.product) key);
                judged = judged;
                tare = tare;
                grosses = grosses;
              } in
              subst (λ n. IsGroup (set batches group.key.batch new) packs n some) (sym same)
              (subst (λ g. IsGroup (set batches group.key.batch new) packs place g) e own_after)
          | inr differs ↦
              let before = sym (get-set_other groups place other after differs) ∙ is in
              let old = sound.group other some before in
              let home = batch_after some.key.batch old.batch old.is in
              record {
                batch = home.0;
                is = home.1;
                product = home.2 ∙ old.product;
                judged = subst (λ l. IsJudged l some) (sym home.3) old.judged;
                tare = old.tare;
                grosses = rest other some.grosses differs old.grosses;
              }
        ]

    pub sound_changed : Sound (set batches group.key.batch new) (set groups place after) packs
    sound_changed =
        record {
          group = group_after;
          batch = sums_after;
          grouped = subst (λ n. All (λ h. h.group < n) packs)
              (sym (length-set groups place after)) grouped;
          light = light;
          few = few;
        }

  -- the same where the group keeps its face
  module _ (place : ℕ) (group after : Group) (batch new : Batch) (packs : List Held)
      (at_group : slice_get groups place ≡ Some group)
      (at_batch : slice_get batches group.key.batch ≡ Some batch)
      (face : face_of after ≡ face_of group) (product : new.product ≡ batch.product)
      (limits : new.limits ≡ batch.limits) (judged : IsJudged new.limits after)
      (grouped : All (λ h. h.group < length groups) packs)
      (light : All (λ h. pos h.gross ≤ℤ MAX_GROSS) packs) (few : length packs < 4294967296)
      (own : AddsUp (faces groups) packs group.key.batch new)
      (others : (number : ℕ) (other : Batch) → (number ≡ group.key.batch → ⊥)
      → AddsUp (faces groups) held number other → AddsUp (faces groups) packs number other)
      (grosses : HasGrosses place packs after.grosses)
      (rest : (other : ℕ) (some : List Gross) → (other ≡ place → ⊥) → HasGrosses other held some
      → HasGrosses other packs some) where
    pub sound_after : Sound (set batches group.key.batch new) (set groups place after) packs
    sound_after =
        let same = sym (faces-set groups place group after at_group face) in
        sound_changed place group after batch new packs at_group at_batch (ap (λ (f : Face). f.key) face)
        (subst (λ t. pos t ≤ℤ MAX_TARE) (sym (ap (λ (f : Face). f.tare) face))
        (sound.group place group at_group).tare) product limits judged grouped light few
        (subst (λ fs. AddsUp fs packs group.key.batch new) same own)
        (λ number other differs sums. subst (λ fs. AddsUp fs packs number other) same
        (others number other differs sums)) grosses rest
