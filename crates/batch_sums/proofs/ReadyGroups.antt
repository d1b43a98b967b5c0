-- The group of a new pack is ready: it was there with this tare, or it was opened.
use Rattle.std.proofs.Common.{◌≡◌, ℕ, zero, suc, ◌+◌, ◌<◌, ◌≤◌, Bool, cond, eqb, ◌⊎◌, inl, inr, List, [], ◌∷◌, ◌++◌, length, map, get_or, set, Some, refl, ap, sym, subst, ◌∙◌, arith, length-append, length-set}
use Rattle.std.specs.Prelude.{pos, ◌≤ℤ◌}
use Rattle.std.specs.List.{count_by, All, slice_get}
use Rattle.std.proofs.lemmas.Bool.{cases_lt, cases_eq, eq-eqb, ne_eqb}
use Rattle.std.proofs.lemmas.List.{length-map, map-append, map-set, get_or-map}
use Rattle.std.proofs.lemmas.List.Sums.{sum_by-cons, sum_by_push}
use Rattle.std.proofs.lemmas.Option.{slice_get_within, slice_get_read, same_Some}
use Rattle.std.proofs.lemmas.List.Elements.{All-push}
use Rattle.hall_limits.specs.declared.TheConstants.{MAX_GROSS, MAX_TARE}
use Rattle.balanced_tree.specs.Trees.{items, IsBalanced}
use Rattle.balanced_tree.specs.declared.tree.Tree.{Tree}
use Rattle.pack_groups.specs.declared.batch.Batch.{Batch}
use Rattle.pack_groups.specs.declared.group.Group.{Group}
use Rattle.pack_groups.specs.declared.group.Key.{Key}
use Rattle.batch_sums.specs.declared.types.Held.{Held}
use Rattle.pack_groups.specs.Population.{is_counted}
use Rattle.batch_sums.specs.declared.types.Pack.{Pack}
use Rattle.pack_groups.specs.Rising.{HasMoreIf}
use Rattle.pack_groups.specs.Running.{IsEntered, HasRoom}
use Rattle.batch_sums.specs.Invariant.{IsSettled, reaches_of, homes_of, links_of, numbers_held}
use Rattle.pack_groups.specs.Groups.{Face, face_of, faces, nth_face, IsJudged}
use Rattle.pack_groups.specs.Index.{IsIndex, IsOpened, HasKey}
use Rattle.batch_sums.specs.Kept.{Sound, IsGroup, IsChained, IsLinked, IsRising, seen}
use Rattle.pack_judge.specs.declared.types.Pile.{Pile}
use Rattle.batch_sums.proofs.ChainLemmas.{chained_put}
use Rattle.batch_sums.proofs.NumberPlaces.{rising_push}
use Rattle.batch_sums.proofs.Homes.{chained_as}
use Rattle.batch_sums.proofs.SoundLemmas.{face-found, faces-set}
use Rattle.batch_sums.proofs.OnePackMore.{joins_push}
use Rattle.batch_sums.proofs.GroupChanges.{sound_in, few_grosses}
use Rattle.batch_sums.proofs.NewPacks.{sound_opened, seen_more, faces-push, get-append_new}

pub record IsReady (batches : List Batch) (groups : List Group) (held : List Held)
    (after : List Group) (place : ℕ) (key : Key) (tare : ℕ) : Type 0 where
  pub sound : Sound batches after held
  pub group : Group
  pub at : slice_get after place ≡ Some group
  pub face : face_of group ≡ record { key = key; tare = tare }
  pub same : map (seen (faces after)) held ≡ map (seen (faces groups)) held
  pub used : (other : ℕ) → other < length after → (0 < count_by (λ pack. eqb pack.group other) held)
      ⊎ (place ≡ other)
  pub long : length after ≤ length groups + 1

-- one of those that are counted
pub exists_by : (group : ℕ) (held : List Held) → 0 < count_by (λ pack. eqb pack.group group) held
    → (k : ℕ) × (k < length held) × ((d : Held) → (get_or held k d).group ≡ group)
exists_by group [] some = absurd (omega arith)
exists_by group (h ∷ held) some =
    elim (cases_eq h.group group) [
      | inl same ↦ (0, omega arith, λ d. same)
      | inr differs ↦
          let no : cond (eqb h.group group) (suc zero) zero ≡ zero =
          ap (λ b. cond b (suc zero) zero) (ne_eqb h.group group differs) in
          let rest = exists_by group held
          (omega (arith, some, sum_by-cons (λ p. cond (eqb p.group group) 1 0) h held, no)) in
          (suc rest.0, omega (arith, rest.1), λ d. rest.2 d)
    ]

-- what holds of each pack that is seen
unmap : (P : Pack → Type 0) (some : List Face) (held : List Held) → All P (map (seen some) held)
    → All (λ h. P (seen some h)) held
unmap P some held all k d within =
    subst P (get_or-map (seen some) held k d (seen some d) within)
    (all k (seen some d) (omega (arith, within, length-map held (seen some))))

module _ (batches : List Batch) (groups : List Group) (held : List Held)
    (sound : Sound batches groups held)
    (used : (place : ℕ) → place < length groups → 0 < count_by (λ pack. eqb pack.group place) held)
    (key : Key) (tare : ℕ) (batch : Batch) (home : slice_get batches key.batch ≡ Some batch)
    (product : batch.product ≡ key.product) (light : pos tare ≤ℤ MAX_TARE)
    (same_tare : All (λ pack. pack.batch ≡ key.batch → pack.day ≡ pos key.day
    → pack.tare ≡ pos tare) (map (seen (faces groups)) held)) where
  -- a group that was there has this tare, by one of its packs
  tare_of : (place : ℕ) (group : Group) → slice_get groups place ≡ Some group → group.key ≡ key
      → group.tare ≡ tare
  tare_of place group at own =
      let found = exists_by place held (used place (slice_get_within groups place group at)) in
      let h : Held = get_or held found.0
      (record {
        number = 0;
        group = 0;
        links = record { before = 0; skip = 0; rank = 0 };
        gross = 0;
        pile =
            Rattle.pack_judge.specs.declared.types.Pile.TheVariants.Passed;
      }) in
      let face : nth_face (faces groups) h.group ≡ face_of group =
      ap (nth_face (faces groups)) (found.2 _) ∙ face-found groups place group at in
      let told = unmap (λ pack. pack.batch ≡ key.batch → pack.day ≡ pos key.day
      → pack.tare ≡ pos tare) (faces groups) held same_tare found.0
      (record {
        number = 0;
        group = 0;
        links = record { before = 0; skip = 0; rank = 0 };
        gross = 0;
        pile =
            Rattle.pack_judge.specs.declared.types.Pile.TheVariants.Passed;
      }) found.1
      (ap (λ (f : Face). f.key.batch) face ∙ ap (λ k. k.batch) own)
      (ap (λ (f : Face). pos f.key.day) face ∙ ap (λ k. pos k.day) own) in
      let both : pos group.tare ≡ pos tare = sym (ap (λ (f : Face). pos f.tare) face) ∙ told in
      cc

  pub ready : (after : List Group) (place : ℕ) → ((after ≡ groups) × HasKey groups place key)
      ⊎ IsOpened groups after place key tare → IsReady batches groups held after place key tare
  ready after place (inl found) =
      let group = found.1.0 in
      let at = found.1.1 in
      let tares = tare_of place group at found.1.2 in
      record {
        sound = subst (λ gs. Sound batches gs held) (sym found.0) sound;
        group = group;
        at = ap (λ gs. slice_get gs place) found.0 ∙ at;
        face = λ i. record { key = found.1.2 i; tare = tares i };
        same = ap (λ gs. map (seen (faces gs)) held) found.0;
        used = λ other within. inl (used other (omega (arith, within, ap length found.0)));
        long = omega (arith, ap length found.0);
      }
  ready after place (inr opened) =
      let group = opened.group in
      let key_is : group.key ≡ key = ap (λ (f : Face). f.key) opened.face in
      let tare_is : group.tare ≡ tare = ap (λ (f : Face). f.tare) opened.face in
      let there = subst (λ n. All (λ h. h.group < n) held)
      (sym (length-map groups face_of)) sound.grouped in
      let more : length after ≡ length groups + 1 =
      omega (arith, ap length opened.is, length-append groups (group ∷ [])) in
      record {
        sound = subst (λ gs. Sound batches gs held) (sym opened.is)
            (sound_opened batches groups held sound group batch
            (ap (λ k. slice_get batches k.batch) key_is ∙ home)
            (product ∙ sym (ap (λ k. k.product) key_is))
            (subst (λ t. pos t ≤ℤ MAX_TARE) (sym tare_is) light) opened.grosses
            opened.nonstandard opened.inadequate);
        group = group;
        at = ap (λ gs. slice_get gs place) opened.is
            ∙ ap (slice_get (groups ++ group ∷ [])) opened.place_is ∙ get-append_new groups group;
        face = opened.face;
        same = ap (λ gs. map (seen (faces gs)) held) opened.is
            ∙ ap (λ fs. map (seen fs) held) (faces-push groups group)
            ∙ seen_more (faces groups) (face_of group) held there;
        used = λ other within.
            elim (cases_lt other (length groups)) [
              | inl less ↦ inl (used other less)
              | inr not_less ↦ inr (omega (arith, opened.place_is, within, more, not_less))
            ];
        long = omega (arith, more);
      }

module _ (batches : List Batch) (groups : List Group) (held : List Held) (after : List Group)
    (place : ℕ) (key : Key) (tare : ℕ) (ready : IsReady batches groups held after place key tare)
    (group : Group) (read : group ≡ get_or after place group) (batch : Batch)
    (home : slice_get batches key.batch ≡ Some batch) where
  pub at_here : slice_get after place ≡ Some group
  at_here = slice_get_read after (length after) place group refl
      (slice_get_within after place ready.group ready.at) read

  pub face_here : face_of group ≡ record { key = key; tare = tare }
  face_here = ap face_of (sym (same_Some ready.group group (sym ready.at ∙ at_here))) ∙ ready.face

  pub at_home : slice_get batches group.key.batch ≡ Some batch
  at_home = ap (λ (f : Face). slice_get batches f.key.batch) face_here ∙ home

  pub kept_here : IsGroup batches held place group
  kept_here = ready.sound.group place group at_here

  pub judged_here : IsJudged batch.limits group
  judged_here = subst (λ (b : Batch). IsJudged b.limits group)
      (same_Some kept_here.batch batch (sym kept_here.is ∙ at_home)) kept_here.judged

  pub few_here : length held + 1 < 4294967296 → length group.grosses + 1 < 4294967296
  few_here few = omega (arith, few, few_grosses place held group.grosses kept_here.grosses)

  module _ (h : Held) (own : h.group ≡ place) (light : pos h.gross ≤ℤ MAX_GROSS)
      (few : length held + 1 < 4294967296) (new : Batch)
      (enters : IsEntered batch new h.pile h.gross tare) (next : Group)
      (takes : HasMoreIf (is_counted h.pile) h.gross group.grosses next.grosses)
      (face_next : face_of next ≡ face_of group) (judged_next : IsJudged new.limits next) where
    pub sound_put : Sound (set batches key.batch new) (set after place next) (held ++ h ∷ [])
    sound_put =
        let at = ap (slice_get after) own ∙ at_here in
        let within : h.group < length after = slice_get_within after h.group group at in
        let grouped = All-push (λ p. p.group < length after) held h ready.sound.grouped within in
        let lighter = All-push (λ p. pos p.gross ≤ℤ MAX_GROSS) held h ready.sound.light light in
        let longer : length (held ++ h ∷ []) < 4294967296 =
        omega (arith, length-append held (h ∷ []), few) in
        let there = subst (λ t. IsEntered batch new h.pile h.gross t)
        (sym (ap (λ (f : Face). f.tare) face_here)) enters in
        let whole = sound_in batches after held (held ++ h ∷ []) h
        (joins_push held h) group next batch new at at_home face_next judged_next there takes
        grouped lighter longer ready.sound in
        subst (λ n. Sound (set batches n new) (set after place next) (held ++ h ∷ []))
        (ap (λ (f : Face). f.key.batch) face_here)
        (subst (λ n. Sound (set batches group.key.batch new) (set after n next) (held ++ h ∷ []))
        own whole)

    pub faces_put : faces (set after place next) ≡ faces after
    faces_put = faces-set after place group next at_here face_next

    pub settled_put : (order : Tree ℕ) → IsBalanced order
        → IsIndex (faces after) (items order) → length groups ≤ length held
        → IsRising (numbers_held held) → All (λ number. number < h.number) (numbers_held held)
        → IsChained (reaches_of (set batches key.batch new))
        (homes_of (map (seen (faces (set after place next))) (held ++ h ∷ [])))
        (links_of (held ++ h ∷ [])) → IsSettled (set batches key.batch new)
        (set after place next) order (held ++ h ∷ [])
    settled_put order balanced index small rising below chained =
        let counted : (test : Held → Bool)
        → count_by test (held ++ h ∷ []) ≡ count_by test held + cond (test h) 1 0 =
        λ test. sum_by_push (λ p. cond (test p) 1 0) held h in
        record {
          sound = sound_put;
          balanced = balanced;
          index = subst (λ fs. IsIndex fs (items order)) (sym faces_put) index;
          used = λ other within.
              elim (ready.used other (omega (arith, within, length-set after place next))) [
                | inl some ↦ omega (arith, some, counted (λ p. eqb p.group other))
                | inr same ↦
                    let one : cond (eqb h.group other) (suc zero) zero ≡ suc zero =
                    ap (λ b. cond b (suc zero) zero) (eq-eqb h.group other (own ∙ same)) in
                    omega (arith, one, counted (λ p. eqb p.group other))
              ];
          small = omega (
            arith,
            small,
            ready.long,
            length-set after place next,
            length-append held (h ∷ []),
          );
          rising = subst IsRising (sym (map-append (λ (p : Held). p.number) held (h ∷ [])))
              (rising_push (numbers_held held) h.number rising below);
          chained = chained;
        }

    pub packs_put : map (seen (faces (set after place next))) (held ++ h ∷ [])
        ≡ map (seen (faces groups)) held
        ++ record {
          number = h.number;
          batch = key.batch;
          day = pos key.day;
          gross = pos h.gross;
          tare = pos tare;
          pile = h.pile;
        } ∷ []
    packs_put =
        let face : nth_face (faces after) h.group ≡ record { key = key; tare = tare } =
        ap (nth_face (faces after)) own ∙ face-found after place group at_here ∙ face_here in
        ap (λ fs. map (seen fs) (held ++ h ∷ [])) faces_put
        ∙ map-append (seen (faces after)) held (h ∷ [])
        ∙ (λ i. ready.same i ++ record {
          number = h.number;
          batch = (face i).key.batch;
          day = pos (face i).key.day;
          gross =
              pos h.gross;
          tare = pos (face i).tare;
          pile = h.pile;
        } ∷ [])

    pub chained_with : new.reach ≡ length held + 1
        → IsLinked key.batch (homes_of (map (seen (faces groups)) held)) h.links
        → IsChained (reaches_of batches) (homes_of (map (seen (faces groups)) held))
        (links_of held)
        → IsChained (reaches_of (set batches key.batch new))
        (homes_of (map (seen (faces (set after place next))) (held ++ h ∷ [])))
        (links_of (held ++ h ∷ []))
    chained_with reach linked chained =
        let packs = map (seen (faces groups)) held in
        let there : key.batch < length (reaches_of batches) =
        omega (
          arith,
          slice_get_within batches key.batch batch home,
          length-map batches (λ (b : Batch). b.reach),
        ) in
        let long : length (links_of held) ≡ length (homes_of packs) =
        omega (
          arith,
          length-map held (λ (p : Held). p.links),
          length-map packs (λ (p : Pack). p.batch),
          length-map held (seen (faces groups)),
        ) in
        let count : length (homes_of packs) + 1 ≡ new.reach =
        omega (
          arith,
          reach,
          length-map packs (λ (p : Pack). p.batch),
          length-map held (seen (faces groups)),
        ) in
        chained_as _ _ _ _ _ _ (map-set (λ (b : Batch). b.reach) batches key.batch new
        ∙ ap (λ n. set (reaches_of batches) key.batch n) (sym count))
        (ap homes_of packs_put ∙ map-append (λ (p : Pack). p.batch) packs _)
        (map-append (λ (p : Held). p.links) held (h ∷ []))
        (chained_put (reaches_of batches) (homes_of packs) (links_of held) chained key.batch there
        long h.links linked)

-- a batch that a pack comes into, whatever it knew of how far its packs reach
pub entered_from : (before : Batch) (reach : ℕ) (after : Batch) (pile : Pile) (mass tare : ℕ)
    → IsEntered (record before { reach = reach }) after pile mass tare
    → IsEntered before after pile mass tare
entered_from before reach after pile mass tare entered =
    record {
      count = entered.count;
      gross = entered.gross;
      tares = entered.tares;
      nonstandard = entered.nonstandard;
      inadequate = entered.inadequate;
      product = entered.product;
      limits = entered.limits;
    }

pub room_from : (before : Batch) (reach : ℕ) (pile : Pile) → HasRoom before pile
    → HasRoom (record before { reach = reach }) pile
room_from before reach pile room =
    record {
      count = room.count;
      gross = room.gross;
      tares = room.tares;
      nonstandard =
          room.nonstandard;
      inadequate = room.inadequate;
    }
