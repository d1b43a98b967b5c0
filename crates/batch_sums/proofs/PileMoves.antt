-- A pack moves between two piles: it goes out of its group and batch, and comes in again.
use Rattle.std.proofs.Common.{◌≡◌, ℕ, zero, suc, ◌+◌, ◌*◌, ◌<◌, ◌≤◌, Bool, true, false, cond, not, ◌&&◌, eqb, List, [], ◌∷◌, ◌++◌, length, map, get_or, set, Option, Some, refl, ap, sym, subst, ◌∙◌, arith, length-set}
use Rattle.std.specs.Prelude.{pos, ◌≤ℤ◌}
use Rattle.std.specs.List.{count_by, All, slice_get, remove}
use Rattle.std.proofs.lemmas.Bool.{eq-eqb, ne_eqb, cases_eq}
use Rattle.std.proofs.lemmas.List.{map-set, set-set, set-get_or, get_or-map}
use Rattle.std.proofs.lemmas.List.Elements.{All-set}
use Rattle.std.proofs.lemmas.List.Edits.{length-remove}
use Rattle.std.proofs.lemmas.List.Sums.{sum_by-set, sum_by-cons}
use Rattle.std.proofs.lemmas.Option.{slice_get_read, slice_get_within, same_Some}
use Rattle.hall_limits.specs.declared.TheConstants.{MAX_GROSS}
use Rattle.pack_judge.specs.declared.types.Pile.{Pile}
use Rattle.pack_groups.specs.declared.batch.Batch.{Batch}
use Rattle.pack_groups.specs.declared.group.Group.{Group}
use Rattle.batch_sums.specs.declared.types.Held.{Held}
use Rattle.pack_groups.specs.Population.{is_counted}
use Rattle.pack_groups.specs.Rising.{mass_of, HasMoreIf}
use Rattle.pack_groups.specs.Groups.{Face, face_of, faces, nth_face, IsJudged}
use Rattle.pack_groups.specs.Running.{IsEntered, IsBounded, HasRoom, Covers, pile_sum}
use Rattle.batch_sums.specs.Kept.{AddsUp, Sound, IsGroup, seen, belongs}
use Rattle.batch_sums.specs.Changes.{moved}
use Rattle.batch_sums.proofs.OnePackMore.{Joins, joins_remove, joins_set}
use Rattle.batch_sums.proofs.SoundLemmas.{All-remove, faces-set, get-set_same, face-found}
use Rattle.batch_sums.proofs.GroupChanges.{sound_in, sound_out, own, covered, room_for, contained, few_grosses}
use Rattle.batch_sums.proofs.BatchTotals.{tared, bounded}

-- the same pack in another pile
abbrev pub in_pile : Held → Pile → Held
in_pile h pile = record h { pile = pile }

pub gross_at : (batch : Batch) (pile : Pile) → IsBounded batch
    → (pile_sum batch pile).gross < 2305843009213693952
gross_at batch pile small = by pile
  where
    by : (pile : Pile) → (pile_sum batch pile).gross < 2305843009213693952
    by Rattle.pack_judge.specs.declared.types.Pile.TheVariants.Passed = small.passed
    by Rattle.pack_judge.specs.declared.types.Pile.TheVariants.Rejected = small.rejected
    by Rattle.pack_judge.specs.declared.types.Pile.TheVariants.Sampled = small.sampled
    by Rattle.pack_judge.specs.declared.types.Pile.TheVariants.Voided = small.voided

module _ (batches : List Batch) (groups : List Group) (held : List Held)
    (sound : Sound batches groups held) (place : ℕ) (h : Held) (read : h ≡ get_or held place h)
    (within : place < length held) where
  pub in_group : h.group < length groups
  in_group = subst (λ (p : Held). p.group < length groups) (sym read) (sound.grouped place h within)

  pub light_pack : pos h.gross ≤ℤ MAX_GROSS
  light_pack = subst (λ (p : Held). pos p.gross ≤ℤ MAX_GROSS) (sym read) (sound.light place h within)

  pub joins : Joins (remove held place) h held
  joins = subst (λ (p : Held). Joins (remove held place) p held) (sym read)
      (joins_remove held place h within)

  module _ (group : Group) (read_group : group ≡ get_or groups h.group group) where
    pub at_group : slice_get groups h.group ≡ Some group
    at_group = slice_get_read groups (length groups) h.group group refl in_group read_group

    pub kept_group : IsGroup batches held h.group group
    kept_group = sound.group h.group group at_group

    pub batch_there : group.key.batch < length batches
    batch_there = slice_get_within batches group.key.batch kept_group.batch kept_group.is

    pub has_gross : is_counted h.pile ≡ true
        → 0 < count_by (λ other. eqb (mass_of other) h.gross) group.grosses
    has_gross = contained h.group held (remove held place) h group.grosses joins refl kept_group.grosses

    module _ (batch : Batch) (read_batch : batch ≡ get_or batches group.key.batch batch) where
      pub at_batch : slice_get batches group.key.batch ≡ Some batch
      at_batch = slice_get_read batches
          (length batches) group.key.batch batch refl batch_there read_batch

      sums : AddsUp (faces groups) held group.key.batch batch
      sums = sound.batch group.key.batch batch at_batch

      pub limits_same : kept_group.batch ≡ batch
      limits_same = same_Some kept_group.batch batch (sym kept_group.is ∙ at_batch)

      pub judged_before : IsJudged batch.limits group
      judged_before = subst (λ (b : Batch). IsJudged b.limits group) limits_same kept_group.judged

      tare_is : (nth_face (faces groups) h.group).tare ≡ group.tare
      tare_is = ap (λ (f : Face). f.tare) (face-found groups h.group group at_group)

      own_pack : belongs (faces groups) group.key.batch h ≡ true
      own_pack = own batches groups (remove held place) held h joins group group batch batch
          at_group at_batch refl judged_before

      pub covers : Covers batch h.pile h.gross group.tare
      covers = subst (λ t. Covers batch h.pile h.gross t) tare_is
          (covered (faces groups) group.key.batch held batch sums
          (remove held place) h joins own_pack)

      small : IsBounded batch
      small = bounded (faces groups) group.key.batch batch held sums sound.light
          (tared batches groups held sound) sound.few

      module _ (left : Batch) (leaves : IsEntered left batch h.pile h.gross group.tare)
          (less : Group) (gives : HasMoreIf (is_counted h.pile) h.gross less.grosses group.grosses)
          (face_less : face_of less ≡ face_of group) (judged_less : IsJudged left.limits less) where
        shorter : length (remove held place) + 1 ≡ length held
        shorter = length-remove held place within

        pub sound_less : Sound (set batches group.key.batch left) (set groups h.group less)
            (remove held place)
        sound_less = sound_out batches groups
            (remove held place) held h joins group less batch left at_group at_batch face_less
            judged_less leaves gives
            (All-remove (λ p. p.group < length groups) held place sound.grouped)
            (All-remove (λ p. pos p.gross ≤ℤ MAX_GROSS) held place sound.light)
            (omega (arith, shorter, sound.few)) sound

        at_less : slice_get (set groups h.group less) h.group ≡ Some less
        at_less = get-set_same groups h.group less in_group

        key_less : less.key ≡ group.key
        key_less = ap (λ (f : Face). f.key) face_less

        at_left : slice_get (set batches group.key.batch left) less.key.batch ≡ Some left
        at_left = ap (λ n. slice_get (set batches group.key.batch left) n)
            (ap (λ k. k.batch) key_less) ∙ get-set_same batches group.key.batch left batch_there

        pub room_to : (to : Pile) → HasRoom left to
        room_to to =
            room_for (faces (set groups h.group less)) less.key.batch (remove held place) left
            (sound_less.batch less.key.batch left at_left) to
            (omega (arith, shorter, sound.few))
            (omega (arith, leaves.gross to, gross_at batch to small))
            (omega (arith, leaves.tares, small.tares))

        pub few_less : length less.grosses + 1 < 4294967296
        few_less =
            let grosses = (sound_less.group h.group less at_less).grosses in
            omega (
              arith,
              few_grosses h.group (remove held place) less.grosses grosses,
              shorter,
              sound.few,
            )

        module _ (to : Pile) (new : Batch) (enters : IsEntered left new to h.gross group.tare)
            (after : Group) (takes : HasMoreIf (is_counted to) h.gross less.grosses after.grosses)
            (face_after : face_of after ≡ face_of less) (judged_after : IsJudged new.limits after) where
          comes : Joins (remove held place) (in_pile h to) (set held place (in_pile h to))
          comes = joins_set held place h (in_pile h to) within

          pub sound_moved : Sound (set batches group.key.batch new) (set groups h.group after)
              (set held place (in_pile h to))
          sound_moved =
              let grouped = All-set (λ p. p.group < length groups) held place
              (in_pile h to) in_group sound.grouped in
              let grouped_less = subst (λ n. All (λ p. p.group < n) (set held place (in_pile h to)))
              (sym (length-set groups h.group less)) grouped in
              let light = All-set (λ p. pos p.gross ≤ℤ MAX_GROSS) held place
              (in_pile h to) light_pack sound.light in
              let few : length (set held place (in_pile h to)) < 4294967296 =
              omega (arith, length-set held place (in_pile h to), sound.few) in
              let tare : group.tare ≡ less.tare = sym (ap (λ (f : Face). f.tare) face_less) in
              let whole = sound_in (set batches group.key.batch left) (set groups h.group less)
              (remove held place) (set held place (in_pile h to))
              (in_pile h to) comes less after left new at_less at_left face_after judged_after
              (subst (λ t. IsEntered left new to h.gross t) tare enters) takes grouped_less light
              few sound_less in
              let one = subst (λ n. Sound (set (set batches group.key.batch left) n new)
              (set (set groups h.group less) h.group after) (set held place (in_pile h to)))
              (ap (λ k. k.batch) key_less) whole in
              subst (λ bs. Sound bs (set groups h.group after) (set held place (in_pile h to)))
              (set-set batches group.key.batch left new)
              (subst (λ gs. Sound (set (set batches group.key.batch left) group.key.batch new) gs
              (set held place (in_pile h to))) (set-set groups h.group less after) one)

          pub faces_moved : faces (set groups h.group after) ≡ faces groups
          faces_moved = faces-set groups h.group group after at_group (face_after ∙ face_less)

-- no pack has the number: nothing moves
moved_none : (some : List Face) (number : ℕ) (pile : Pile) (held : List Held)
    → count_by (λ p. eqb p.number number) held ≡ 0
    → moved number pile (map (seen some) held) ≡ map (seen some) held
moved_none some number pile [] none = refl
moved_none some number pile (h ∷ held) none =
    elim (cases_eq h.number number) [
      | Rattle.std.proofs.Common.inl same ↦
          absurd (let one : cond (eqb h.number number) (suc zero) zero ≡ suc zero =
          ap (λ b. cond b (suc zero) zero) (eq-eqb h.number number same) in
          omega (arith, none, sum_by-cons (λ p. cond (eqb p.number number) 1 0) h held, one))
      | Rattle.std.proofs.Common.inr differs ↦
          let no : eqb h.number number ≡ false = ne_eqb h.number number differs in
          let nothing : cond (eqb h.number number) (suc zero) zero ≡ zero =
          ap (λ b. cond b (suc zero) zero) no in
          let rest = moved_none some number pile held
          (omega (
            arith,
            none,
            sum_by-cons (λ p. cond (eqb p.number number) 1 0) h held,
            nothing,
          )) in
          rw no (ap (λ ps. seen some h ∷ ps) rest)
    ]

-- a write of the one pack of a number is what moves it
pub moved_is : (some : List Face) (number : ℕ) (pile : Pile) (held : List Held) (place : ℕ)
    (h : Held) → count_by (λ p. eqb p.number number) held ≤ 1 → place < length held
    → h ≡ get_or held place h → h.number ≡ number
    → map (seen some) (set held place (in_pile h pile)) ≡ moved number pile (map (seen some) held)
moved_is some number pile [] place h once within read is = absurd (omega arith)
moved_is some number pile (g ∷ held) zero h once within read is =
    let same : eqb g.number number ≡ true =
    eq-eqb g.number number (sym (ap (λ (p : Held). p.number) read) ∙ is) in
    let one : cond (eqb g.number number) (suc zero) zero ≡ suc zero =
    ap (λ b. cond b (suc zero) zero) same in
    let none : count_by (λ p. eqb p.number number) held ≡ 0 =
    omega (arith, once, sum_by-cons (λ p. cond (eqb p.number number) 1 0) g held, one) in
    rw (read, same) (ap (λ ps. seen some (in_pile g pile) ∷ ps)
    (sym (moved_none some number pile held none)))
moved_is some number pile (g ∷ held) (suc place) h once within read is =
    let there : 0 < count_by (λ p. eqb p.number number) held =
    counted held place h (omega arith) read is in
    let no : eqb g.number number ≡ false = ne_eqb g.number number (λ same.
    let one : cond (eqb g.number number) (suc zero) zero ≡ suc zero =
    ap (λ b. cond b (suc zero) zero) (eq-eqb g.number number same) in
    omega (arith, once, there, sum_by-cons (λ p. cond (eqb p.number number) 1 0) g held, one)) in
    let nothing : cond (eqb g.number number) (suc zero) zero ≡ zero =
    ap (λ b. cond b (suc zero) zero) no in
    let fewer : count_by (λ p. eqb p.number number) held ≤ 1 =
    omega (arith, once, sum_by-cons (λ p. cond (eqb p.number number) 1 0) g held, nothing) in
    rw no (ap (λ ps. seen some g ∷ ps)
    (moved_is some number pile held place h fewer (omega arith) read is))
  where
    counted : (held : List Held) (place : ℕ) (h : Held) → place < length held
        → h ≡ get_or held place h → h.number ≡ number → 0 < count_by (λ p. eqb p.number number) held
    counted held place h within read is =
        let one : cond (eqb (get_or held place h).number number) (suc zero) zero ≡ suc zero =
        ap (λ b. cond b (suc zero) zero)
        (eq-eqb _ number (sym (ap (λ (p : Held). p.number) read) ∙ is)) in
        omega (
          arith,
          Rattle.std.proofs.lemmas.List.Sums.get_or-le-sum_by
              (λ p. cond (eqb p.number number) 1 0) held place h within,
          one,
        )
