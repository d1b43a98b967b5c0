-- The numbers of packs, and the lists behind a pack that moved.
use Rattle.std.proofs.Common.{◌≡◌, ℕ, zero, suc, ◌+◌, ◌<◌, Bool, true, false, cond, not, ◌||◌, eqb, List, [], ◌∷◌, length, map, get_or, set, Option, Some, refl, ap, sym, subst, ◌∙◌, arith, length-set}
use Rattle.std.specs.List.{All, sum_by, list_any, position}
use Rattle.std.proofs.lemmas.Bool.{eqb-true}
use Rattle.std.proofs.lemmas.List.{length-map, get_or-map}
use Rattle.std.proofs.lemmas.List.Sums.{sum_by-set}
use Rattle.std.proofs.lemmas.List.Quantifiers.{position-Some}
use Rattle.pack_groups.specs.declared.batch.Batch.{Batch}
use Rattle.pack_groups.specs.declared.group.Group.{Group}
use Rattle.batch_sums.specs.declared.types.Held.{Held}
use Rattle.batch_sums.specs.declared.types.Pack.{Pack}
use Rattle.pack_judge.specs.declared.types.Pile.{Pile}
use Rattle.balanced_tree.specs.declared.tree.Tree.{Tree}
use Rattle.balanced_tree.specs.Trees.{items}
use Rattle.pack_groups.specs.Population.{is_counted}
use Rattle.pack_groups.specs.Groups.{Face, faces, nth_face}
use Rattle.pack_groups.specs.Index.{IsIndex}
use Rattle.batch_sums.specs.Kept.{Sound, IsRising, seen}
use Rattle.batch_sums.specs.Changes.{is_added, IsAbove}
use Rattle.batch_sums.specs.Invariant.{IsSettled, inside, outside, reaches_of, homes_of, numbers_held}
use Rattle.batch_sums.proofs.Homes.{homes-seen, map-set_unseen, chained_as}
use Rattle.batch_sums.proofs.PileMoves.{in_pile}

-- a number is looked for among the packs or among their numbers
pub added_is : (some : List Face) (number : ℕ) (held : List Held)
    → is_added (map (seen some) held) number
    ≡ list_any (λ other. eqb number other) (map (λ p. p.number) held)
added_is some number [] = refl
added_is some number (h ∷ held) = ap (λ b. eqb number h.number || b) (added_is some number held)

-- what a search tells of the packs that are kept
pub found_by : (packs held : List Held) (found : Option ℕ) (number : ℕ) → packs ≡ held
    → IsRising (numbers_held held)
    → (IsRising (numbers_held packs)
    → found ≡ position (λ other. eqb number other) (numbers_held packs))
    → found ≡ position (λ other. eqb number other) (numbers_held held)
found_by packs held found number same rising told =
    subst (λ (some : List Held). IsRising (numbers_held some)
    → found ≡ position (λ other. eqb number other) (numbers_held some)) same told rising

-- the numbers of packs are below those above them all
pub above_held : (some : List Face) (number : ℕ) (held : List Held)
    → IsAbove (map (seen some) held) number → All (λ other. other < number) (numbers_held held)
above_held some number held above place d within =
    let long = length-map held (λ (p : Held). p.number) in
    let seen_long = length-map held (seen some) in
    let h = first held (omega (arith, within, long)) in
    let less : (get_or (map (seen some) held) place (seen some h)).number < number =
    above place (seen some h) (omega (arith, within, long, seen_long)) in
    let shown = get_or-map (seen some) held place h (seen some h) (omega (arith, within, long)) in
    let read = get_or-map (λ (p : Held). p.number) held place h d (omega (arith, within, long)) in
    omega (arith, less, ap (λ (p : Pack). p.number) shown, read)
  where
    first : (xs : List Held) → 0 < length xs → Held
    first [] some = absurd (omega (arith, some))
    first (h ∷ xs) some = h

-- where a number is found stands its pack
pub number_at : (packs held : List Held) (place number : ℕ) (h : Held) → packs ≡ held
    → IsRising (numbers_held held)
    → (IsRising (numbers_held packs)
    → Some place ≡ position (λ other. eqb number other) (numbers_held packs))
    → h ≡ get_or held place h → (place < length held) × (h.number ≡ number)
number_at packs held place number h same rising found read =
    let at = position-Some (λ other. eqb number other) (numbers_held held) place 0
    (sym (found_by packs held (Some place) number same rising found)) in
    let within : place < length held =
    omega (arith, at.0, length-map held (λ (p : Held). p.number)) in
    let same : number ≡ get_or (numbers_held held) place 0 =
    eqb-true number (get_or (numbers_held held) place 0) at.1 in (
      within,
      ap (λ (p : Held). p.number) read
          ∙ sym (get_or-map (λ (p : Held). p.number) held place h 0 within) ∙ sym same,
    )

pub not_counts : (b : Bool) → cond (not b) 1 0 + cond b 1 0 ≡ 1
not_counts true = omega arith
not_counts false = omega arith

module _ (held : List Held) (place : ℕ) (h : Held) (to : Pile) (read : h ≡ get_or held place h)
    (within : place < length held) where
  -- a sum that doesn't look at the pile stays
  same_sum : (f : Held → ℕ) → f (in_pile h to) ≡ f h
      → sum_by f (set held place (in_pile h to)) ≡ sum_by f held
  same_sum f same = omega (arith, sum_by-set f held place (in_pile h to) h within, same, ap f read)

  pub inside_moved : inside (set held place (in_pile h to)) + cond (is_counted h.pile) 1 0
      ≡ inside held + cond (is_counted to) 1 0
  inside_moved =
      omega (
        arith,
        sum_by-set (λ p. cond (is_counted p.pile) 1 0) held place
            (in_pile h to) h within,
        ap (λ (p : Held). cond (is_counted p.pile) (suc zero) zero) read,
      )

  pub outside_moved : outside (set held place (in_pile h to)) + cond (is_counted to) 1 0
      ≡ outside held + cond (is_counted h.pile) 1 0
  outside_moved =
      omega (
        arith,
        sum_by-set (λ p. cond (not (is_counted p.pile)) 1 0) held place
            (in_pile h to) h within,
        ap (λ (p : Held). cond (not (is_counted p.pile)) (suc zero) zero)
            read,
        not_counts (is_counted h.pile),
        not_counts (is_counted to),
      )

  pub settled_moved : (batches new_batches : List Batch) (groups new_groups : List Group)
      (order : Tree ℕ) → IsSettled batches groups order held
      → reaches_of new_batches ≡ reaches_of batches
      → Sound new_batches new_groups (set held place (in_pile h to))
      → faces new_groups ≡ faces groups → length new_groups ≡ length groups
      → IsSettled new_batches new_groups order (set held place (in_pile h to))
  settled_moved batches new_batches groups new_groups order settled reaches sound face long =
      record {
        sound = sound;
        balanced = settled.balanced;
        index = subst (λ fs. IsIndex fs (items order)) (sym face) settled.index;
        used = λ group there. subst (λ n. 0 < n)
            (sym (same_sum (λ p. cond (eqb p.group group) 1 0) refl))
            (settled.used group (omega (arith, there, long)));
        small = omega (arith, settled.small, long, length-set held place (in_pile h to));
        rising = subst IsRising (sym (map-set_unseen (λ p. p.number) held place h
            (in_pile h to) read within refl)) settled.rising;
        chained = chained_as _ _ _ _ _ _ reaches
            (ap (λ fs. homes_of (map (seen fs) (set held place (in_pile h to)))) face
            ∙ homes-seen (faces groups) (set held place (in_pile h to))
            ∙ map-set_unseen (λ p. (nth_face (faces groups) p.group).key.batch) held place h
            (in_pile h to) read within refl
            ∙ sym (homes-seen (faces groups) held))
            (map-set_unseen (λ p. p.links) held place h (in_pile h to) read within refl)
            settled.chained;
      }
