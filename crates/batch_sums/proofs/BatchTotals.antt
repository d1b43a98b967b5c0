-- The sums of a batch, as they are told.
use Rattle.std.proofs.Common.{◌≡◌, ℕ, ◌*◌, ◌<◌, ◌≤◌, Bool, true, false, cond, ◌&&◌, List, length, map, get_or, inl, inr, ap, sym, subst, ◌∙◌, arith}
use Rattle.std.specs.Prelude.{pos, ◌≤ℤ◌}
use Rattle.std.specs.List.{sum_by, All}
use Rattle.std.proofs.lemmas.List.Sums.{sum_by-le}
use Rattle.std.proofs.lemmas.Option.{slice_get_cases}
use Rattle.std.proofs.lemmas.Int.{ints}
use Rattle.hall_limits.specs.declared.TheConstants.{MAX_GROSS, MAX_TARE}
use Rattle.pack_judge.specs.declared.types.Pile.{Pile}
use Rattle.pack_judge.specs.declared.types.Pile.TheVariants.{Passed, Rejected, Sampled, Voided}
use Rattle.pack_groups.specs.declared.batch.Batch.{Batch}
use Rattle.pack_groups.specs.declared.group.Group.{Group}
use Rattle.batch_sums.specs.declared.types.Held.{Held}
use Rattle.pack_groups.specs.Population.{is_counted}
use Rattle.batch_sums.specs.Totals.{of_batch, pack_totals}
use Rattle.pack_judge.specs.Piles.{same_pile}
use Rattle.pack_groups.specs.Groups.{Face, at_least_0, face_of, faces, nth_face}
use Rattle.pack_groups.specs.Running.{IsBounded, shown}
use Rattle.batch_sums.specs.Kept.{AddsUp, Sound, seen, belongs, added_gross, added_tare}
use Rattle.pack_groups.proofs.Faces.{face-at}
use Rattle.batch_sums.proofs.PackSums.{length_in_pile, gross_in_pile, length_population, net_population, below_population, counted_sum}

-- the group of a pack is there, and it has the face that is seen
module _ (batches : List Batch) (groups : List Group) (held : List Held)
    (sound : Sound batches groups held) where
  pub tared : All (λ h. pos (nth_face (faces groups) h.group).tare ≤ℤ MAX_TARE) held
  tared k d within =
      let place = (get_or held k d).group in
      let there : place < length groups = sound.grouped k d within in
      at (get_or held k d).group there
    where
      at : (place : ℕ) → place < length groups → pos (nth_face (faces groups) place).tare ≤ℤ MAX_TARE
      at place there =
          elim (slice_get_cases groups place).1 [
            | inl found ↦ subst (λ (face : Face). pos face.tare ≤ℤ MAX_TARE)
                (sym (face-at groups place found.0 there ∙ ap face_of found.3))
                (sound.group place found.0 found.2).tare
            | inr past ↦ absurd (omega (arith, there, past.0))
          ]

cond_le : (b : Bool) (n m : ℕ) → n ≤ m → cond b n 0 ≤ m
cond_le true n m less = less
cond_le false n m less = omega arith

module _ (some : List Face) (number : ℕ) (batch : Batch) (held : List Held)
    (sums : AddsUp some held number batch) (light : All (λ h. pos h.gross ≤ℤ MAX_GROSS) held)
    (taxed : All (λ h. pos (nth_face some h.group).tare ≤ℤ MAX_TARE) held) where
  pub gross_bound : (pile : Pile)
      → sum_by (added_gross some number pile) held ≤ length held * at_least_0 MAX_GROSS
  gross_bound pile = sum_by-le (added_gross some number pile) (at_least_0 MAX_GROSS) held
      (λ k d within. cond_le (belongs some number (get_or held k d)
      && same_pile (get_or held k d).pile pile) (get_or held k d).gross (at_least_0 MAX_GROSS)
      (omega (arith, ints, light k d within)))

  pub tare_bound : sum_by (added_tare some number) held ≤ length held * at_least_0 MAX_TARE
  tare_bound = sum_by-le (added_tare some number) (at_least_0 MAX_TARE) held
      (λ k d within. cond_le (belongs some number (get_or held k d)
      && is_counted (get_or held k d).pile) (nth_face some (get_or held k d).group).tare
      (at_least_0 MAX_TARE) (omega (arith, ints, taxed k d within)))

  pub bounded : length held < 4294967296 → IsBounded batch
  bounded few =
      record {
        passed = omega (arith, sums.gross Passed, gross_bound Passed);
        rejected = omega (arith, sums.gross Rejected, gross_bound Rejected);
        sampled = omega (arith, sums.gross Sampled, gross_bound Sampled);
        voided = omega (arith, sums.gross Voided, gross_bound Voided);
        tares = omega (arith, sums.tares, tare_bound);
        count = omega (arith, sums.count Passed, sums.count Sampled, counted_sum some number held);
      }

  pub told : pack_totals batch.limits (of_batch number (map (seen some) held)) ≡ shown batch
  told =
      cc (
        length_in_pile some number Passed held,
        gross_in_pile some number Passed held,
        sums.count Passed,
        sums.gross Passed,
        length_in_pile some number Rejected held,
        gross_in_pile some number Rejected held,
        sums.count Rejected,
        sums.gross Rejected,
        length_in_pile some number Sampled held,
        gross_in_pile some number Sampled held,
        sums.count Sampled,
        sums.gross Sampled,
        length_in_pile some number Voided held,
        gross_in_pile some number Voided held,
        sums.count Voided,
        sums.gross Voided,
        length_population some number held,
        net_population some number held,
        sums.tares,
        below_population some number batch.limits.t1 held light taxed,
        sums.nonstandard,
        below_population some number batch.limits.t2 held light taxed,
        sums.inadequate,
      )
