-- The sums of the packs of all batches, a pile each.
use Rattle.std.proofs.Common.{◌≡◌, ℕ, ◌+◌, ◌<◌, ◌≤◌, Bool, true, false, not, cond, List, [], ◌∷◌, length, map, get_or, refl, ap, sym, ◌∙◌, arith}
use Rattle.std.specs.Prelude.{pos, ◌≤ℤ◌}
use Rattle.std.specs.List.{sum_by, count_by, All}
use Rattle.std.proofs.lemmas.List.Sums.{sum_by-cons, sum_by-le, count_by-le-length}
use Rattle.std.proofs.lemmas.Int.{ints}
use Rattle.hall_limits.specs.declared.TheConstants.{MAX_GROSS}
use Rattle.pack_judge.specs.declared.types.Pile.{Pile}
use Rattle.pack_judge.specs.declared.types.Pile.TheVariants.{Passed, Rejected, Sampled, Voided}
use Rattle.pack_groups.specs.declared.batch.PileSums.{PileSums}
use Rattle.batch_sums.specs.declared.types.Held.{Held}
use Rattle.pack_groups.specs.Population.{is_counted}
use Rattle.batch_sums.specs.Totals.{in_pile, left_out, gross_sum}
use Rattle.pack_judge.specs.Piles.{same_pile}
use Rattle.pack_groups.specs.Groups.{Face, at_least_0}
use Rattle.pack_groups.specs.Running.{sum_in, shown_tallies, CountsOneMore, WeighsMore}
use Rattle.batch_sums.specs.Kept.{seen, IsTallied}
use Rattle.batch_sums.specs.Asked.{piles_of}
use Rattle.batch_sums.specs.Invariant.{outside}
use Rattle.batch_sums.proofs.PackSums.{length_more, gross_more}
use Rattle.batch_sums.proofs.GroupChanges.{same_self}
use Rattle.batch_sums.proofs.OnePackMore.{Joins}

-- what a pack adds to the count and to the gross of a pile
abbrev counted : Pile → Held → ℕ
counted pile h = cond (same_pile h.pile pile) 1 0

abbrev weighed : Pile → Held → ℕ
weighed pile h = cond (same_pile h.pile pile) h.gross 0

module _ (some : List Face) (pile : Pile) where
  length_lying : (held : List Held)
      → length (in_pile pile (map (seen some) held)) ≡ count_by (λ h. same_pile h.pile pile) held
  length_lying [] = refl
  length_lying (h ∷ held) =
      length_more (λ pack. same_pile pack.pile pile) (seen some h) (map (seen some) held) true _
      (length_lying held) ∙ sym (sum_by-cons (counted pile) h held)

  gross_lying : (held : List Held)
      → gross_sum (in_pile pile (map (seen some) held)) ≡ pos (sum_by (weighed pile) held)
  gross_lying [] = refl
  gross_lying (h ∷ held) =
      gross_more (λ pack. same_pile pack.pile pile) (seen some h)
      (map (seen some) held) true h.gross _ refl (gross_lying held)
      ∙ ap pos (sym (sum_by-cons (weighed pile) h held))

-- a pack that doesn't count for the population was rejected or voided
one_outside : (pile : Pile)
    → cond (not (is_counted pile)) 1 0
    ≡ cond (same_pile pile Rejected) 1 0 + cond (same_pile pile Voided) 1 0
one_outside Passed = refl
one_outside Rejected = refl
one_outside Sampled = refl
one_outside Voided = refl

outside_lying : (held : List Held)
    → outside held
    ≡ count_by (λ h. same_pile h.pile Rejected) held + count_by (λ h. same_pile h.pile Voided) held
outside_lying [] = refl
outside_lying (h ∷ held) =
    omega (
      arith,
      outside_lying held,
      one_outside h.pile,
      sum_by-cons (λ p. cond (not (is_counted p.pile)) 1 0) h held,
      sum_by-cons (counted Rejected) h held,
      sum_by-cons (counted Voided) h held,
    )

pub few_outside : (held : List Held) → outside held ≤ length held
few_outside held = count_by-le-length (λ h. not (is_counted h.pile)) held

-- as many are left out as a caller sees
pub outside_seen : (some : List Face) (held : List Held)
    → left_out (map (seen some) held) ≡ outside held
outside_seen some [] = refl
outside_seen some (h ∷ held) =
    omega (
      arith,
      outside_seen some held,
      sum_by-cons (λ p. cond (not (is_counted p.pile)) 1 0) h held,
      sum_by-cons (λ p. cond (not (is_counted p.pile)) 1 0) (seen some h) (map (seen some) held),
    )

module _ (sums : PileSums) (held : List Held) (tallied : IsTallied sums held) where
  pub left_lying : sums.counts.rejected + sums.counts.voided ≡ outside held
  left_lying = omega (
    arith,
    tallied.count Rejected,
    tallied.count Voided,
    outside_lying held,
  )

  pub told_piles : (some : List Face) → piles_of (map (seen some) held) ≡ shown_tallies sums
  told_piles some =
      cc (
        length_lying some Passed held,
        gross_lying some Passed held,
        tallied.count Passed,
        tallied.gross Passed,
        length_lying some Rejected held,
        gross_lying some Rejected held,
        tallied.count Rejected,
        tallied.gross Rejected,
        length_lying some Sampled held,
        gross_lying some Sampled held,
        tallied.count Sampled,
        tallied.gross Sampled,
        length_lying some Voided held,
        gross_lying some Voided held,
        tallied.count Voided,
        tallied.gross Voided,
      )

  pub few_lying : (pile : Pile) → (sum_in sums pile).count ≤ length held
  few_lying pile = omega (
    arith,
    tallied.count pile,
    count_by-le-length (λ h. same_pile h.pile pile) held,
  )

  pub light_lying : All (λ h. pos h.gross ≤ℤ MAX_GROSS) held → length held < 4294967296
      → (pile : Pile) → (sum_in sums pile).gross < 4611686018427387904
  light_lying light few pile =
      let most = sum_by-le (weighed pile) (at_least_0 MAX_GROSS) held
      (λ k d within. cond_le (same_pile (get_or held k d).pile pile) (get_or held k d).gross
      (omega (arith, ints, light k d within))) in
      omega (arith, tallied.gross pile, most, few)
    where
      cond_le : (b : Bool) (n : ℕ) → n ≤ at_least_0 MAX_GROSS → cond b n 0 ≤ at_least_0 MAX_GROSS
      cond_le true n less = less
      cond_le false n less = omega arith

  module _ (more : List Held) (pack : Held) (joins : Joins held pack more) (after : PileSums)
      (counts : CountsOneMore sums after pack.pile)
      (weighs : WeighsMore sums after pack.pile pack.gross) where
    pub tallied_in : IsTallied after more
    tallied_in =
        record {
          count = λ pile. omega (arith, counts pile, tallied.count pile, joins.sum (counted pile));
          gross = λ pile. omega (arith, weighs pile, tallied.gross pile, joins.sum (weighed pile));
        }

  module _ (less : List Held) (pack : Held) (joins : Joins less pack held) where
    pub some_lying : 0 < (sum_in sums pack.pile).count
    some_lying =
        let one : counted pack.pile pack ≡ 1 = ap (λ b. cond b 1 0) (same_self pack.pile) in
        omega (arith, tallied.count pack.pile, joins.sum (counted pack.pile), one)

    pub heavy_lying : pack.gross ≤ (sum_in sums pack.pile).gross
    heavy_lying =
        let own : weighed pack.pile pack ≡ pack.gross =
        ap (λ b. cond b pack.gross 0) (same_self pack.pile) in
        omega (arith, tallied.gross pack.pile, joins.sum (weighed pack.pile), own)

    pub tallied_out : (after : PileSums) → CountsOneMore after sums pack.pile
        → WeighsMore after sums pack.pile pack.gross → IsTallied after less
    tallied_out after counts weighs =
        record {
          count = λ pile. omega (arith, counts pile, tallied.count pile, joins.sum (counted pile));
          gross = λ pile. omega (arith, weighs pile, tallied.gross pile, joins.sum (weighed pile));
        }
