-- Packs of one batch and day are one group, with no more steps than for one.
use Rattle.std.proofs.Common.{◌≡◌, ℕ, ℤ, pos, ◌+◌, ◌≤◌, ◌≤ℤ◌, true, ◌&&◌, ◌||◌, cond, eqb, List, [], ◌∷◌, ◌++◌, length, refl, ap, sym, ◌∙◌, subst, arith, length-append}
use Rattle.std.specs.List.{list_any, All}
use Rattle.std.specs.Ordering.{int_eq}
use Rattle.std.proofs.lemmas.Bool.{eq-eqb}
use Rattle.std.proofs.lemmas.Int.{ints}
use Rattle.std.proofs.lemmas.List.Elements.{All-nil, All-head, All-tail, All-push}
use Rattle.std.proofs.lemmas.List.Sums.{count_by-le-length}
use Rattle.annex_tables.specs.declared.TheConstants.{MAX_POPULATION}
use Rattle.hall_limits.specs.declared.TheConstants.{MAX_DAY, MAX_TARE}
use Rattle.pack_groups.specs.Population.{is_counted}
use Rattle.batch_sums.specs.Totals.{Terms, Sums}
use Rattle.batch_sums.specs.declared.types.Pack.{Pack}
use Rattle.batch_sums.specs.Changes.{same_group, group_count, HasFewPerGroup}
use Rattle.batch_sums_tests.specs.Halls.{Fits, IsKept}
use Rattle.batch_sums_tests.specs.Rows.{IsOneGroup, IsFilled}
use Rattle.batch_sums_tests.proofs.PackRanges.{kept_added}

pub filled_none : (sums : Sums) (batch : ℕ) (day tare : ℤ) → sums.packs ≡ [] → pos 0 ≤ℤ day → day ≤ℤ MAX_DAY → pos 0 ≤ℤ tare → tare ≤ℤ MAX_TARE → IsFilled sums.batches batch 0 day tare sums
filled_none sums batch day tare empty least most light heavy =
    record {
      same = refl;
      kept = record {
        fits = subst (λ ps. All (Fits 0 day tare) ps) (sym empty) (All-nil (Fits 0 day tare));
        added = λ number below. absurd (omega (arith, below));
        day = (least, most);
        light = (light, heavy);
      };
      one = subst (λ ps. IsOneGroup batch day ps) (sym empty) (All-nil (λ p. (p.batch ≡ batch) × (p.day ≡ day)));
      long = ap length empty;
    }

pub filled_more : (batches : List Terms) (batch count : ℕ) (day tare : ℤ) (sums next : Sums) (pack : Pack) → pack.number ≡ count → pack.batch ≡ batch → pack.day ≡ day → pack.tare ≡ tare
    → IsFilled batches batch count day tare sums → next.packs ≡ sums.packs ++ pack ∷ [] → next.batches ≡ sums.batches → IsFilled batches batch (count + 1) day tare next
filled_more batches batch count day tare sums next pack number of_batch of_day tare_is filled packs same =
    record {
      same = same ∙ filled.same;
      kept = subst (λ ps. IsKept (count + 1) day tare ps) (sym packs) (kept_added count day tare sums.packs pack number of_day tare_is filled.kept);
      one = subst (λ ps. IsOneGroup batch day ps) (sym packs) (All-push (λ p. (p.batch ≡ batch) × (p.day ≡ day)) sums.packs pack filled.one (of_batch, of_day));
      long = omega (arith, ap length packs, length-append sums.packs (pack ∷ []), filled.long);
    }

same_int : (a b : ℤ) → a ≡ b → int_eq a b ≡ true
same_int a b same = grind (arith, ints)

pub one_group : (batch : ℕ) (day : ℤ) (packs : List Pack) → IsOneGroup batch day packs → group_count packs ≤ 1
one_group batch day [] one = omega arith
one_group batch day (p ∷ []) one = omega arith
one_group batch day (p ∷ q ∷ packs) one =
    let first = All-head (λ x. (x.batch ≡ batch) × (x.day ≡ day)) p (q ∷ packs) one in
    let rest = All-tail (λ x. (x.batch ≡ batch) × (x.day ≡ day)) p (q ∷ packs) one in
    let second = All-head (λ x. (x.batch ≡ batch) × (x.day ≡ day)) q packs rest in
    let same : same_group p q ≡ true = (λ i. eq-eqb p.batch q.batch (first.0 ∙ sym second.0) i && same_int p.day q.day (first.1 ∙ sym second.1) i) in
    subst (λ b. cond b (group_count (q ∷ packs)) (group_count (q ∷ packs) + 1) ≤ 1) (sym (ap (λ b. b || list_any (same_group p) packs) same)) (one_group batch day (q ∷ packs) rest)

pub few_packs : (packs : List Pack) → length packs ≤ MAX_POPULATION → HasFewPerGroup packs
few_packs packs few batch day =
    let most = count_by-le-length (λ (p : Pack). (eqb p.batch batch && int_eq p.day day) && is_counted p.pile) packs in
    omega (arith, most, few)
