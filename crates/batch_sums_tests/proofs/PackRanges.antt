-- The packs of a hall keep fitting.
use Rattle.std.proofs.Common.{◌≡◌, ◌≢◌, ℕ, ℤ, pos, ◌+◌, ◌<◌, ◌+ℤ◌, ◌<ℤ◌, ◌⊎◌, inl, inr, Bool, true, false, ◌||◌, cond, eqb, List, [], ◌∷◌, ◌++◌, map, refl, ap, ◌∙◌, arith}
use Rattle.std.specs.List.{list_any, All}
use Rattle.std.proofs.lemmas.Bool.{or_right}
use Rattle.std.proofs.lemmas.Bool.Decides.{eqb_tells}
use Rattle.std.proofs.lemmas.Int.{ints}
use Rattle.std.proofs.lemmas.List.Elements.{All-push, All-weaker, All-map}
use Rattle.hall_limits.specs.declared.TheConstants.{MAX_DAY, MAX_TARE}
use Rattle.pack_judge.specs.declared.types.Pile.{Pile}
use Rattle.pack_judge.specs.declared.tares.Span.{Span}
use Rattle.batch_sums.specs.Totals.{Terms}
use Rattle.batch_sums.specs.declared.types.Pack.{Pack}
use Rattle.batch_sums.specs.Changes.{IsAbove, is_added, moved, is_concerned, corrected, IsUpTo}
use Rattle.batch_sums_tests.specs.Halls.{Fits, IsKept}

any-append : (test : Pack → Bool) (xs : List Pack) (y : Pack) → list_any test (xs ++ y ∷ []) ≡ (list_any test xs || (test y || false))
any-append test [] y = refl
any-append test (x ∷ xs) y = ap (λ b. test x || b) (any-append test xs y) ∙ by (test x)
  where
    by : (b : Bool) → (b || (list_any test xs || (test y || false))) ≡ ((b || list_any test xs) || (test y || false))
    by true = refl
    by false = refl

-- the next number is above those of all packs
pub next_is_above : (next : ℕ) (today tare : ℤ) (packs : List Pack) → All (Fits next today tare) packs → IsAbove packs next
next_is_above next today tare packs fits = All-weaker (Fits next today tare) (λ p. p.number < next) (λ p fit. fit.number) packs fits

pub kept_added : (next : ℕ) (today tare : ℤ) (packs : List Pack) (pack : Pack) → pack.number ≡ next → pack.day ≡ today → pack.tare ≡ tare
    → IsKept next today tare packs → IsKept (next + 1) today tare (packs ++ pack ∷ [])
kept_added next today tare packs pack number day tare_is kept =
    record {
      fits = All-push (Fits (next + 1) today tare) packs pack
          (All-weaker (Fits next today tare) (Fits (next + 1) today tare) (λ p fit. record { number = omega (arith, fit.number); day = fit.day; tared = fit.tared }) packs kept.fits)
          (record { number = omega (arith, number); day = omega (arith, ints, day); tared = λ same. tare_is });
      added = λ other below. any-append (λ p. eqb other p.number) packs pack ∙ by other below (eqb_tells other pack.number);
      day = kept.day;
      light = kept.light;
    }
  where
    by : (other : ℕ) → other < next + 1 → ((eqb other pack.number ≡ true) × (other ≡ pack.number)) ⊎ ((eqb other pack.number ≡ false) × (other ≢ pack.number)) → (is_added packs other || (eqb other pack.number || false)) ≡ true
    by other below (inl same) = or_right (is_added packs other) (eqb other pack.number || false) (ap (λ b. b || false) same.0)
    by other below (inr different) = ap (λ b. b || (eqb other pack.number || false)) (kept.added other (omega (arith, below, number, different.1)))

module _ (next : ℕ) (today tare : ℤ) (change : Pack → Pack) (number : (p : Pack) → (change p).number ≡ p.number) where
  added_same : (packs : List Pack) (other : ℕ) → is_added (map change packs) other ≡ is_added packs other
  added_same [] other = refl
  added_same (p ∷ packs) other = λ i. eqb other (number p i) || added_same packs other i

  -- packs that change keep their numbers, and fit where each of them does
  pub kept_changed : (later new_tare : ℤ) → IsUpTo MAX_DAY later → IsUpTo MAX_TARE new_tare → ((p : Pack) → Fits next today tare p → Fits next later new_tare (change p)) → (packs : List Pack) → IsKept next today tare packs → IsKept next later new_tare (map change packs)
  kept_changed later new_tare day tare_is fit packs kept =
      record {
        fits = All-map (Fits next later new_tare) change packs (All-weaker (Fits next today tare) (λ p. Fits next later new_tare (change p)) fit packs kept.fits);
        added = λ other below. added_same packs other ∙ kept.added other below;
        day = day;
        light = tare_is;
      }

pub kept_moved : (next number : ℕ) (pile : Pile) (today tare : ℤ) (packs : List Pack) → IsKept next today tare packs → IsKept next today tare (moved number pile packs)
kept_moved next number pile today tare packs kept =
    kept_changed next today tare (λ (p : Pack). cond (eqb p.number number) (record p { pile = pile }) p) (λ p. elim (eqb p.number number) as (λ b. (cond b (record p { pile = pile }) p).number ≡ p.number) [ true ↦ refl | false ↦ refl ])
    today tare kept.day kept.light (λ p fit. by p fit (eqb p.number number)) packs kept
  where
    by : (p : Pack) → Fits next today tare p → (b : Bool) → Fits next today tare (cond b (record p { pile = pile }) p)
    by p fit true = record { number = fit.number; day = fit.day; tared = fit.tared }
    by p fit false = fit

pub kept_corrected : (next product : ℕ) (batches : List Terms) (span : Span) (today tare new later : ℤ) (packs : List Pack) → today <ℤ MAX_DAY → IsUpTo MAX_TARE later
    → IsKept next today tare packs → IsKept next (today +ℤ pos 1) later (corrected batches product span new packs)
kept_corrected next product batches span today tare new later packs before light kept =
    kept_changed next today tare (λ (p : Pack). cond (is_concerned batches product span p) (record p { tare = new }) p) (λ p. elim (is_concerned batches product span p) as (λ b. (cond b (record p { tare = new }) p).number ≡ p.number) [ true ↦ refl | false ↦ refl ])
    (today +ℤ pos 1) later (omega (arith, ints, kept.day.0, before), omega (arith, ints, before)) light (λ p fit. by p fit (is_concerned batches product span p)) packs kept
  where
    by : (p : Pack) → Fits next today tare p → (b : Bool) → Fits next (today +ℤ pos 1) later (cond b (record p { tare = new }) p)
    by p fit true = record { number = fit.number; day = omega (arith, ints, fit.day); tared = λ same. absurd (omega (arith, ints, fit.day, same)) }
    by p fit false = record { number = fit.number; day = omega (arith, ints, fit.day); tared = λ same. absurd (omega (arith, ints, fit.day, same)) }
