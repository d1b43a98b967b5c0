-- A walk over the packs of a batch, from the newest to the first.
use Rattle.std.proofs.Common.{◌≡◌, ℕ, ◌+◌, ◌<◌, ◌≤◌, Bool, true, false, cond, eqb, List, [], ◌∷◌, ◌++◌, length, map, get_or, take, reverse, refl, ap, sym, ◌∙◌, arith, append_assoc}
use Rattle.std.proofs.lemmas.Bool.{eq-eqb}
use Rattle.std.proofs.lemmas.List.{append-nil, map-append, reverse-append, length-map, length-take-le, get_or-map, get_or-take, take-take, take-map, take_more}
use Rattle.std.proofs.lemmas.List.Elements.{filter-append}
use Rattle.batch_sums.specs.declared.types.Pack.{Pack}
use Rattle.pack_groups.specs.Population.{is_counted}
use Rattle.batch_sums.specs.Totals.{of_batch, population}
use Rattle.batch_sums.specs.Kept.{reach_of}
use Rattle.batch_sums.specs.Asked.{numbers_of}
use Rattle.batch_sums.specs.Invariant.{homes_of}
use Rattle.batch_sums.proofs.ChainLemmas.{reach-le, reach-take, reach-at, of_batch-reach}

-- the numbers of those of some packs that count for the population of a batch
abbrev pub numbers_in : ℕ → List Pack → List ℕ
numbers_in batch packs = numbers_of (population (of_batch batch packs))

-- a walk has come down to the packs that reach so far, and has the numbers behind them in the other
-- order
pub record IsWalked (batch : ℕ) (packs : List Pack) (reach : ℕ) (numbers : List ℕ) : Type 0 where
  pub within : reach ≤ length packs
  pub reached : reach_of batch (take reach (homes_of packs)) ≡ reach
  pub told : numbers_in batch (take reach packs) ++ reverse numbers ≡ numbers_in batch packs

-- what a pack adds to the numbers
abbrev pub number_if : Pack → List ℕ
number_if pack = cond (is_counted pack.pile) (pack.number ∷ []) []

numbers-append : (batch : ℕ) (xs ys : List Pack)
    → numbers_in batch (xs ++ ys) ≡ numbers_in batch xs ++ numbers_in batch ys
numbers-append batch xs ys =
    ap (λ ps. map (λ pack. pack.number) (population ps))
    (filter-append (λ pack. eqb pack.batch batch) xs ys)
    ∙ ap (map (λ (pack : Pack). pack.number))
    (filter-append (λ pack. is_counted pack.pile) (of_batch batch xs) (of_batch batch ys))
    ∙ map-append (λ (pack : Pack). pack.number) (population (of_batch batch xs))
    (population (of_batch batch ys))

numbers_one : (batch : ℕ) (pack : Pack) → pack.batch ≡ batch
    → numbers_in batch (pack ∷ []) ≡ number_if pack
numbers_one batch pack own =
    ap (λ b. map (λ (p : Pack). p.number) (population (cond b (pack ∷ []) [])))
    (eq-eqb pack.batch batch own) ∙ by (is_counted pack.pile)
  where
    by : (b : Bool) → map (λ (p : Pack). p.number) (cond b (pack ∷ []) []) ≡ cond b (pack.number ∷ []) []
    by true = refl
    by false = refl

reverse_one : (pack : Pack) → reverse (number_if pack) ≡ number_if pack
reverse_one pack = by (is_counted pack.pile)
  where
    by : (b : Bool) → reverse (cond b (pack.number ∷ []) []) ≡ cond b (pack.number ∷ []) []
    by true = refl
    by false = refl

module _ (batch : ℕ) (packs : List Pack) where
  homes_long : length (homes_of packs) ≡ length packs
  homes_long = length-map packs (λ (p : Pack). p.batch)

  pub walk_begun : (reach : ℕ) → reach ≡ reach_of batch (homes_of packs) → IsWalked batch packs reach []
  walk_begun reach is =
      record {
        within = omega (arith, is, reach-le batch (homes_of packs), homes_long);
        reached = ap (λ n. reach_of batch (take n (homes_of packs))) is
            ∙ reach-take batch (homes_of packs) ∙ sym is;
        told = append-nil (numbers_in batch (take reach packs))
            ∙ ap (λ n. numbers_in batch (take n packs)) is
            ∙ ap (λ ps. map (λ pack. pack.number) (population ps)) (of_batch-reach batch packs);
      }

  module _ (reach : ℕ) (numbers : List ℕ) (walked : IsWalked batch packs reach numbers) (place : ℕ)
      (is : reach ≡ place + 1) where
    there : place < length packs
    there = omega (arith, is, walked.within)

    pub own : get_or (homes_of packs) place 0 ≡ batch
    own =
        sym (get_or-take reach (homes_of packs) place 0 (omega (arith, is)))
        ∙ reach-at batch (take reach (homes_of packs)) place (walked.reached ∙ is)

    module _ (before : ℕ) (before_is : before ≡ reach_of batch (take place (homes_of packs))) where
      pub lower : before ≤ place
      lower = omega (
        arith,
        before_is,
        reach-le batch (take place (homes_of packs)),
        length-take-le place (homes_of packs) (omega (arith, there, homes_long)),
      )

      rest : numbers_in batch (take before packs) ≡ numbers_in batch (take place packs)
      rest =
          let reaches : before ≡ reach_of batch (homes_of (take place packs)) = before_is
          ∙ ap (reach_of batch) (take-map (λ (p : Pack). p.batch) place packs) in
          ap (numbers_in batch) (sym (take-take before place packs lower))
          ∙ ap (λ n. numbers_in batch (take n (take place packs))) reaches
          ∙ ap (λ ps. map (λ pack. pack.number) (population ps))
          (of_batch-reach batch (take place packs))

    module _ (pack : Pack) (read : get_or packs place pack ≡ pack) (before : ℕ)
        (before_is : before ≡ reach_of batch (take place (homes_of packs))) (more : List ℕ)
        (more_is : more ≡ numbers ++ number_if pack) where
      of_its : pack.batch ≡ batch
      of_its = sym (ap (λ (p : Pack). p.batch) read)
          ∙ sym (get_or-map (λ (p : Pack). p.batch) packs place pack 0 there) ∙ own

      turned : reverse more ≡ number_if pack ++ reverse numbers
      turned = ap reverse more_is ∙ reverse-append numbers (number_if pack)
          ∙ ap (λ ns. ns ++ reverse numbers) (reverse_one pack)

      longer : numbers_in batch (take reach packs) ≡ numbers_in batch (take place packs)
          ++ number_if pack
      longer =
          ap (λ n. numbers_in batch (take n packs)) is
          ∙ ap (numbers_in batch) (take_more packs place pack there)
          ∙ ap (λ p. numbers_in batch (take place packs ++ p ∷ [])) read
          ∙ numbers-append batch (take place packs) (pack ∷ [])
          ∙ ap (λ ns. numbers_in batch (take place packs) ++ ns) (numbers_one batch pack of_its)

      pub walk_on : IsWalked batch packs before more
      walk_on =
          record {
            within = omega (arith, lower before before_is, there);
            reached = ap (reach_of batch) (sym
                (take-take before place (homes_of packs) (lower before before_is)))
                ∙ ap (λ n. reach_of batch (take n (take place (homes_of packs)))) before_is
                ∙ reach-take batch (take place (homes_of packs)) ∙ sym before_is;
            told = (λ i. rest before before_is i ++ turned i)
                ∙ sym (append_assoc (numbers_in batch (take place packs)) (number_if pack)
                (reverse numbers))
                ∙ ap (λ ns. ns ++ reverse numbers) (sym longer) ∙ walked.told;
          }

  pub walk_ended : (numbers : List ℕ) → IsWalked batch packs 0 numbers
      → reverse numbers ≡ numbers_in batch packs
  walk_ended numbers walked = walked.told
