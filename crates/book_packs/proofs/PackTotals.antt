-- What the packs tell is what the readings tell.
use Rattle.std.proofs.Common.{◌≡◌, ℕ, ℤ, suc, ◌==◌, Bool, true, false, List, [], ◌∷◌, length, map, Some, option_map, refl, sym, ◌∙◌, ap}
use Rattle.std.specs.Prelude.{int_lt, nat_lt, ◌+ℤ◌, take, filter, find, count_by}
use Rattle.std.specs.List.{AllByRecursion, slice_get}
use Rattle.std.specs.Option.{option_and_then, option_map_or, unwrap_or}
use Rattle.std.proofs.lemmas.Option.{slice_get-map}
use Rattle.pack_judge.specs.declared.types.Pile.{Pile}
use Rattle.pack_judge.specs.declared.types.Pile.TheVariants.{Passed, Rejected, Sampled, Voided}
use Rattle.batch_sums.specs.declared.types.Pack.{Pack}
use Rattle.pack_groups.specs.Population as groups
use Rattle.batch_sums.specs.Totals as sums
use Rattle.batch_sums.specs.Asked as asked
use Rattle.batch_sums.specs.Totals.{Sums, kept_totals}
use Rattle.book_words.specs.declared.name.Name.{Name}
use Rattle.book_words.specs.declared.act.Entry.{Entry}
use Rattle.book_words.specs.declared.act.Reading.{Reading}
use Rattle.book_words.specs.Names.{same_name}
use Rattle.book_words.specs.Acts.{said, batch_opened}
use Rattle.book_words.specs.Order.{batch_number}
use Rattle.book_words.specs.Readings.{readings, is_of_batch}
use Rattle.book_words.specs.Classes.{density_of_batch, limits_of_batch}
use Rattle.book_words.specs.Population.{is_counted, unsampled_pile, readings_of_batch, population, count_below, net_sum}
use Rattle.pack_judge.specs.Piles.{same_pile}
use Rattle.book_words.specs.Readings.{net_of_reading}
use Rattle.book_words.specs.Samples.{numbers_of, is_sampled}
use Rattle.book_words.specs.Piles.{pile_of, pile_with_sample, in_pile, gross_sum, tally}
use Rattle.book_packs.specs.Densities.{limit_at}
use Rattle.book_packs.specs.Stand.{terms_of_batch, opened_terms, pack_of, packs_in}
use Rattle.book_packs.specs.Told.{pack_told, totals_told, piles_told}
use Rattle.book_packs.proofs.Lists.{filter-map, find-map, filter-filter, filter-within, map-map, all_then, count-map}
use Rattle.book_words.proofs.PlaceLemmas.{place_of-name, same_place}
use Rattle.book_packs.proofs.Known.{IsWeighed}
use Rattle.book_packs.proofs.Below.{below_is}
use Rattle.book_words.proofs.PileLemmas.{unsampled}

-- a sample takes no pack out of the population
pub counted_is : (pile : Pile) (is_in : Bool) → same_pile pile Sampled ≡ false
    → groups.is_counted (pile_with_sample pile is_in) ≡ same_pile pile Passed
counted_is Passed true h = refl
counted_is Passed false h = refl
counted_is Rejected is_in h = refl
counted_is Sampled is_in h = absurd (cc)
counted_is Voided is_in h = refl

pub counted_among : (entries : List Entry) (reading : Reading)
    → groups.is_counted (pile_of entries reading) ≡ is_counted reading
counted_among entries reading =
    counted_is (unsampled_pile reading) (is_sampled entries reading)
    (unsampled reading.voided reading.signal reading.next_prior)

module _ (entries : List Entry) where
  gross_is : (some : List Reading) → sums.gross_sum (map (pack_of entries) some) ≡ gross_sum some
  gross_is [] = refl
  gross_is (reading ∷ some) = ap (λ sum. reading.gross +ℤ sum) (gross_is some)

  net_is : (some : List Reading) → sums.net_sum (map (pack_of entries) some) ≡ net_sum entries some
  net_is [] = refl
  net_is (reading ∷ some) = ap (λ sum. net_of_reading entries reading +ℤ sum) (net_is some)

  length_is : (some : List Reading) → length (map (pack_of entries) some) ≡ length some
  length_is [] = refl
  length_is (reading ∷ some) = ap suc (length_is some)

  in_pile_is : (pile : Pile) (some : List Reading)
      → sums.in_pile pile (map (pack_of entries) some)
      ≡ map (pack_of entries) (in_pile entries pile some)
  in_pile_is pile some =
      filter-map (λ (pack : Pack). same_pile pack.pile pile) (pack_of entries) some

  tally_is : (some : List Reading) → sums.tally (map (pack_of entries) some) ≡ tally some
  tally_is some i = record { count = length_is some i; gross = gross_is some i }

  pub tally_in_pile : (pile : Pile) (some : List Reading)
      → sums.tally (sums.in_pile pile (map (pack_of entries) some))
      ≡ tally (in_pile entries pile some)
  tally_in_pile pile some = ap sums.tally (in_pile_is pile some) ∙ tally_is (in_pile entries pile some)

  below_count : (batch : Name) (limit : ℤ) (some : List Reading)
      → sums.count_below (limit_at (density_of_batch entries batch) limit)
      (map (pack_of entries) some) ≡ count_below entries batch limit some
  below_count batch limit some =
      count-map (λ (pack : Pack). int_lt (sums.net_of pack)
      (limit_at (density_of_batch entries batch) limit)) (pack_of entries) some
      ∙ ap (λ (test : Reading → Bool). count_by test some)
      (λ i reading. below_is (density_of_batch entries batch) limit
      (net_of_reading entries reading) i)

  -- the packs of a batch are its readings
  pub of_batch_tells : (name : Name) (number : ℕ) (reading : Reading)
      → batch_number entries name ≡ Some number → IsWeighed entries reading
      → ((pack_of entries reading).batch == number) ≡ is_of_batch name reading
  of_batch_tells name number reading is weighed =
      ap (λ o. unwrap_or (option_and_then (batch_number entries) o) 0 == number) weighed.of_batch
      ∙ ap (λ o. unwrap_or o 0 == number) weighed.numbered
      ∙ same_place (said batch_opened entries) weighed.batch name weighed.number number
      weighed.numbered is
      ∙ sym (ap (λ o. option_map_or (λ other. same_name other name) o false) weighed.of_batch)

  pub of_batch_is : (name : Name) (number : ℕ) → batch_number entries name ≡ Some number
      → AllByRecursion (IsWeighed entries) (readings entries)
      → sums.of_batch number (packs_in entries) ≡ map (pack_of entries) (readings_of_batch entries name)
  of_batch_is name number is weighed =
      filter-map (λ (pack : Pack). pack.batch == number) (pack_of entries) (readings entries)
      ∙ ap (map (pack_of entries)) (filter-within
      (λ reading. (pack_of entries reading).batch == number) (is_of_batch name)
      (readings entries)
      (all_then (λ reading w. of_batch_tells name number reading is w) (readings entries) weighed))

  pub population_is : (name : Name)
      → sums.population (map (pack_of entries) (readings_of_batch entries name))
      ≡ map (pack_of entries) (population entries name)
  population_is name =
      filter-map (λ (pack : Pack). groups.is_counted pack.pile) (pack_of entries)
      (readings_of_batch entries name)
      ∙ ap (λ (test : Reading → Bool). map (pack_of entries)
      (filter test (readings_of_batch entries name)))
      (λ i reading. counted_among entries reading i)
      ∙ ap (map (pack_of entries)) (filter-filter is_counted (is_of_batch name) (readings entries))

  totals_of_readings : (name : Name)
      → sums.pack_totals (terms_of_batch entries name).limits
      (map (pack_of entries) (readings_of_batch entries name)) ≡ totals_told entries name
  totals_of_readings name i =
      record {
        passed = tally_in_pile Passed (readings_of_batch entries name) i;
        rejected = tally_in_pile Rejected (readings_of_batch entries name) i;
        sampled = tally_in_pile Sampled (readings_of_batch entries name) i;
        voided = tally_in_pile Voided (readings_of_batch entries name) i;
        population = (ap length (population_is name) ∙ length_is (population entries name)) i;
        net = (ap sums.net_sum (population_is name) ∙ net_is (population entries name)) i;
        nonstandard =
            (ap (sums.count_below (limit_at (density_of_batch entries name)
            (limits_of_batch entries name).t1)) (population_is name)
            ∙ below_count name (limits_of_batch entries name).t1 (population entries name)) i;
        inadequate =
            (ap (sums.count_below (limit_at (density_of_batch entries name)
            (limits_of_batch entries name).t2)) (population_is name)
            ∙ below_count name (limits_of_batch entries name).t2 (population entries name)) i;
      }

  -- the terms at the number of a batch are its own
  pub terms_at : (name : Name) (number : ℕ) → batch_number entries name ≡ Some number
      → slice_get (opened_terms entries) number ≡ Some (terms_of_batch entries name)
  terms_at name number is =
      slice_get-map (terms_of_batch entries) (said batch_opened entries) number
      ∙ ap (option_map (terms_of_batch entries))
      (place_of-name (said batch_opened entries) name number is)

  pub totals_are : (kept : Sums) (name : Name) (number : ℕ) → kept.batches ≡ opened_terms entries
      → kept.packs ≡ packs_in entries
      → batch_number entries name ≡ Some number → AllByRecursion (IsWeighed entries) (readings entries)
      → kept_totals kept number ≡ Some (totals_told entries name)
  totals_are kept name number batches packs is weighed =
      ap (λ o. option_map (λ (terms : sums.Terms). sums.totals_of terms.limits kept.packs number) o)
      (ap (λ some. slice_get some number) batches ∙ terms_at name number is)
      ∙ ap (λ some. Some (sums.totals_of (terms_of_batch entries name).limits some number)) packs
      ∙ ap (λ some. Some (sums.pack_totals (terms_of_batch entries name).limits some))
      (of_batch_is name number is weighed)
      ∙ ap Some (totals_of_readings name)

  pub piles_are : asked.piles_of (packs_in entries) ≡ piles_told entries
  piles_are i =
      record {
        passed = tally_in_pile Passed (readings entries) i;
        rejected = tally_in_pile Rejected (readings entries) i;
        sampled = tally_in_pile Sampled (readings entries) i;
        voided = tally_in_pile Voided (readings entries) i;
      }

  pub numbers_are : (name : Name) (number : ℕ) → batch_number entries name ≡ Some number
      → AllByRecursion (IsWeighed entries) (readings entries)
      → asked.numbers_of (sums.population (sums.of_batch number (packs_in entries)))
      ≡ numbers_of (population entries name)
  numbers_are name number is weighed =
      ap (λ some. asked.numbers_of (sums.population some)) (of_batch_is name number is weighed)
      ∙ ap asked.numbers_of (population_is name)
      ∙ map-map (λ (pack : Pack). pack.number) (pack_of entries) (population entries name)

  pub page_is : (name : Name) (number after most : ℕ) → batch_number entries name ≡ Some number
      → AllByRecursion (IsWeighed entries) (readings entries)
      → asked.numbers_after after most (sums.of_batch number (packs_in entries))
      ≡ take most (filter (λ n. nat_lt after n)
      (map (λ (reading : Reading). reading.number) (readings_of_batch entries name)))
  page_is name number after most is weighed =
      ap (asked.numbers_after after most) (of_batch_is name number is weighed)
      ∙ ap (λ ns. take most (filter (λ n. nat_lt after n) ns))
      (map-map (λ (pack : Pack). pack.number) (pack_of entries) (readings_of_batch entries name))

  pub pack_is : (number : ℕ) → find (λ pack. pack.number == number) (packs_in entries)
      ≡ pack_told entries number
  pack_is number = find-map (λ (pack : Pack). pack.number == number) (pack_of entries) (readings entries)
