-- Sums over packs: of lists that agree, of a list that is mapped, and of the packs of a batch.
use Rattle.std.proofs.Common.{◌≡◌, ℕ, ◌+◌, ◌≤◌, Bool, true, false, cond, ◌&&◌, ltb, List, [], ◌∷◌, length, map, filter, refl, ap, sym, ◌∙◌, arith}
use Rattle.std.specs.Prelude.{ℤ, pos, negsuc, ◌-ℤ◌, ◌≤ℤ◌, int_lt}
use Rattle.hall_limits.specs.declared.TheConstants.{MAX_GROSS, MAX_TARE}
use Rattle.std.specs.List.{sum_by, count_by, All}
use Rattle.std.proofs.lemmas.List.Sums.{sum_by-cons}
use Rattle.std.proofs.lemmas.List.Elements.{All-head, All-tail}
use Rattle.std.proofs.lemmas.Int.{ints}
use Rattle.pack_judge.specs.declared.types.Pile.{Pile}
use Rattle.pack_judge.specs.declared.types.Pile.TheVariants.{Passed, Rejected, Sampled, Voided}
use Rattle.batch_sums.specs.declared.types.Held.{Held}
use Rattle.pack_groups.specs.Population.{is_counted}
use Rattle.batch_sums.specs.Totals.{net_of, of_batch, in_pile, population, gross_sum, net_sum}
use Rattle.pack_judge.specs.Piles.{same_pile}
use Rattle.batch_sums.specs.declared.types.Pack.{Pack}
use Rattle.pack_groups.specs.Groups.{Face, at_least_0, nth_face, threshold}
use Rattle.batch_sums.specs.Kept.{seen, belongs, added_count, added_gross, added_tare, added_below}

pub sum_by-same : {X : Type 0} (f g : X → ℕ) (xs : List X) → ((x : X) → f x ≡ g x)
    → sum_by f xs ≡ sum_by g xs
sum_by-same f g [] all = refl
sum_by-same f g (x ∷ xs) all = sum_by-cons f x xs ∙ omega (arith, all x, sum_by-same f g xs all)
    ∙ sym (sum_by-cons g x xs)

pub sum_by-plus : {X : Type 0} (f g : X → ℕ) (xs : List X)
    → sum_by (λ x. f x + g x) xs ≡ sum_by f xs + sum_by g xs
sum_by-plus f g [] = refl
sum_by-plus f g (x ∷ xs) =
    sum_by-cons (λ y. f y + g y) x xs
    ∙ omega (arith, sum_by-plus f g xs, sum_by-cons f x xs, sum_by-cons g x xs)

pub sum_by-map : {X Y : Type 0} (f : Y → ℕ) (v : X → Y) (xs : List X)
    → sum_by f (map v xs) ≡ sum_by (λ x. f (v x)) xs
sum_by-map f v [] = refl
sum_by-map f v (x ∷ xs) = sum_by-cons f (v x) (map v xs) ∙ omega (arith, sum_by-map f v xs)
    ∙ sym (sum_by-cons (λ y. f (v y)) x xs)

module _ (test : Pack → Bool) (pack : Pack) (packs : List Pack) where
  -- one more pack that may pass two tests: in a length, in a sum of grosses, in a sum of nets, in a
  -- count
  pub length_more : (b : Bool) (count : ℕ) → length (filter test packs) ≡ count
      → length (filter test (cond b (pack ∷ packs) packs)) ≡ cond (b && test pack) 1 0 + count
  length_more true count is =
      elim (test pack) as (λ c. length (cond c (pack ∷ filter test packs) (filter test packs))
      ≡ cond c 1 0 + count) [ true ↦ omega arith | false ↦ omega arith ]
  length_more false count is = omega arith

  pub gross_more : (b : Bool) (gross sum : ℕ) → pack.gross ≡ pos gross
      → gross_sum (filter test packs) ≡ pos sum
      → gross_sum (filter test (cond b (pack ∷ packs) packs))
      ≡ pos (cond (b && test pack) gross 0 + sum)
  gross_more true gross sum own is =
      elim (test pack) as (λ c. gross_sum (cond c (pack ∷ filter test packs) (filter test packs))
      ≡ pos (cond c gross 0 + sum)) [
        | true ↦ omega (arith, ints, own, is)
        | false ↦
            omega (arith, ints, is)
      ]
  gross_more false gross sum own is = omega (arith, ints, is)

  net_more : (b : Bool) (gross tare sum tares : ℕ) → pack.gross ≡ pos gross → pack.tare ≡ pos tare
      → net_sum (filter test packs) ≡ pos sum -ℤ pos tares
      → net_sum (filter test (cond b (pack ∷ packs) packs))
      ≡ pos (cond (b && test pack) gross 0 + sum) -ℤ pos (cond (b && test pack) tare 0 + tares)
  net_more true gross tare sum tares own its is =
      elim (test pack) as (λ c. net_sum (cond c (pack ∷ filter test packs) (filter test packs))
      ≡ pos (cond c gross 0 + sum) -ℤ pos (cond c tare 0 + tares))
      [ true ↦ omega (arith, ints, own, its, is) | false ↦ omega (arith, ints, is) ]
  net_more false gross tare sum tares own its is = omega (arith, ints, is)

-- one more pack that may be of the batch, of the population, and below a limit
count_more : (test other : Pack → Bool) (pack : Pack) (packs : List Pack) (b low : Bool) (count : ℕ)
    → other pack ≡ low → count_by other (filter test packs) ≡ count
    → count_by other (filter test (cond b (pack ∷ packs) packs))
    ≡ cond b (cond (test pack && low) 1 0) 0 + count
count_more test other pack packs true low count is rest =
    elim (test pack) as (λ c. count_by other (cond c (pack ∷ filter test packs) (filter test packs))
    ≡ cond (c && low) 1 0 + count) [
      | true ↦ sum_by-cons (λ x. cond (other x) 1 0) pack (filter test packs)
          ∙ rw is (omega (arith, rest))
      | false ↦ omega (arith, rest)
    ]
count_more test other pack packs false low count is rest = omega (arith, rest)

-- a net is below a limit where the gross is below the least one that the limit lets stand
pub at_threshold : (limit : ℤ) (gross tare : ℕ) → pos gross ≤ℤ MAX_GROSS → pos tare ≤ℤ MAX_TARE
    → ltb gross (threshold limit tare) ≡ int_lt (pos gross -ℤ pos tare) limit
at_threshold (pos limit) gross tare light tared = by (ltb (at_least_0 MAX_GROSS) limit) refl
  where
    by : (high : Bool) → ltb (at_least_0 MAX_GROSS) limit ≡ high
        → ltb gross (cond high (at_least_0 MAX_GROSS + 1) (limit + tare))
        ≡ int_lt (pos gross -ℤ pos tare) (pos limit)
    by true is = grind (arith, ints)
    by false is = grind (arith, ints)
at_threshold (negsuc limit) gross tare light tared = grind (arith, ints)

module _ (some : List Face) (number : ℕ) where
  pub length_in_pile : (pile : Pile) (held : List Held)
      → length (in_pile pile (of_batch number (map (seen some) held)))
      ≡ sum_by (added_count some number pile) held
  length_in_pile pile [] = refl
  length_in_pile pile (h ∷ held) =
      length_more (λ pack. same_pile pack.pile pile) (seen some h)
      (of_batch number (map (seen some) held)) (belongs some number h) _
      (length_in_pile pile held)
      ∙ sym (sum_by-cons (added_count some number pile) h held)

  pub gross_in_pile : (pile : Pile) (held : List Held)
      → gross_sum (in_pile pile (of_batch number (map (seen some) held)))
      ≡ pos (sum_by (added_gross some number pile) held)
  gross_in_pile pile [] = refl
  gross_in_pile pile (h ∷ held) =
      gross_more (λ pack. same_pile pack.pile pile) (seen some h)
      (of_batch number (map (seen some) held)) (belongs some number h) h.gross _ refl
      (gross_in_pile pile held)
      ∙ ap pos (sym (sum_by-cons (added_gross some number pile) h held))

  -- what a pack of the population adds to its number and to its grosses
  abbrev counted_in : Held → ℕ
  counted_in h = cond (belongs some number h && is_counted h.pile) 1 0

  abbrev weighed_in : Held → ℕ
  weighed_in h = cond (belongs some number h && is_counted h.pile) h.gross 0

  abbrev pub members : List Held → List Pack
  members held = population (of_batch number (map (seen some) held))

  length_members : (held : List Held) → length (members held) ≡ sum_by counted_in held
  length_members [] = refl
  length_members (h ∷ held) =
      length_more (λ pack. is_counted pack.pile) (seen some h)
      (of_batch number (map (seen some) held)) (belongs some number h) _ (length_members held)
      ∙ sym (sum_by-cons counted_in h held)

  counted_is : (h : Held) → counted_in h ≡ added_count some number Passed h
      + added_count some number Sampled h
  counted_is h = by (belongs some number h) h.pile
    where
      by : (b : Bool) (pile : Pile) → cond (b && is_counted pile) 1 0
          ≡ cond (b && same_pile pile Passed) 1 0 + cond (b && same_pile pile Sampled) 1 0
      by false pile = omega arith
      by true Passed = omega arith
      by true Rejected = omega arith
      by true Sampled = omega arith
      by true Voided = omega arith

  weighed_is : (h : Held) → weighed_in h ≡ added_gross some number Passed h
      + added_gross some number Sampled h
  weighed_is h = by (belongs some number h) h.pile
    where
      by : (b : Bool) (pile : Pile) → cond (b && is_counted pile) h.gross 0
          ≡ cond (b && same_pile pile Passed) h.gross 0
          + cond (b && same_pile pile Sampled) h.gross 0
      by false pile = omega arith
      by true Passed = omega arith
      by true Rejected = omega arith
      by true Sampled = omega arith
      by true Voided = omega arith

  pub length_population : (held : List Held)
      → length (members held) ≡ sum_by (added_count some number Passed) held
      + sum_by (added_count some number Sampled) held
  length_population held =
      length_members held ∙ sum_by-same counted_in
      (λ h. added_count some number Passed h + added_count some number Sampled h) held
      counted_is
      ∙ sum_by-plus (added_count some number Passed) (added_count some number Sampled) held

  counted_le : (h : Held) → counted_in h ≤ 1
  counted_le h = elim (belongs some number h && is_counted h.pile) as (λ b. cond b 1 0 ≤ 1)
      [ true ↦ omega arith | false ↦ omega arith ]

  pub counted_sum : (held : List Held)
      → sum_by (added_count some number Passed) held + sum_by (added_count some number Sampled) held
      ≤ length held
  counted_sum [] = omega arith
  counted_sum (h ∷ held) =
      let one = counted_is h in
      let most : counted_in h ≤ 1 = counted_le h in
      omega (
        arith,
        counted_sum held,
        one,
        most,
        sum_by-cons (added_count some number Passed) h held,
        sum_by-cons (added_count some number Sampled) h held,
      )

  net_members : (held : List Held)
      → net_sum (members held) ≡ pos (sum_by weighed_in held)
      -ℤ pos (sum_by (added_tare some number) held)
  net_members [] = omega (arith, ints)
  net_members (h ∷ held) =
      net_more (λ pack. is_counted pack.pile) (seen some h) (of_batch number (map (seen some) held))
      (belongs some number h) h.gross (nth_face some h.group).tare (sum_by weighed_in held)
      (sum_by (added_tare some number) held) refl refl (net_members held)
      ∙ (λ i. pos (sym (sum_by-cons weighed_in h held) i)
      -ℤ pos (sym (sum_by-cons (added_tare some number) h held) i))

  pub net_population : (held : List Held)
      → net_sum (members held) ≡ pos
      (sum_by (added_gross some number Passed) held + sum_by (added_gross some number Sampled) held)
      -ℤ pos (sum_by (added_tare some number) held)
  net_population held =
      net_members held
      ∙ ap (λ n. pos n -ℤ pos (sum_by (added_tare some number) held))
      (sum_by-same weighed_in (λ h. added_gross some number Passed h
      + added_gross some number Sampled h) held weighed_is
      ∙ sum_by-plus (added_gross some number Passed) (added_gross some number Sampled) held)

  -- a limit as a test of grosses: how many of the population have a net below it
  pub below_population : (limit : ℤ) (held : List Held) → All (λ h. pos h.gross ≤ℤ MAX_GROSS) held
      → All (λ h. pos (nth_face some h.group).tare ≤ℤ MAX_TARE) held
      → count_by (λ pack. int_lt (net_of pack) limit) (members held)
      ≡ sum_by (added_below some number limit) held
  below_population limit [] light tared = refl
  below_population limit (h ∷ held) light tared =
      count_more (λ pack. is_counted pack.pile) (λ pack. int_lt (net_of pack) limit) (seen some h)
      (of_batch number (map (seen some) held)) (belongs some number h)
      (ltb h.gross (threshold limit (nth_face some h.group).tare)) _
      (sym (at_threshold limit h.gross (nth_face some h.group).tare
      (All-head (λ g. pos g.gross ≤ℤ MAX_GROSS) h held light)
      (All-head (λ g. pos (nth_face some g.group).tare ≤ℤ MAX_TARE) h held tared)))
      (below_population limit held (All-tail (λ g. pos g.gross ≤ℤ MAX_GROSS) h held light)
      (All-tail (λ g. pos (nth_face some g.group).tare ≤ℤ MAX_TARE) h held tared))
      ∙ sym (sum_by-cons (added_below some number limit) h held)
