-- The numbers of the packs of a batch above one, and the first of them.
use Rattle.std.proofs.Common.{◌≡◌, ℕ, zero, suc, ◌+◌, ◌-◌, ◌<◌, ◌≤◌, Bool, true, false, cond, eqb, ltb, min, List, [], ◌∷◌, ◌++◌, length, map, filter, get_or, take, drop, reverse, refl, ap, sym, subst, ◌∙◌, arith, append_assoc, length-append}
use Rattle.std.specs.List.{count_by}
use Rattle.std.proofs.Math.Seq.{drop-append_seam, take-append_seam}
use Rattle.std.proofs.lemmas.Bool.{eq-eqb, lt-ltb, le-ltb}
use Rattle.std.proofs.lemmas.List.{map-append, reverse-append, length-map, length-take-le, get_or-map, get_or-take, take-take, take-map, take_more, take_min, take-append-drop, drop-take, drop-map, get_or-drop, length-drop, length-reverse}
use Rattle.std.proofs.lemmas.List.Elements.{filter-append}
use Rattle.std.proofs.lemmas.List.Sums.{length-filter, sum_by-cons}
use Rattle.batch_sums.specs.declared.types.Held.{Held}
use Rattle.batch_sums.specs.declared.types.Pack.{Pack}
use Rattle.batch_sums.specs.Totals.{of_batch}
use Rattle.batch_sums.specs.Asked.{numbers_of, numbers_after}
use Rattle.batch_sums.specs.Kept.{seen, rank_of, reach_of}
use Rattle.batch_sums.specs.Invariant.{homes_of, numbers_held}
use Rattle.batch_sums.specs.Chains.{Chain, Reaches, IsBack, AreUpTo, homes_in, packs_in, rank_to, numbers_to}
use Rattle.batch_sums.proofs.ChainLemmas.{of_batch-reach, reach-le}
use Rattle.batch_sums.proofs.ChainSteps.{home_at, within, homes_long, links_here, read_at}

module _ (batch : ℕ) where
  -- the numbers of the packs of the batch
  abbrev pub own : List Pack → List ℕ
  own packs = numbers_of (of_batch batch packs)

  pub own-append : (xs ys : List Pack) → own (xs ++ ys) ≡ own xs ++ own ys
  own-append xs ys =
      ap numbers_of (filter-append (λ pack. eqb pack.batch batch) xs ys)
      ∙ map-append (λ (p : Pack). p.number) (of_batch batch xs) (of_batch batch ys)

  -- they are as many as the batch is among those of the packs
  pub own-length : (packs : List Pack) → length (own packs) ≡ rank_of batch (homes_of packs)
  own-length packs =
      length-map (of_batch batch packs) (λ (p : Pack). p.number)
      ∙ length-filter (λ (p : Pack). eqb p.batch batch) packs ∙ counted packs
    where
      counted : (some : List Pack) → count_by (λ pack. eqb pack.batch batch) some
          ≡ rank_of batch (homes_of some)
      counted [] = refl
      counted (pack ∷ some) =
          sum_by-cons (λ (p : Pack). cond (eqb p.batch batch) 1 0) pack some
          ∙ ap (λ n. cond (eqb pack.batch batch) 1 0 + n) (counted some)
          ∙ sym (sum_by-cons (λ home. cond (eqb home batch) 1 0) pack.batch (homes_of some))

  -- those of packs whose numbers aren't above one, and those of packs whose numbers are
  pub none_above : (number : ℕ) (packs : List Pack) → ((place : ℕ) → place < length packs
      → get_or (numbers_of packs) place 0 ≤ number) → filter (ltb number) (own packs) ≡ []
  none_above number [] most = refl
  none_above number (pack ∷ packs) most =
      by (eqb pack.batch batch)
      (none_above number packs (λ place less. most (suc place) (omega (arith, less))))
    where
      by : (b : Bool) → filter (ltb number) (own packs) ≡ []
          → filter (ltb number) (numbers_of (cond b (pack ∷ of_batch batch packs)
          (of_batch batch packs))) ≡ []
      by true rest =
          ap (λ b. cond b (pack.number ∷ filter (ltb number) (own packs))
          (filter (ltb number) (own packs))) (le-ltb number pack.number (most 0 (omega arith)))
          ∙ rest
      by false rest = rest

  pub all_above : (number : ℕ) (packs : List Pack) → ((place : ℕ) → place < length packs
      → get_or (homes_of packs) place 0 ≡ batch → number < get_or (numbers_of packs) place 0)
      → filter (ltb number) (own packs) ≡ own packs
  all_above number [] least = refl
  all_above number (pack ∷ packs) least =
      by (eqb pack.batch batch) refl
      (all_above number packs (λ place less. least (suc place) (omega (arith, less))))
    where
      by : (b : Bool) → eqb pack.batch batch ≡ b
          → filter (ltb number) (own packs) ≡ own packs
          → filter (ltb number) (numbers_of (cond b (pack ∷ of_batch batch packs)
          (of_batch batch packs))) ≡ numbers_of (cond b (pack ∷ of_batch batch packs)
          (of_batch batch packs))
      by true is rest =
          ap (λ b. cond b (pack.number ∷ filter (ltb number) (own packs))
          (filter (ltb number) (own packs)))
          (lt-ltb number pack.number (least 0 (omega arith)
          (Rattle.std.proofs.lemmas.Bool.eqb-true pack.batch batch is)))
          ∙ ap (λ ns. pack.number ∷ ns) rest
      by false is rest = rest

-- a page of numbers, by how many are up to one and how many are above it
pub page_is : (numbers above : List ℕ) (before most end : ℕ)
    → end ≡ before + min most (length numbers - before) → before ≤ length numbers
    → above ≡ drop before numbers
    → drop (end - min most (length numbers - before)) (take end numbers) ≡ take most above
page_is numbers above before most end is few above_is =
    let some = min most (length numbers - before) in
    let start : end - some ≡ before = omega (arith, is) in
    (λ i. drop (start i) (take (is i) numbers))
    ∙ drop-take before some numbers
    ∙ ap (λ n. take (min most n) (drop before numbers))
    (sym (length-drop before numbers))
    ∙ take_min most (drop before numbers)
    ∙ ap (take most) (sym above_is)

-- what stands at the end of a list
pub last_of : (first turned numbers : List ℕ) → first ++ reverse turned ≡ numbers
    → reverse turned ≡ drop (length numbers - length turned) numbers
last_of first turned numbers is =
    let long : length numbers - length turned ≡ length first =
    omega (
      arith,
      ap (λ (ns : List ℕ). length ns) is,
      length-append first (reverse turned),
      length-reverse turned,
    ) in
    sym (drop-append_seam first (reverse turned))
    ∙ (λ i. drop (sym long i) (is i))

numbers_seen : (some : _) (held : List Held) → numbers_of (map (seen some) held) ≡ numbers_held held
numbers_seen some [] = refl
numbers_seen some (h ∷ held) = ap (λ ns. h.number ∷ ns) (numbers_seen some held)

module _ (held : List Held) (chain : Chain held) where
  packs : List Pack
  packs = packs_in held chain

  pub numbers_long : (reach : ℕ) → length (numbers_to held chain reach) ≡ rank_to held chain reach
  numbers_long reach =
      own-length chain.batch (take reach (packs_in held chain))
      ∙ ap (rank_of chain.batch) (sym (take-map (λ (p : Pack). p.batch) reach (packs_in held chain)))

  -- the numbers up to a reach stand before those behind it
  numbers_split : (first second : ℕ) → first ≤ second → numbers_to held chain second
      ≡ numbers_to held chain first
      ++ own chain.batch (drop first (take second (packs_in held chain)))
  numbers_split first second less =
      ap (own chain.batch) (sym (take-append-drop first (take second (packs_in held chain))))
      ∙ own-append chain.batch (take first (take second (packs_in held chain)))
      (drop first (take second (packs_in held chain)))
      ∙ ap (λ (ps : List Pack). own chain.batch ps
      ++ own chain.batch (drop first (take second (packs_in held chain))))
      (take-take first second (packs_in held chain) less)

  pub numbers_first : (first second : ℕ) → first ≤ second → numbers_to held chain first
      ≡ take (rank_to held chain first) (numbers_to held chain second)
  numbers_first first second less =
      sym (take-append_seam (numbers_to held chain first)
      (own chain.batch (drop first (take second (packs_in held chain)))))
      ∙ (λ i. take (numbers_long first i) (sym (numbers_split first second less) i))

  pub numbers_above : (number newest reach : ℕ) → Reaches held chain newest
      → IsBack held chain number newest reach → AreUpTo held number reach
      → filter (ltb number) (numbers_to held chain newest)
      ≡ drop (rank_to held chain reach) (numbers_to held chain newest)
  numbers_above number newest reach is back most =
      let few = take reach (packs_in held chain) in
      let rest = drop reach (take newest (packs_in held chain)) in
      let split = numbers_split reach newest back.less in
      ap (filter (ltb number)) split
      ∙ filter-append (ltb number) (own chain.batch few) (own chain.batch rest)
      ∙ (λ i. none_above chain.batch number few few_most i ++ all_above chain.batch number rest rest_above i)
      ∙ sym (drop-append_seam (own chain.batch few) (own chain.batch rest))
      ∙ (λ i. drop (numbers_long reach i) (sym split i))
    where
      packs_long : length (packs_in held chain) ≡ length held
      packs_long = length-map held (seen chain.some)

      few_most : (place : ℕ) → place < length (take reach (packs_in held chain))
          → get_or (numbers_of (take reach (packs_in held chain))) place 0 ≤ number
      few_most place less =
          let before : place < reach =
          omega (
            arith,
            less,
            length-take-le reach (packs_in held chain)
                (omega (arith, within held chain reach back.reach, packs_long)),
          ) in
          let same : get_or (numbers_of (take reach (packs_in held chain))) place 0
          ≡ get_or (numbers_held held) place 0 =
          ap (λ ns. get_or ns place 0)
          (sym (take-map (λ (p : Pack). p.number) reach (packs_in held chain)))
          ∙ get_or-take reach (numbers_of (packs_in held chain)) place 0 before
          ∙ ap (λ ns. get_or ns place 0) (numbers_seen chain.some held) in
          omega (arith, most place before, same)

      behind : {X : Type 0} (f : Pack → X) (place : ℕ) (d : X) → reach + place < newest
          → get_or (map f (drop reach (take newest (packs_in held chain)))) place d
          ≡ get_or (map f (packs_in held chain)) (reach + place) d
      behind f place d less =
          ap (λ xs. get_or xs place d)
          (sym (drop-map f reach (take newest (packs_in held chain))))
          ∙ get_or-drop reach (map f (take newest (packs_in held chain))) place d
          ∙ ap (λ xs. get_or xs (reach + place) d)
          (sym (take-map f newest (packs_in held chain)))
          ∙ get_or-take newest (map f (packs_in held chain)) (reach + place) d less

      rest_above : (place : ℕ)
          → place < length (drop reach (take newest (packs_in held chain)))
          → get_or (homes_of (drop reach (take newest (packs_in held chain)))) place 0
          ≡ chain.batch
          → number < get_or (numbers_of (drop reach (take newest (packs_in held chain)))) place 0
      rest_above place less home =
          let before : reach + place < newest =
          omega (
            arith,
            less,
            length-drop reach (take newest (packs_in held chain)),
            length-take-le newest (packs_in held chain)
                (omega (arith, within held chain newest is, packs_long)),
          ) in
          let same : get_or (numbers_of (drop reach (take newest (packs_in held chain)))) place 0
          ≡ get_or (numbers_held held) (reach + place) 0 =
          behind (λ p. p.number) place 0 before
          ∙ ap (λ ns. get_or ns (reach + place) 0) (numbers_seen chain.some held) in
          let above = back.above (reach + place) (omega arith) before
          (sym (behind (λ p. p.batch) place 0 before) ∙ home) in
          omega (arith, above, same)

  -- the number of the last of so many packs stands behind those of the packs before it
  pub numbers_step : (place before : ℕ) (h : Held) → h ≡ get_or held place h
      → Reaches held chain (place + 1)
      → before ≡ reach_of chain.batch (take place (homes_in held chain))
      → numbers_to held chain (place + 1) ≡ numbers_to held chain before ++ h.number ∷ []
  numbers_step place before h read is before_is =
      let some = packs_in held chain in
      let there : place < length some =
      omega (arith, within held chain (place + 1) is, length-map held (seen chain.some)) in
      let shown : get_or some place (seen chain.some h) ≡ seen chain.some h =
      get_or-map (seen chain.some) held place h (seen chain.some h)
      (omega (arith, within held chain (place + 1) is)) ∙ ap (seen chain.some) (sym read) in
      let home : (seen chain.some h).batch ≡ chain.batch =
      ap (λ (p : Pack). p.batch) (sym shown)
      ∙ sym (get_or-map (λ (p : Pack). p.batch) some place (seen chain.some h) 0 there)
      ∙ home_at chain.batch (homes_in held chain) place is in
      let reaches : before ≡ reach_of chain.batch (homes_of (take place some)) = before_is
      ∙ ap (reach_of chain.batch) (take-map (λ (p : Pack). p.batch) place some) in
      let lower : before ≤ place =
      omega (
        arith,
        before_is,
        reach-le chain.batch (take place (homes_in held chain)),
        length-take-le place (homes_in held chain) (omega (
          arith,
          there,
          homes_long held chain,
          length-map held (seen chain.some),
        )),
      ) in
      let rest : own chain.batch (take place some) ≡ own chain.batch (take before some) =
      ap numbers_of (sym (of_batch-reach chain.batch (take place some)))
      ∙ ap (λ n. own chain.batch (take n (take place some))) (sym reaches)
      ∙ ap (own chain.batch) (take-take before place some lower) in
      ap (own chain.batch) (take_more some place (seen chain.some h) there
      ∙ ap (λ p. take place some ++ p ∷ []) shown)
      ∙ own-append chain.batch (take place some) (seen chain.some h ∷ [])
      ∙ (λ i. rest i ++ numbers_of
      (cond (eq-eqb (seen chain.some h).batch chain.batch home i) (seen chain.some h ∷ []) []))

  -- a page is made of the last numbers up to its end
  pub page_made : (after most newest reach last : ℕ) → Reaches held chain newest
      → IsBack held chain after newest reach → AreUpTo held after reach → last ≤ newest
      → rank_to held chain last ≡ rank_to held chain reach
      + min most (rank_to held chain newest - rank_to held chain reach)
      → rank_to held chain reach ≤ rank_to held chain newest
      → drop (rank_to held chain last
      - min most (rank_to held chain newest - rank_to held chain reach))
      (numbers_to held chain last)
      ≡ numbers_after after most (of_batch chain.batch (take newest (packs_in held chain)))
  page_made after most newest reach last is back up_to less rank few =
      let long = numbers_long newest in
      let end : rank_to held chain last ≡ rank_to held chain reach
      + min most (length (numbers_to held chain newest) - rank_to held chain reach) =
      rank ∙ ap (λ n. rank_to held chain reach + min most (n - rank_to held chain reach)) (sym long) in
      (λ i. drop (rank_to held chain last - min most (sym long i - rank_to held chain reach))
      (numbers_first last newest less i))
      ∙ page_is (numbers_to held chain newest) (filter (ltb after) (numbers_to held chain newest))
      (rank_to held chain reach) most (rank_to held chain last) end (omega (arith, few, long))
      (numbers_above after newest reach is back up_to)

  -- while fewer numbers were taken than there are, there are packs before
  pub more_left : (newest reach : ℕ) (numbers : List ℕ)
      → numbers_to held chain reach ++ reverse numbers ≡ numbers_to held chain newest
      → length numbers < rank_to held chain newest → 0 < reach
  more_left newest zero numbers told less =
      absurd (omega (
        arith,
        ap (λ (ns : List ℕ). length ns) told,
        length-append (numbers_to held chain zero) (reverse numbers),
        length-reverse numbers,
        numbers_long newest,
        numbers_long zero,
        less,
      ))
  more_left newest (suc reach) numbers told less = omega arith

  -- one number more is taken
  pub step_told : (newest reach : ℕ) (numbers more : List ℕ) (other : Held) → 0 < reach
      → Reaches held chain reach
      → numbers_to held chain reach ++ reverse numbers ≡ numbers_to held chain newest
      → more ≡ numbers ++ (get_or held (reach - 1) other).number ∷ []
      → numbers_to held chain (get_or held (reach - 1) other).links.before ++ reverse more
      ≡ numbers_to held chain newest
  step_told newest reach numbers more other some is told more_is =
      let h = get_or held (reach - 1) other in
      let next : reach - 1 + 1 ≡ reach = omega (arith, some) in
      let here = subst (Reaches held chain) (sym next) is in
      let read = read_at held chain reach other some is in
      let step = numbers_step (reach - 1) h.links.before h read here
      (links_here held chain (reach - 1) h read here).before in
      ap (λ ns. numbers_to held chain h.links.before ++ ns)
      (ap reverse more_is ∙ reverse-append numbers (h.number ∷ []))
      ∙ sym (append_assoc (numbers_to held chain h.links.before) (h.number ∷ []) (reverse numbers))
      ∙ ap (λ ns. ns ++ reverse numbers)
      (sym step ∙ ap (numbers_to held chain) next)
      ∙ told

  -- the last numbers were taken
  pub last_told : (newest reach count : ℕ) (numbers : List ℕ)
      → numbers_to held chain reach ++ reverse numbers ≡ numbers_to held chain newest
      → length numbers ≡ count
      → reverse numbers ≡ drop (rank_to held chain newest - count) (numbers_to held chain newest)
  last_told newest reach count numbers told long =
      last_of (numbers_to held chain reach) numbers (numbers_to held chain newest) told
      ∙ (λ i. drop (numbers_long newest i - long i) (numbers_to held chain newest))
