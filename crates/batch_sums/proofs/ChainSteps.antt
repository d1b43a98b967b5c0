-- Steps and jumps back in a batch, by the links of its packs.
use Rattle.std.proofs.Common.{◌≡◌, ℕ, ◌+◌, ◌-◌, ◌<◌, ◌≤◌, cond, eqb, inl, inr, List, [], ◌∷◌, ◌++◌, length, map, get_or, take, refl, ap, sym, subst, ◌∙◌, arith}
use Rattle.std.proofs.lemmas.Bool.{cases_lt}
use Rattle.std.proofs.lemmas.List.{length-map, length-take-le, get_or-map, get_or-take, get_or_default, take-take, take_more}
use Rattle.std.proofs.lemmas.List.Sums.{count_by-le-length, sum_by-take-le}
use Rattle.batch_sums.specs.declared.types.Held.{Held}
use Rattle.batch_sums.specs.declared.types.Links.{Links}
use Rattle.batch_sums.specs.declared.types.Pack.{Pack}
use Rattle.batch_sums.specs.Kept.{seen, reach_of, rank_of, IsReach, IsLinked}
use Rattle.batch_sums.specs.Invariant.{links_of, numbers_held}
use Rattle.batch_sums.specs.Chains.{Chain, Reaches, StandsAt, AreUpTo, homes_in, rank_to}
use Rattle.batch_sums.proofs.ChainLemmas.{reach-le, reach-take, reach-at, reach-past, rank-reach, rank-push_own}

pub no_reach : (batch : ℕ) (homes : List ℕ) → IsReach batch homes 0
no_reach batch homes = record { within = omega arith; reached = refl }

-- all packs of a batch reach so far
pub newest_reach : (batch : ℕ) (homes : List ℕ) → IsReach batch homes (reach_of batch homes)
newest_reach batch homes = record { within = reach-le batch homes; reached = reach-take batch homes }

-- a reach among the first of some is one among all
pub reach_on : (batch place reach : ℕ) (homes : List ℕ) → place ≤ length homes
    → IsReach batch (take place homes) reach → IsReach batch homes reach
reach_on batch place reach homes within is =
    let less : reach ≤ place = omega (arith, is.within, length-take-le place homes within) in
    record {
      within = omega (arith, less, within);
      reached = ap (reach_of batch) (sym (take-take reach place homes less)) ∙ is.reached;
    }

module _ (batch : ℕ) (homes : List ℕ) (place : ℕ) (reach : IsReach batch homes (place + 1)) where
  there : place < length homes
  there = omega (arith, reach.within)

  pub home_at : get_or homes place 0 ≡ batch
  home_at = sym (get_or-take (place + 1) homes place 0 (omega arith))
      ∙ reach-at batch (take (place + 1) homes) place reach.reached

  pub stands : (own : Links) → IsLinked batch (take place homes) own
      → StandsAt batch homes (place + 1) own
  stands own linked =
      let lower : own.before ≤ place =
      omega (
        arith,
        linked.before,
        reach-le batch (take place homes),
        length-take-le place homes (omega (arith, there)),
      ) in
      let skipped : own.skip ≤ place =
      omega (arith, linked.skip.within, length-take-le place homes (omega (arith, there))) in
      let count : rank_of batch (take (place + 1) homes) ≡ rank_of batch (take place homes) + 1 =
      ap (rank_of batch) (take_more homes place 0 there
      ∙ ap (λ home. take place homes ++ home ∷ []) home_at)
      ∙ rank-push_own batch (take place homes) in
      let counted : rank_of batch (take own.before homes) ≡ rank_of batch (take place homes) =
      ap (rank_of batch) (sym (take-take own.before place homes lower))
      ∙ ap (λ n. rank_of batch (take n (take place homes))) linked.before
      ∙ rank-reach batch (take place homes) in
      record {
        rank = linked.rank ∙ sym count;
        before = subst (IsReach batch homes) (sym linked.before)
            (reach_on batch place (reach_of batch (take place homes)) homes (omega (arith, there))
            (newest_reach batch (take place homes)));
        skip = reach_on batch place own.skip homes (omega (arith, there)) linked.skip;
        back = λ some. (omega (arith, lower), omega (arith, skipped));
        one = λ some. linked.rank ∙ ap (λ n. n + 1) (sym counted);
        between = λ other past less own_home.
            reach-past batch (take place homes) other (omega (arith, past, linked.before))
            (omega (arith, less, length-take-le place homes (omega (arith, there))))
            (get_or-take place homes other 0 (omega (arith, less)) ∙ own_home);
      }

module _ (held : List Held) (chain : Chain held) where
  pub homes_long : length (homes_in held chain) ≡ length held
  homes_long = length-map (map (seen chain.some) held) (λ (p : Pack). p.batch)
      ∙ length-map held (seen chain.some)

  pub within : (reach : ℕ) → Reaches held chain reach → reach ≤ length held
  within reach is = omega (arith, is.within, homes_long)

  -- the last of so many packs, which is there
  module _ (place : ℕ) (h : Held) (read : h ≡ get_or held place h)
      (reach : Reaches held chain (place + 1)) where
    here : place < length held
    here = omega (arith, within (place + 1) reach)

    pub links_here : IsLinked chain.batch (take place (homes_in held chain)) h.links
    links_here =
        let link : get_or (links_of held) place h.links ≡ h.links =
        get_or-map (λ (p : Held). p.links) held place h h.links here
        ∙ ap (λ (p : Held). p.links) (sym read) in
        subst (λ b. IsLinked b (take place (homes_in held chain)) h.links)
        (home_at chain.batch (homes_in held chain) place reach)
        (subst (IsLinked (get_or (homes_in held chain) place 0) (take place (homes_in held chain)))
        link (chain.linked place h.links (omega (arith, here, homes_long))))

    pub links_stand : StandsAt chain.batch (homes_in held chain) (place + 1) h.links
    links_stand = stands chain.batch (homes_in held chain) place reach h.links links_here

  -- all of the batch are reached where the newest is
  pub reach_as : (reach : ℕ) → reach ≡ reach_of chain.batch (homes_in held chain)
      → Reaches held chain reach
  reach_as reach is = subst (Reaches held chain) (sym is)
      (newest_reach chain.batch (homes_in held chain))

  -- read as code reads it
  module _ (reach : ℕ) (other : Held) (some : 0 < reach) (is : Reaches held chain reach) where
    next : reach - 1 + 1 ≡ reach
    next = omega (arith, some)

    pub there_at : reach - 1 < length held
    there_at = omega (arith, some, within reach is)

    pub read_at : get_or held (reach - 1) other ≡ get_or held (reach - 1) (get_or held (reach - 1) other)
    read_at = get_or_default held (reach - 1) other (get_or held (reach - 1) other) there_at

    pub links_read : StandsAt chain.batch (homes_in held chain) reach (get_or held (reach - 1) other).links
    links_read =
        subst (λ n. StandsAt chain.batch (homes_in held chain) n (get_or held (reach - 1) other).links)
        next
        (links_stand (reach - 1) (get_or held (reach - 1) other) read_at
        (subst (Reaches held chain) (sym next) is))

  numbers_long : length (numbers_held held) ≡ length held
  numbers_long = length-map held (λ (p : Held). p.number)

  -- numbers rise, so none up to a pack is above one where that of the pack isn't
  module _ (number last : ℕ) (there : last < length held) where
    pub up_to_last : get_or (numbers_held held) last 0 ≤ number → AreUpTo held number (last + 1)
    up_to_last most place less =
        elim (cases_lt place last) [
          | inl before ↦
              omega (arith, most, chain.rising place last before (omega (arith, there, numbers_long)))
          | inr not_before ↦
              let same : last ≡ place = omega (arith, less, not_before) in
              subst (λ n. get_or (numbers_held held) n 0 ≤ number) same most
        ]

  -- where the last has a number that isn't above
  pub stopped : (number reach : ℕ) → Reaches held chain reach
      → (0 < reach → get_or (numbers_held held) (reach - 1) 0 ≤ number) → AreUpTo held number reach
  stopped number reach is most =
      elim (cases_lt 0 reach) [
        | inl some ↦
            let next : reach - 1 + 1 ≡ reach = omega (arith, some) in
            subst (AreUpTo held number) next
            (up_to_last number (reach - 1) (omega (arith, some, within reach is)) (most some))
        | inr none ↦ λ place less. absurd (omega (arith, none, less))
      ]

  -- ranks
  pub rank_most : (reach : ℕ) → rank_to held chain reach ≤ length held
  rank_most reach =
      omega (
        arith,
        sum_by-take-le (λ home. cond (eqb home chain.batch) 1 0)
            (homes_in held chain) reach,
        count_by-le-length (λ home. eqb home chain.batch) (homes_in held chain),
        homes_long,
      )

  pub rank_rises : (first second : ℕ) → first ≤ second
      → rank_to held chain first ≤ rank_to held chain second
  rank_rises first second less =
      omega (
        arith,
        sum_by-take-le (λ home. cond (eqb home chain.batch) 1 0)
            (take second (homes_in held chain)) first,
        ap (rank_of chain.batch) (take-take first second (homes_in held chain) less),
      )
