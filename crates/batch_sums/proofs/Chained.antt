-- What is kept of the packs, as a chain that can be walked.
use Rattle.std.proofs.Common.{◌≡◌, ℕ, List, Some, option_map, ap, sym, subst, ◌∙◌, arith}
use Rattle.std.specs.List.{slice_get}
use Rattle.std.proofs.lemmas.List.{length-map}
use Rattle.std.proofs.lemmas.Option.{slice_get_within, slice_get-map, get_or_from_slice_get}
use Rattle.pack_groups.specs.declared.batch.Batch.{Batch}
use Rattle.pack_groups.specs.Groups.{Face}
use Rattle.batch_sums.specs.declared.types.Held.{Held}
use Rattle.batch_sums.specs.declared.types.Links.{Links}
use Rattle.batch_sums.specs.Kept.{reach_of, IsChained, IsLinked, IsRising}
use Rattle.batch_sums.specs.Invariant.{reaches_of, homes_shown, links_of, numbers_held}
use Rattle.batch_sums.specs.Chains.{Chain, Reaches, homes_in}
use Rattle.batch_sums.proofs.ChainSteps.{reach_as}

module _ (batches : List Batch) (some : List Face) (held : List Held)
    (chained : IsChained (reaches_of batches) (homes_shown some held) (links_of held)) where
  -- a batch tells how far its packs reach
  pub newest_of : (number : ℕ) (batch : Batch) → slice_get batches number ≡ Some batch
      → batch.reach ≡ reach_of number (homes_shown some held)
  newest_of number batch at =
      sym (get_or_from_slice_get (reaches_of batches) number batch.reach 0
      (slice_get-map (λ (b : Batch). b.reach) batches number
      ∙ ap (option_map (λ (b : Batch). b.reach)) at))
      ∙ chained.newest number
      (omega (
        arith,
        slice_get_within batches number batch at,
        length-map batches (λ (b : Batch). b.reach),
      ))

  abbrev pub chain_of : IsRising (numbers_held held) → ℕ → Chain held
  chain_of rising batch =
      record { batch = batch; some = some; rising = rising; linked = chained.linked }

  -- so it is of packs that are the same
  module _ (packs : List Held) (same : packs ≡ held) (rising : IsRising (numbers_held held))
      (number newest : ℕ) (is : newest ≡ reach_of number (homes_shown some held)) where
    pub begun : (chain : Chain packs) × (newest ≡ reach_of chain.batch (homes_in packs chain))
    begun = subst (λ ps. (chain : Chain ps) × (newest ≡ reach_of chain.batch (homes_in ps chain)))
        (sym same) (chain_of rising number, is)

    pub reached : (chain : Chain packs) × Reaches packs chain newest
    reached = subst (λ ps. (chain : Chain ps) × Reaches ps chain newest) (sym same)
        (chain_of rising number, reach_as held (chain_of rising number) newest is)

    pub linked_behind : (links : Links)
        → ((chain : Chain packs) → newest ≡ reach_of chain.batch (homes_in packs chain)
        → IsLinked chain.batch (homes_in packs chain) links)
        → IsLinked number (homes_shown some held) links
    linked_behind links told =
        subst (λ ps. (chain : Chain ps) → newest ≡ reach_of chain.batch (homes_in ps chain)
        → IsLinked chain.batch (homes_in ps chain) links) same told (chain_of rising number) is
