-- The packs of a batch, as they are walked back by their links.
use Rattle.std.specs.Prelude.{◌≡◌, ℕ, ◌+◌, ◌<◌, ◌≤◌, List, map, take, slice_index}
use Rattle.pack_groups.specs.Groups.{Face}
use Rattle.batch_sums.specs.declared.types.Held.{Held}
use Rattle.batch_sums.specs.declared.types.Links.{Links}
use Rattle.batch_sums.specs.declared.types.Pack.{Pack}
use Rattle.batch_sums.specs.Totals.{of_batch}
use Rattle.batch_sums.specs.Asked.{numbers_of}
use Rattle.batch_sums.specs.Kept.{seen, rank_of, IsReach, AreLinked, IsRising}
use Rattle.batch_sums.specs.Invariant.{homes_shown, links_of, numbers_held}

-- packs that are linked, and a batch of theirs
pub record Chain (held : List Held) : Type 0 where
  pub batch : ℕ
  pub some : List Face
  pub rising : IsRising (numbers_held held)
  pub linked : AreLinked (homes_shown some held) (links_of held)

-- the packs, and their batches
abbrev pub packs_in : (held : List Held) → Chain held → List Pack
packs_in held chain = map (seen chain.some) held

abbrev pub homes_in : (held : List Held) → Chain held → List ℕ
homes_in held chain = homes_shown chain.some held

-- so many packs reach up to one of the batch, or none do
abbrev pub Reaches : (held : List Held) → Chain held → ℕ → Type 0
Reaches held chain reach = IsReach chain.batch (homes_in held chain) reach

-- how many of so many packs are of the batch, and their numbers
abbrev pub rank_to : (held : List Held) → Chain held → ℕ → ℕ
rank_to held chain reach = rank_of chain.batch (take reach (homes_in held chain))

abbrev pub numbers_to : (held : List Held) → Chain held → ℕ → List ℕ
numbers_to held chain reach = numbers_of (of_batch chain.batch (take reach (packs_in held chain)))

-- links of the last of so many packs
pub record StandsAt (batch : ℕ) (homes : List ℕ) (reach : ℕ) (links : Links) : Type 0 where
  pub rank : links.rank ≡ rank_of batch (take reach homes)
  pub before : IsReach batch homes links.before
  pub skip : IsReach batch homes links.skip
  pub back : 0 < reach → (links.before < reach) × (links.skip < reach)
  pub one : 0 < reach → links.rank ≡ rank_of batch (take links.before homes) + 1
  pub between : (place : ℕ) → links.before ≤ place → place + 1 < reach
      → slice_index homes place ≡ batch → ⊥

-- a step or more back: the packs of the batch that are left behind have numbers above one
pub record IsBack (held : List Held) (chain : Chain held) (number from to : ℕ) : Type 0 where
  pub reach : Reaches held chain to
  pub less : to ≤ from
  pub above : (place : ℕ) → to ≤ place → place < from
      → slice_index (homes_in held chain) place ≡ chain.batch
      → number < slice_index (numbers_held held) place

-- so many packs have no number above one
abbrev pub AreUpTo : (held : List Held) → ℕ → ℕ → Type 0
AreUpTo held number reach =
    (place : ℕ) → place < reach → slice_index (numbers_held held) place ≤ number
