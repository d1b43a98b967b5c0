-- What holds of the fields of the sums.
use Rattle.std.specs.Prelude.{◌^◌, ◌≡◌, ℕ, ◌+◌, ◌<◌, ◌≤◌, not, ◌==◌, List, length, map, count_by, vec_len, vec_capacity}
use Rattle.std.specs.declared.vec.Vec.{Vec}
use Rattle.std.specs.declared.alloc.Global.{Global}
use Rattle.balanced_tree.specs.Trees.{items, IsBalanced}
use Rattle.batch_sums.specs.declared.sums.BatchSums.TheInside.{Inside}
use Rattle.balanced_tree.specs.declared.tree.Tree.{Tree}
use Rattle.pack_groups.specs.declared.batch.Batch.{Batch}
use Rattle.pack_groups.specs.declared.group.Group.{Group}
use Rattle.batch_sums.specs.declared.types.Held.{Held}
use Rattle.batch_sums.specs.declared.types.Links.{Links}
use Rattle.batch_sums.specs.declared.types.Pack.{Pack}
use Rattle.pack_groups.specs.Groups.{Face, faces}
use Rattle.pack_groups.specs.Population.{is_counted}
use Rattle.pack_groups.specs.Index.{IsIndex}
use Rattle.batch_sums.specs.Kept.{Sound, IsChained, IsRising, IsTallied, seen}

-- how many packs count for a population, and how many don't
abbrev pub inside : List Held → ℕ
inside held = count_by (λ pack. is_counted pack.pile) held

abbrev pub outside : List Held → ℕ
outside held = count_by (λ pack. not (is_counted pack.pile)) held

-- how far the packs of each batch reach
abbrev pub reaches_of : List Batch → List ℕ
reaches_of batches = map (λ batch. batch.reach) batches

-- the batch of each pack
abbrev pub homes_of : List Pack → List ℕ
homes_of packs = map (λ pack. pack.batch) packs

-- the batches that packs show
abbrev pub homes_shown : List Face → List Held → List ℕ
homes_shown some held = homes_of (map (seen some) held)

-- how each pack is linked
abbrev pub links_of : List Held → List Links
links_of held = map (λ pack. pack.links) held

-- the number of each pack
abbrev pub numbers_held : List Held → List ℕ
numbers_held held = map (λ pack. pack.number) held

-- there is room for as many packs and batches more as are spare; a pack outside a population keeps
-- a node for it, and each node that is in use has a place to come back to
pub record IsRoomy (held : List Held) (sums : Inside) : Type 0 where
  pub batches : vec_len sums.batches + sums.spare ≤ vec_capacity sums.batches
  pub groups : vec_len sums.groups + sums.spare ≤ vec_capacity sums.groups
  pub packs : vec_len sums.packs + sums.spare ≤ vec_capacity sums.packs
  pub nodes : outside held + sums.spare ≤ vec_len sums.gross_nodes
  pub back : vec_len sums.gross_nodes + inside held ≤ vec_capacity sums.gross_nodes
  pub order_nodes : sums.spare ≤ vec_len sums.order_nodes
  pub few_batches : vec_len sums.batches + sums.spare < 2 ^ 32
  pub few_packs : vec_len sums.packs + sums.spare < 2 ^ 32

-- the lists fit together
pub record IsSettled (batches : List Batch) (groups : List Group) (order : Tree ℕ)
    (held : List Held) : Type 0 where
  pub sound : Sound batches groups held
  pub balanced : IsBalanced order
  pub index : IsIndex (faces groups) (items order)
  pub used : (place : ℕ) → place < length groups → 0 < count_by (λ pack. pack.group == place) held
  pub small : length groups ≤ length held
  pub rising : IsRising (numbers_held held)
  pub chained : IsChained (reaches_of batches) (homes_shown (faces groups) held) (links_of held)

pub record IsKept (sums : Inside) : Type 0 where
  pub settled : IsSettled sums.batches.items sums.groups.items sums.order sums.packs.items
  pub room : IsRoomy sums.packs.items sums
  pub tallied : IsTallied sums.piles sums.packs.items

-- a vector that has the same items, and room for no fewer
pub record HasGrown {T : Type 0} (old new : Vec T Global) : Type 0 where
  pub same : new.items ≡ old.items
  pub long : vec_len new ≡ vec_len old
  pub room : vec_capacity old ≤ vec_capacity new
