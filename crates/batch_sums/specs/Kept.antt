-- What is kept of the packs, and what always holds of it.
use Rattle.std.specs.Prelude.{◌^◌, ◌≡◌, ℕ, ℤ, pos, ◌+◌, ◌<◌, ◌≤◌, ◌≤ℤ◌, Bool, ◌&&◌, ◌==◌, List, [], ◌∷◌, ◌||◌, length, take, nat_lt, slice_index, slice_index_or, count_by, Some, if◌then◌else◌}
use Rattle.std.specs.List.{All, sum_by, slice_get}
use Rattle.hall_limits.specs.declared.TheConstants.{MAX_GROSS, MAX_TARE}
use Rattle.pack_judge.specs.declared.types.Pile.{Pile}
use Rattle.pack_groups.specs.declared.batch.Batch.{Batch}
use Rattle.pack_groups.specs.declared.batch.PileSums.{PileSums}
use Rattle.pack_groups.specs.declared.group.Group.{Group}
use Rattle.batch_sums.specs.declared.types.Held.{Held}
use Rattle.batch_sums.specs.declared.types.Links.{Links}
use Rattle.pack_groups.specs.Rising.{mass_of}
use Rattle.pack_groups.specs.Population.{is_counted}
use Rattle.batch_sums.specs.Totals.{Terms}
use Rattle.pack_judge.specs.Piles.{same_pile}
use Rattle.batch_sums.specs.declared.types.Pack.{Pack}
use Rattle.pack_groups.specs.Groups.{Face, nth_face, faces, threshold, IsJudged}
use Rattle.pack_groups.specs.Running.{sum_in, pile_sum, one_if_below}

abbrev pub terms_of : Batch → Terms
terms_of batch = record { product = batch.product; limits = batch.limits }

-- a pack as its group shows it
abbrev pub seen : List Face → Held → Pack
seen some held =
    record {
      number = held.number;
      batch = (nth_face some held.group).key.batch;
      day = pos (nth_face some held.group).key.day;
      gross = pos held.gross;
      tare = pos (nth_face some held.group).tare;
      pile = held.pile;
    }

abbrev pub belongs : List Face → ℕ → Held → Bool
belongs some number held = (nth_face some held.group).key.batch == number

-- the number of a pack, where it counts for the population
abbrev pub counted_number : Held → List ℕ
counted_number pack = if is_counted pack.pile then pack.number ∷ [] else []

-- what one pack adds to the sums of a batch: to the count and the gross of a pile, to the tares of
-- the population, and to those below a limit
abbrev pub added_count : List Face → ℕ → Pile → Held → ℕ
added_count some number pile held =
    if belongs some number held && same_pile held.pile pile then 1 else 0

abbrev pub added_gross : List Face → ℕ → Pile → Held → ℕ
added_gross some number pile held =
    if belongs some number held && same_pile held.pile pile then held.gross else 0

abbrev pub added_tare : List Face → ℕ → Held → ℕ
added_tare some number held =
    if belongs some number held && is_counted held.pile
    then (nth_face some held.group).tare
    else 0

abbrev pub added_below : List Face → ℕ → ℤ → Held → ℕ
added_below some number limit held =
    if belongs some number held
    then one_if_below held.pile held.gross (threshold limit (nth_face some held.group).tare)
    else 0

-- the sums of a batch are those of its packs
pub record AddsUp (some : List Face) (held : List Held) (number : ℕ) (batch : Batch) : Type 0 where
  pub count : (pile : Pile) → (pile_sum batch pile).count
      ≡ sum_by (added_count some number pile) held
  pub gross : (pile : Pile) → (pile_sum batch pile).gross
      ≡ sum_by (added_gross some number pile) held
  pub tares : batch.tares ≡ sum_by (added_tare some number) held
  pub nonstandard : batch.nonstandard ≡ sum_by (added_below some number batch.limits.t1) held
  pub inadequate : batch.inadequate ≡ sum_by (added_below some number batch.limits.t2) held

-- whether a pack is one of a group's that counts for the population, and passes a test of its gross
abbrev pub is_member : ℕ → (ℕ → Bool) → Held → Bool
is_member place test held = ((held.group == place) && is_counted held.pile) && test held.gross

-- a group is of a batch that is there, by whose limits its packs are judged, and has the grosses of
-- its packs
pub record IsGroup (batches : List Batch) (held : List Held) (place : ℕ) (group : Group)
    : Type 0 where
  pub batch : Batch
  pub is : slice_get batches group.key.batch ≡ Some batch
  pub product : batch.product ≡ group.key.product
  pub judged : IsJudged batch.limits group
  pub tare : pos group.tare ≤ℤ MAX_TARE
  pub grosses : (test : ℕ → Bool)
      → count_by (λ gross. test (mass_of gross)) group.grosses
      ≡ count_by (is_member place test) held

-- sums by pile are those of some packs
pub record IsTallied (sums : PileSums) (held : List Held) : Type 0 where
  pub count : (pile : Pile) → (sum_in sums pile).count
      ≡ count_by (λ pack. same_pile pack.pile pile) held
  pub gross : (pile : Pile) → (sum_in sums pile).gross
      ≡ sum_by (λ pack. if same_pile pack.pile pile then pack.gross else 0) held

-- how many of the batches that packs have there are up to the last that is this one; 0 where none
-- is
abbrev pub reach_of : ℕ → List ℕ → ℕ
reach_of batch [] = 0
reach_of batch (home ∷ homes) =
    if home == batch || nat_lt 0 (reach_of batch homes) then reach_of batch homes + 1 else 0

-- a reach among the batches that packs have: up to a last that is this one, or 0
pub record IsReach (batch : ℕ) (homes : List ℕ) (reach : ℕ) : Type 0 where
  pub within : reach ≤ length homes
  pub reached : reach_of batch (take reach homes) ≡ reach

-- how many of them are this one
abbrev pub rank_of : ℕ → List ℕ → ℕ
rank_of batch homes = count_by (λ home. home == batch) homes

-- a pack of a batch is linked with those before it: it tells how far they reach, how far some of
-- them do, and how many they are with it
pub record IsLinked (batch : ℕ) (homes : List ℕ) (links : Links) : Type 0 where
  pub before : links.before ≡ reach_of batch homes
  pub skip : IsReach batch homes links.skip
  pub rank : links.rank ≡ rank_of batch homes + 1

-- so is each pack
abbrev pub AreLinked : List ℕ → List Links → Type 0
AreLinked homes links =
    (place : ℕ) (other : Links) → place < length homes
    → IsLinked (slice_index homes place) (take place homes) (slice_index_or links place other)

-- the packs of each batch are chained: the batch tells how far they reach, and each pack is linked
pub record IsChained (reaches homes : List ℕ) (links : List Links) : Type 0 where
  pub within : All (λ home. home < length reaches) homes
  pub newest : (batch : ℕ) → batch < length reaches
      → slice_index reaches batch ≡ reach_of batch homes
  pub linked : AreLinked homes links

-- numbers that rise
abbrev pub IsRising : List ℕ → Type 0
IsRising numbers =
    (place other : ℕ) → place < other → other < length numbers
    → slice_index numbers place < slice_index numbers other

-- batches, groups and packs fit together
pub record Sound (batches : List Batch) (groups : List Group) (held : List Held) : Type 0 where
  pub group : (place : ℕ) (group : Group) → slice_get groups place ≡ Some group
      → IsGroup batches held place group
  pub batch : (number : ℕ) (batch : Batch) → slice_get batches number ≡ Some batch
      → AddsUp (faces groups) held number batch
  pub grouped : All (λ pack. pack.group < length groups) held
  pub light : All (λ pack. pos pack.gross ≤ℤ MAX_GROSS) held
  pub few : length held < 2 ^ 32
