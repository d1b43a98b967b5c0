-- The order in which groups are found by their keys, and what a group that is opened makes of it.
use Rattle.std.specs.Prelude.{◌^◌, ◌≡◌, ℕ, pos, ◌<◌, ◌≤◌, ◌≤ℤ◌, ◌==◌, List, [], ◌∷◌, ◌++◌, length, count_by, Some}
use Rattle.std.specs.List.{All, slice_get}
use Rattle.hall_limits.specs.declared.TheConstants.{MAX_DAY}
use Rattle.pack_groups.specs.declared.group.Group.{Group}
use Rattle.pack_groups.specs.declared.group.Key.{Key}
use Rattle.pack_groups.specs.Rising.{IsRising}
use Rattle.pack_groups.specs.Groups.{Face, face_of, nth_face, nth_rank}

-- a key's numbers are within their ranges
pub record IsKey (face : Face) : Type 0 where
  pub day : pos face.key.day ≤ℤ MAX_DAY
  pub batch : face.key.batch < 2 ^ 32

-- the order has each group once, by rising keys that are all different
pub record IsIndex (some : List Face) (order : List ℕ) : Type 0 where
  pub rising : IsRising (nth_rank some) order
  pub within : All (λ place. place < length some) order
  pub once : (place : ℕ) → place < length some → count_by (λ other. other == place) order ≡ 1
  pub distinct : (rank : ℕ) → count_by (λ place. nth_rank some place == rank) order ≤ 1
  pub keys : (place : ℕ) → place < length some → IsKey (nth_face some place)
  pub long : length order ≡ length some

-- the group at a place has a key
abbrev pub HasKey : List Group → ℕ → Key → Type 0
HasKey groups place key =
    (group : Group) × (slice_get groups place ≡ Some group) × (group.key ≡ key)

-- a group without packs was put behind the others
pub record IsOpened (old new : List Group) (place : ℕ) (key : Key) (tare : ℕ) : Type 0 where
  pub group : Group
  pub place_is : place ≡ length old
  pub is : new ≡ old ++ group ∷ []
  pub face : face_of group ≡ record { key = key; tare = tare }
  pub grosses : group.grosses ≡ []
  pub nonstandard : group.nonstandard ≡ 0
  pub inadequate : group.inadequate ≡ 0
