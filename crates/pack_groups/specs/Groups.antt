-- Groups of packs: one for each batch and day.
use Rattle.std.specs.Prelude.{◌^◌, ◌≡◌, ℕ, ℤ, pos, negsuc, ◌+◌, ◌*◌, ◌≤◌, ◌+ℤ◌, List, count_by, nat_lt, int_lt, max, if◌then◌else◌, map, slice_index_or}
use Rattle.std.specs.List.{All}
use Rattle.annex_tables.specs.declared.types.Limits.{Limits}
use Rattle.hall_limits.specs.declared.TheConstants.{MAX_GROSS}
use Rattle.pack_groups.specs.Rising.{mass_of}
use Rattle.pack_groups.specs.declared.group.Group.{Group}
use Rattle.pack_groups.specs.declared.group.Key.{Key}
use Rattle.pack_groups.specs.declared.days.Days.{Days}
use Rattle.pack_groups.specs.declared.order.Stretch.{Stretch}

-- the place of a key in the order of all keys: by product, in it by day, in it by batch
abbrev pub rank_of : Key → ℕ
rank_of key = (key.product * 2 ^ 32 + key.day) * 2 ^ 32 + key.batch

-- a mass that isn't negative, and 0 for one that is
abbrev pub at_least_0 : ℤ → ℕ
at_least_0 (pos mass) = mass
at_least_0 (negsuc _) = 0

-- the least gross whose net isn't below a limit, among those that a pack may have; one more where
-- there is none
abbrev pub threshold : ℤ → ℕ → ℕ
threshold limit tare =
    if int_lt MAX_GROSS limit
    then at_least_0 MAX_GROSS + 1
    else at_least_0 (limit +ℤ pos tare)

-- a group knows how many of its grosses have a net below each limit
pub record IsJudged (limits : Limits) (group : Group) : Type 0 where
  pub nonstandard : group.nonstandard
      ≡ count_by (λ gross. nat_lt (mass_of gross) (threshold limits.t1 group.tare)) group.grosses
  pub inadequate : group.inadequate
      ≡ count_by (λ gross. nat_lt (mass_of gross) (threshold limits.t2 group.tare)) group.grosses

-- what all packs of a group share: its key and its tare
pub record Face : Type 0 where
  pub key : Key
  pub tare : ℕ

abbrev pub face_of : Group → Face
face_of group = record { key = group.key; tare = group.tare }

abbrev pub faces : List Group → List Face
faces groups = map face_of groups

-- the face of a group that isn't there
abbrev pub no_face : Face
no_face = record { key = record { product = 0; day = 0; batch = 0 }; tare = 0 }

-- the face of the group at a place
abbrev pub nth_face : List Face → ℕ → Face
nth_face some group = slice_index_or some group no_face

-- where the group at a place stands in the order of keys
abbrev pub nth_rank : List Face → ℕ → ℕ
nth_rank some group = rank_of (nth_face some group).key

-- groups of batches from a number on
abbrev pub IsFrom : ℕ → List Face → List ℕ → Type 0
IsFrom batch some groups = All (λ group. batch ≤ (nth_face some group).key.batch) groups

-- how many groups of an order stand before those of a product on a day
abbrev pub groups_before : List Face → List ℕ → ℕ → ℕ → ℕ
groups_before some order product day =
    count_by (λ group. nat_lt (nth_rank some group)
    (rank_of (record { product = product; day = day; batch = 0 }))) order

-- where in an order the groups of a product on some days stand
pub record IsStretch (some : List Face) (order : List ℕ) (product : ℕ) (days : Days)
    (stretch : Stretch) : Type 0 where
  pub first : stretch.first ≡ groups_before some order product days.from
  pub end : stretch.end ≡ max stretch.first (groups_before some order product days.until)
