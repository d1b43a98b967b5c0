-- The order in which the register looks entries up: by product, in it by day, and those of one
-- product and day as they were put.
use Rattle.std.specs.Prelude.{◌≡◌, ℕ, ℤ, pos, IsTrue, not, ◌^◌, ◌<◌, ◌≤◌, Bool, ◌&&◌, ◌||◌, ◌==◌, List, [], ◌∷◌, map, length, take, drop, nat_lt, int_le, slice_index_or}
use Rattle.std.specs.List.{All, list_all}
use Rattle.balanced_tree.specs.declared.tree.Tree.{Tree}
use Rattle.balanced_tree.specs.Trees.{items, IsBalanced}
use Rattle.tare_register.specs.declared.types.ProductTare.{ProductTare}
use Rattle.tare_register.specs.declared.types.ProductDay.{ProductDay}
use Rattle.pack_judge.specs.Tares.{deciding_tare}
use Rattle.tare_register.specs.Tares.{tares_of, next_day, entry_of}

-- the product and day that an entry is for
abbrev pub key_of : ProductTare → ProductDay
key_of entry = record { product = entry.product; day = entry.dated.day }

-- whether an entry is up to a product and day: it is for a product of a smaller number, or for that
-- product and dated by that day
abbrev pub is_up_to : ProductDay → ProductTare → Bool
is_up_to key entry =
    nat_lt entry.product key.product
    || ((entry.product == key.product) && int_le entry.dated.day key.day)

-- whether each of some entries is
abbrev pub all_up_to : ProductDay → List ProductTare → Bool
all_up_to key entries = list_all (is_up_to key) entries

-- whether none is
abbrev pub none_up_to : ProductDay → List ProductTare → Bool
none_up_to key entries = list_all (λ entry. not (is_up_to key entry)) entries

-- whether an entry is up to the product and day of each of some others
abbrev pub leads : ProductTare → List ProductTare → Bool
leads entry others = list_all (λ other. is_up_to (key_of other) entry) others

-- each entry leads those behind it
abbrev pub IsInOrder : List ProductTare → Type 0
IsInOrder [] = Unit {0}
IsInOrder (entry ∷ entries) = IsTrue (leads entry entries) × IsInOrder entries

-- so many of the entries are up to a product and day, and the others aren't
pub record IsCut (key : ProductDay) (count : ℕ) (entries : List ProductTare) : Type 0 where
  pub within : count ≤ length entries
  pub before : IsTrue (all_up_to key (take count entries))
  pub behind : IsTrue (none_up_to key (drop count entries))

-- two lists of entries say the same: for each product and day the same tare decides, and the same
-- day comes next
pub record SaysSame (some others : List ProductTare) : Type 0 where
  pub deciding : (product : ℕ) (day : ℤ) →
      deciding_tare (tares_of some product) day ≡ deciding_tare (tares_of others product) day
  pub next : (product : ℕ) (day : ℤ) →
      next_day (tares_of some product) day ≡ next_day (tares_of others product) day

-- what is read where no entry is
abbrev pub no_entry : ProductTare
no_entry = entry_of 0 (pos 0) (pos 0)

-- the entries at some places
abbrev pub entries_at : List ProductTare → List ℕ → List ProductTare
entries_at entries places = map (λ place. slice_index_or entries place no_entry) places

-- a tree of the places of entries, in order
pub record IsOrder (entries : List ProductTare) (order : Tree ℕ) : Type 0 where
  pub balanced : IsBalanced order
  pub few : length (items order) < 2 ^ 32
  pub within : All (λ place. place < length entries) (items order)
  pub in_order : IsInOrder (entries_at entries (items order))

-- the tree of the places of all entries
pub record IsIndex (entries : List ProductTare) (order : Tree ℕ) : Type 0 where
  pub placed : IsOrder entries order
  pub long : length (items order) ≡ length entries
  pub same : SaysSame (entries_at entries (items order)) entries
