-- What always holds of the fields of a table.
use Rattle.std.specs.Prelude.{◌^◌, ◌+◌, ◌<◌, ◌≤◌, vec_len, vec_capacity}
use Rattle.balanced_tree.specs.Trees.{items, IsBalanced}
use Rattle.name_table.specs.declared.table.NameTable.TheInside.{Inside}
use Rattle.name_table.specs.Search.{IsOrder, AreApart}

-- the names are all different, the tree has their numbers in order, and there is room for as many
-- names more as are spare
pub record IsKept (table : Inside) : Type 0 where
  pub balanced : IsBalanced table.order
  pub order : IsOrder table.names.items (items table.order)
  pub apart : AreApart table.names.items
  pub room : vec_len table.names + table.spare ≤ vec_capacity table.names
  pub few : vec_len table.names + table.spare < 2 ^ 32
  pub nodes : table.spare ≤ vec_len table.nodes
