-- What holds of the fields of a register.
use Rattle.std.specs.Prelude.{◌+◌, ◌^◌, ◌<◌, ◌≤◌, vec_len, vec_capacity}
use Rattle.tare_register.specs.declared.tares.Tares.TheInside.{Inside}
use Rattle.tare_register.specs.InOrder.{IsIndex}

-- the order has the places of all entries; and there is room for as many entries more as are spare,
-- and a node for each
pub record IsKept (tares : Inside) : Type 0 where
  pub index : IsIndex tares.entries.items tares.order
  pub room : vec_len tares.entries + tares.spare ≤ vec_capacity tares.entries
  pub nodes : tares.spare ≤ vec_len tares.nodes
  pub few : vec_len tares.entries + tares.spare < 2 ^ 32
