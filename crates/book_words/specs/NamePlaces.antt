-- How the bytes of a name stand in its places.
use Rattle.std.specs.Prelude.{ℕ, Bool, ◌&&◌, List, ◌==◌, nat_le, drop, length}
use Rattle.std.specs.List.{list_all}
use Rattle.hall_limits.specs.declared.TheConstants.{NAME_BYTES}

-- so many bytes may make a name: 1 to 32
abbrev pub is_name_length : ℕ → Bool
is_name_length count = nat_le 1 count && nat_le count NAME_BYTES

-- a name has 1 to 32 bytes, and the places behind them hold 0
abbrev pub is_padded : ℕ → List ℕ → Bool
is_padded count places =
    is_name_length count && (length places == NAME_BYTES)
    && list_all (λ byte. byte == 0) (drop count places)
