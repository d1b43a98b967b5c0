-- What a printer promises.
use Rattle.std.specs.Prelude.{◌≡◌, ℕ, ◌+◌, ◌≤◌, List, ◌++◌, Result, OnOk, OnErr, IsOk, vec_len, vec_capacity}
use Rattle.std.specs.declared.alloc.Global.{Global}
use Rattle.std.specs.declared.alloc.AllocError.{AllocError}
use Rattle.std.specs.declared.vec.Vec.{Vec}

-- a text of at most so many bytes is appended: where there is room for that many it takes no
-- memory, and where memory is refused nothing changes
pub record Prints (old new : Vec ℕ Global) (result : Result (Unit {0}) AllocError)
    (text : List ℕ) (most : ℕ) : Type 0 where
  pub appended : OnOk result (new.items ≡ old.items ++ text)
  pub refused : OnErr result (new.items ≡ old.items)
  pub longest : OnOk result (vec_len new ≤ vec_len old + most)
  pub room : vec_len old + most ≤ vec_capacity old → IsOk result
  pub kept : vec_len old + most ≤ vec_capacity old → vec_capacity new ≡ vec_capacity old
  pub grows : vec_capacity old ≤ vec_capacity new
