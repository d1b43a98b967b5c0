-- What a printer promises that has room for its text.
use Rattle.std.specs.Prelude.{◌≡◌, ℕ, ◌+◌, ◌≤◌, List, ◌++◌, vec_len, vec_capacity}
use Rattle.std.specs.declared.alloc.Global.{Global}
use Rattle.std.specs.declared.vec.Vec.{Vec}

-- there is room for so many more bytes
abbrev pub HasRoom : Vec ℕ Global → ℕ → Type 0
HasRoom to most = vec_len to + most ≤ vec_capacity to

-- a text of at most so many bytes was appended, and no memory was taken
pub record Appended (old new : Vec ℕ Global) (text : List ℕ) (most : ℕ) : Type 0 where
  pub items : new.items ≡ old.items ++ text
  pub longest : vec_len new ≤ vec_len old + most
  pub capacity : vec_capacity new ≡ vec_capacity old
