-- What reads and writes of a stream give, and what contracts see of the streams that stand here.
use Rattle.std.specs.Prelude.{ℕ, ◌+◌, ◌-◌, ◌^◌, List, length, min, nat_lt, Bool, false, ◌&&◌, ◌==◌, Result, Ok, Err}

-- so many bytes are the end: none, where there was room for one
abbrev pub is_end : ℕ → List ℕ → Bool
is_end count into = count == 0 && nat_lt 0 (length into)

-- a read gave the end
abbrev pub gave_end : {E : Type 0} → Result ℕ E → List ℕ → Bool
gave_end (Ok count) into = is_end count into
gave_end (Err error) into = false

-- the number of the next call: it stands still at the greatest number of 32 bits
abbrev pub next_call : ℕ → ℕ
next_call calls = min (calls + 1) (2 ^ 32 - 1)

-- a source in memory: the bytes left, whether its end was given, the calls made, the numbers of
-- those that fail, the faults counted
pub record Supply : Type 0 where
  pub left : List ℕ
  pub ended : Bool
  pub calls : ℕ
  pub fails : List ℕ
  pub faults : ℕ

-- a source in memory that never fails: the bytes left, and whether its end was given
pub record QuietSupply : Type 0 where
  pub left : List ℕ
  pub ended : Bool

-- a sink in memory: the bytes held, the room that it has, the calls made, the numbers of those that
-- fail, the faults counted
pub record Collection : Type 0 where
  pub held : List ℕ
  pub room : ℕ
  pub calls : ℕ
  pub fails : List ℕ
  pub faults : ℕ

-- a sink in a buffer of a fixed capacity: the bytes held, the capacity, the faults counted
pub record Buffer : Type 0 where
  pub held : List ℕ
  pub capacity : ℕ
  pub faults : ℕ

-- a real source: the reader, whether its end was given, the faults counted
pub record RealSource (R : Type 0) : Type 0 where
  pub reader : R
  pub ended : Bool
  pub faults : ℕ

-- a real sink: the writer, and the faults counted
pub record RealSink (W : Type 0) : Type 0 where
  pub writer : W
  pub faults : ℕ
