-- What the calls of a disk do to what it reads, and what a crash may leave of it.
use Rattle.std.specs.Prelude.{◌≡◌, ◌⊎◌, ℕ, ◌+◌, ◌<◌, ◌≤◌, max, List, ◌++◌, length, take, drop, slice_index, Option, Some, Result, OnOk, OnErr}

-- where the bytes are told, this holds of them
abbrev pub WhereTold : Option (List ℕ) → (List ℕ → Type 0) → Type 0
WhereTold told P = (bytes : List ℕ) → told ≡ Some bytes → P bytes

-- the old bytes with these at this place
abbrev pub overwritten : List ℕ → ℕ → List ℕ → List ℕ
overwritten old place bytes = take place old ++ bytes ++ drop (place + length bytes) old

-- After a write of so many bytes that may have been cut short, the old bytes outside of its range
-- are as they were. What is longer than before is no longer than `most`.
pub record Torn (place count most : ℕ) (old new : List ℕ) : Type 0 where
  pub outside : (k : ℕ) → k < length old → (k < place) ⊎ (place + count ≤ k)
      → slice_index new k ≡ slice_index old k
  pub no_shorter : length old ≤ length new
  pub no_longer : length new ≤ max (length old) most

-- a crash leaves these bytes and nothing else
abbrev pub Only : List ℕ → (List ℕ → Type 0) → Type 0
Only bytes image = (c : List ℕ) → image c → c ≡ bytes

-- a crash leaves nothing that it might not have left before
abbrev pub AddsNoImage : (List ℕ → Type 0) → (List ℕ → Type 0) → Type 0
AddsNoImage old new = (c : List ℕ) → new c → old c

-- what a crash leaves is what it might have left before, after a step
abbrev pub Follows : (List ℕ → List ℕ → Type 0) → (List ℕ → Type 0) → (List ℕ → Type 0) → Type 0
Follows step old new = (c : List ℕ) → new c → (d : List ℕ) × old d × step d c

-- Time goes on: a crash since t may have left what it may have left before, or what it may leave
-- now.
pub record Elapses (before now : ℕ) (past since : ℕ → List ℕ → Type 0)
    (image : List ℕ → Type 0) : Type 0 where
  pub later : before ≤ now
  pub nothing_else : (t : ℕ) (c : List ℕ) → t ≤ before → since t c → past t c ⊎ image c
  pub keeps : (t : ℕ) (c : List ℕ) → t ≤ before → past t c → since t c

-- A write: at an Ok the disk reads the new bytes at their place; at a failure its range may read as
-- anything. Each image is an image from before with its range torn, no longer than that one or than
-- what the disk now reads.
pub record Writes {T E : Type 0} (place : ℕ) (bytes : List ℕ) (result : Result T E)
    (old : List ℕ) (told : Option (List ℕ)) (before after : List ℕ → Type 0) : Type 0 where
  pub now : List ℕ
  pub told_now : told ≡ Some now
  pub done : OnOk result (now ≡ overwritten old place bytes)
  pub cut_short : OnErr result (Torn place (length bytes) (place + length bytes) old now)
  pub images : Follows (Torn place (length bytes) (length now)) before after
