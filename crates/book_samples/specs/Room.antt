-- What is kept, and for how many more batches and measurements there is room.
use Rattle.std.specs.Prelude.{ℕ, ◌-◌, min, Option, vec_len, vec_capacity}
use Rattle.std.specs.declared.vec.Vec.{Vec}
use Rattle.std.specs.declared.alloc.Global.{Global}
use Rattle.std.specs.HashMap.{HashMap, spare}
use Rattle.book_words.specs.Samples.{Sample}
use Rattle.book_words.specs.Measures.{Measured}
use Rattle.book_samples.specs.Kept.{Kept}

-- so many more batches, and as many measurements, need no memory
abbrev pub room_for : {S : Type 0} → Vec (Option Sample) Global → HashMap ℕ Measured S → ℕ
room_for batches measured = min (vec_capacity batches - vec_len batches) (spare measured)

-- what is kept by the samples of the batches and by what was measured
abbrev pub kept_by : {S : Type 0} → Vec (Option Sample) Global → HashMap ℕ Measured S → Kept
kept_by batches measured =
    record {
      samples = batches.items;
      measured = measured.entries;
      spare = room_for batches measured;
    }
