-- How a text goes out through a buffer.
use Rattle.std.specs.Prelude.{◌≡◌, ℕ, List, [], ◌++◌}
use Rattle.store_runs.specs.declared.stop.Stop.{Stop}
use Rattle.store_runs.specs.declared.stop.Stop.TheVariants.{Finished, WriteFault, NoMemory}
use Rattle.text_streams.specs.Streams.{Stream, WroteAll, IsCutIn}

-- What went out of a text where its printing stopped so: finished, all of it did; at a fault of the
-- output it was cut, and less than all did; without memory nothing did. It stops in no other way.
abbrev pub SaysText : Stream → Stream → List ℕ → Stop → Type 0
SaysText before now text Finished = WroteAll before now text
SaysText before now text WriteFault = IsCutIn before now [] text
SaysText before now text NoMemory = now ≡ before
SaysText before now text _ = ⊥

-- A text is printed behind what the buffer held: a part went out, the buffer holds what follows it,
-- and this is left.
pub record IsPrinting (before now : Stream) (held holds left text : List ℕ) : Type 0 where
  pub out : List ℕ
  pub wrote : WroteAll before now out
  pub whole : out ++ (holds ++ left) ≡ held ++ text

-- all of a text was printed behind what the buffer held: the buffer holds what didn't go out
abbrev pub HasPrinted : Stream → Stream → List ℕ → List ℕ → List ℕ → Type 0
HasPrinted before now held holds text = IsPrinting before now held holds [] text
