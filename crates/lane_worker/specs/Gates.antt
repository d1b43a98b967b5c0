-- What a gate opens for.
use Rattle.std.specs.Prelude.{◌≡◌, ℕ, Bool, true, false, List, [], ◌∷◌, ◌++◌, Option, Some, option_map, Result, Ok, Err, Contains}
use Rattle.pack_judge.specs.declared.types.Signal.TheVariants.{Pass}
use Rattle.book_words.specs.declared.act.Act.{Act}
use Rattle.book_words.specs.declared.act.Act.TheVariants.{Weigh}
use Rattle.book_words.specs.Desks.{Row}

-- whether an act is a weighing
abbrev pub is_weighing : Act → Bool
is_weighing (Weigh lane gross prior) = true
is_weighing _ = false

-- some rows hold the weighing of a pack, and it passed
pub record HasPassed (rows : List Row) (pack : ℕ) : Type 0 where
  pub row : Row
  pub among : Contains rows row
  pub number : row.number ≡ pack
  pub weighing : is_weighing row.entry.act ≡ true
  pub signal : row.entry.signal ≡ Some Pass

-- some packs more, where those before are told
abbrev pub with_packs : List ℕ → Option (List ℕ) → Option (List ℕ)
with_packs more packs = option_map (λ some. some ++ more) packs

-- a gate opened for a pack; where it failed it opened for none
abbrev pub OpensFor : {T E : Type 0} → Option (List ℕ) → Option (List ℕ) → ℕ → Result T E → Type 0
OpensFor was now pack (Ok done) = now ≡ with_packs (pack ∷ []) was
OpensFor was now pack (Err error) = now ≡ was

-- a gate in memory: the packs for which it opened, the room that it has, the calls made, the numbers
-- of those that fail, the faults counted
pub record GateState : Type 0 where
  pub opened : List ℕ
  pub room : ℕ
  pub calls : ℕ
  pub fails : List ℕ
  pub faults : ℕ
