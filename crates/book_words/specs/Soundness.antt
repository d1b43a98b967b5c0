-- What holds of the rows of every book, and of every answer.
use Rattle.std.specs.Prelude.{◌≡◌, ℕ, Bool, true, ◌&&◌, List, is_some, Ok, Err}
use Rattle.std.specs.List.{list_all}
use Rattle.std.specs.Option.{option_and_then}
use Rattle.book_words.specs.declared.act.Ask.{Ask}
use Rattle.book_words.specs.declared.act.Entry.{Entry}
use Rattle.book_words.specs.declared.act.Reading.{Reading}
use Rattle.book_words.specs.declared.reply.Answered.{Answered}
use Rattle.book_words.specs.declared.reply.Refused.{Refused}
use Rattle.book_words.specs.Acts.{nominal_of, product_of}
use Rattle.book_words.specs.Readings.{readings, tare_of_reading}
use Rattle.book_words.specs.Answers.{answer, IsLegal}
use Rattle.book_words.specs.Balance.{IsBalanced, EachMoves, VerdictsStay}

-- a reading has a tare on its day, and a batch whose product has a nominal quantity
abbrev pub has_tare_and_nominal : List Entry → Reading → Bool
has_tare_and_nominal entries reading =
    is_some (tare_of_reading entries reading.batch reading.day)
    && is_some (option_and_then
    (λ batch. option_and_then (nominal_of entries) (product_of entries batch)) reading.batch)

-- so has each reading of a list: no net and no class is told by a default
abbrev pub TaresKnown : List Entry → Type 0
TaresKnown entries = list_all (has_tare_and_nominal entries) (readings entries) ≡ true

-- sound rows: each is lawful behind those before it, the piles add up, each row moves the packs
-- only as it may, each reading has a tare and a nominal quantity, and each verdict stays
pub record IsSound (rows : List Entry) : Type 0 where
  pub legal : IsLegal rows
  pub balanced : IsBalanced rows
  pub moves : EachMoves rows
  pub tares : TaresKnown rows
  pub verdicts : VerdictsStay rows

-- an answer that the book gives to some ask over some legal list
pub record IsAnswer (answered : Answered) : Type 0 where
  pub limit : ℕ
  pub entries : List Entry
  pub ask : Ask
  pub legal : IsLegal entries
  pub given : answer limit entries ask ≡ Ok answered

-- a refusal that the book gives to some ask over some legal list
pub record IsRefusal (refused : Refused) : Type 0 where
  pub limit : ℕ
  pub entries : List Entry
  pub ask : Ask
  pub legal : IsLegal entries
  pub given : answer limit entries ask ≡ Err refused
