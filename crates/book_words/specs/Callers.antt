-- What callers of the book see of it, and what an ask changes.
use Rattle.std.specs.Prelude.{◌≡◌, true, ℕ, ◌+◌, ◌-◌, ◌^◌, min, List, [], ◌++◌, length, Option, option_map, IsSome, Result, Ok, Err}
use Rattle.std.specs.List.{cons_option}
use Rattle.book_words.specs.declared.act.Ask.{Ask}
use Rattle.book_words.specs.declared.act.Want.{Want}
use Rattle.book_words.specs.declared.act.Want.TheVariants as want
use Rattle.book_words.specs.declared.act.Entry.{Entry}
use Rattle.book_words.specs.declared.reply.Answered.{Answered}
use Rattle.book_words.specs.declared.reply.Refused.{Refused}
use Rattle.book_words.specs.declared.caller.AskError.{AskError}
use Rattle.book_words.specs.declared.caller.AskError.TheVariants as error
use Rattle.book_words.specs.Desks.{Row}
use Rattle.book_words.specs.Views.{takes_memory}
use Rattle.book_words.specs.Answers.{answer, added, IsLegal}

-- what is known of a caller: the list that it has seen, its own entries with their numbers, how
-- many faults of the disk it was answered, the most rows of the book, and the number that its
-- entries bear
pub record Known : Type 0 where
  pub seen : List Entry
  pub mine : List Row
  pub faults : ℕ
  pub limit : ℕ
  pub by : ℕ

-- where a count of faults stands still
abbrev pub FAULTS_END : ℕ
FAULTS_END = 2 ^ 64 - 1

-- the row of the entry that an ask adds behind a list, if any
abbrev pub row_added : ℕ → List Entry → ℕ → Ask → Option Row
row_added limit entries by ask =
    option_map (λ entry. record { number = length entries + 1; entry = entry })
    (added limit entries by ask)

-- the number that an answer names: how many rows it speaks of
abbrev pub number_named : Result Answered Refused → ℕ
number_named (Ok answered) = answered.at
number_named (Err refused) = refused.at

-- an answer to an ask of the caller `by` is right in a list: it is what a book of so many rows
-- answers over the entries `before`, with which the list begins; behind them stands the entry that
-- the ask adds, if any, as that caller's
pub record IsRight (limit by : ℕ) (entries : List Entry) (ask : Ask)
    (given : Result Answered Refused) : Type 0 where
  pub before : List Entry
  pub after : List Entry
  pub parts : entries ≡ before ++ cons_option (added limit before by ask) after
  pub answered : answer limit before ask ≡ given

-- a caller has an answer: it is right in what the caller has then seen, over entries that begin with
-- what it had seen before, and the entry that the ask adds is its own from now on
pub record HasAnswer (was now : Known) (ask : Ask) (given : Result Answered Refused) : Type 0 where
  pub right : IsRight was.limit was.by now.seen ask given
  pub unseen : List Entry
  pub grows : right.before ≡ was.seen ++ unseen
  pub mine : now.mine ≡ was.mine ++ cons_option (row_added was.limit right.before was.by ask) []

-- a caller has no answer: it may have seen more, and has no entry more of its own
pub record HasNoAnswer (was now : Known) : Type 0 where
  pub unseen : List Entry
  pub grows : now.seen ≡ was.seen ++ unseen
  pub mine : now.mine ≡ was.mine

-- the entry that an ask would add behind what a caller has seen, if any
abbrev pub entry_offered : Known → Ask → Option Entry
entry_offered known ask = added known.limit known.seen known.by ask

-- what may find no memory: an act that would add an entry, and a question that takes memory
abbrev pub MayFindNoMemory : Want → Option Entry → Type 0
MayFindNoMemory (want.Act act) new = IsSome new
MayFindNoMemory (want.Question question) new = takes_memory question ≡ true

-- what an answer says of what the caller has seen: the disk fails only where an entry would be
-- added, so never at a question, a repeat or a refused act
abbrev pub Says : Known → Known → Ask → Result Answered AskError → Type 0
Says was now ask (Ok answered) = HasAnswer was now ask (Ok answered)
Says was now ask (Err (error.Refused refused)) = HasAnswer was now ask (Err refused)
Says was now ask (Err error.DiskFault) = HasNoAnswer was now × IsSome (entry_offered now ask)
Says was now ask (Err error.NoMemory) =
    HasNoAnswer was now × MayFindNoMemory ask.want (entry_offered now ask)

-- how many faults of the disk an answer tells
abbrev pub faults_told : Result Answered AskError → ℕ
faults_told (Err error.DiskFault) = 1
faults_told _ = 0

-- what an ask makes of what is known: the answer is right, what was seen is legal, each fault is
-- counted, and the limit and the number of the caller stay
pub record IsAsked (was now : Known) (ask : Ask) (given : Result Answered AskError) : Type 0 where
  pub says : Says was now ask given
  pub legal : IsLegal now.seen
  pub faults : now.faults ≡ min (was.faults + faults_told given) FAULTS_END
  pub limit : now.limit ≡ was.limit
  pub by : now.by ≡ was.by

-- `later first last asks` says that the caller `last` is reached from `first` by just these asks,
-- in this order: a caller is reached from itself by none, and by two lists of asks, one after the
-- other, where the first reaches a caller between and the second goes on from there
pub record IsReached {C : Type 0} (later : C → C → List Ask → Type 0) : Type 0 where
  pub by_none : (caller : C) → later caller caller []
  pub by_both : (first between last : C) (some more : List Ask)
      → later first between some → later between last more → later first last (some ++ more)
