-- What a reading has of a paper, and why it goes no further.
use Rattle.std.specs.Prelude.{◌≡◌, ⊤, ℕ, ◌+◌, length, Bool, false, Option, None, Result, Err}
use Rattle.paper_form.specs.declared.reading.Reading.{Reading}
use Rattle.paper_form.specs.declared.reading.Paper.{Paper}
use Rattle.paper_form.specs.declared.types.PaperFault.{PaperFault}
use Rattle.paper_form.specs.declared.types.PaperFault.TheVariants as fault
use Rattle.paper_form.specs.Papers.{PaperData}
use Rattle.paper_form.specs.Form.{Draft}

-- what the lines say that were read
abbrev pub draft_of : Reading → Draft
draft_of reading =
    record {
      stage = reading.stage;
      goods = reading.goods;
      tares = reading.tares.items;
      packs = reading.packs.items;
      draw = reading.draw;
      first = reading.first.items;
      second_word = reading.second_word;
      second = reading.second.items;
      verdict = reading.verdict;
    }

-- how many tares and packs were read, those of samples too
abbrev pub size_of : Draft → ℕ
size_of draft =
    length draft.tares + length draft.packs + length draft.first + length draft.second

-- what a paper says that was read
abbrev pub data_of : Paper → PaperData
data_of paper =
    record {
      goods = paper.goods;
      tares = paper.tares.items;
      packs = paper.packs.items;
      draw = paper.draw;
      first = paper.first.items;
      second_word = paper.second_word;
      second = paper.second.items;
      verdict = paper.verdict;
    }

-- a line isn't taken: a test of it fails, or there is no memory for it
abbrev pub IsRefused : ℕ → Bool → PaperFault → Type 0
IsRefused line test (fault.Line at) = (at ≡ line) × (test ≡ false)
IsRefused line test fault.NoMemory = ⊤
IsRefused line test _ = ⊥

-- a line isn't taken: it isn't the next one, or there is no memory for it
abbrev pub IsUntaken : ℕ → Option Draft → PaperFault → Type 0
IsUntaken line next (fault.Line at) = (at ≡ line) × (next ≡ None)
IsUntaken line next fault.NoMemory = ⊤
IsUntaken line next _ = ⊥

-- a text isn't read: it is no paper, or there is no memory for it
abbrev pub IsUnread : Result PaperData ℕ → PaperFault → Type 0
IsUnread read (fault.Line line) = read ≡ Err line
IsUnread read fault.NoMemory = ⊤
IsUnread read _ = ⊥
