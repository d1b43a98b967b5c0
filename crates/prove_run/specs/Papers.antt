-- What the proving of one paper ends in, and what it writes.
use Rattle.std.specs.Prelude.{◌≡◌, ℕ, List, [], ◌++◌, codes, Option, Some, None}
use Rattle.book_words.specs.declared.views.Verdict.{Verdict}
use Rattle.book_texts.specs.Words.{verdict_text}
use Rattle.text_streams.specs.Streams.{Stream, WroteAll, IsCutIn}
use Rattle.text_streams.specs.declared.whole.Unread.{Unread}
use Rattle.text_streams.specs.declared.whole.Unread.TheVariants as unread
use Rattle.paper_check.specs.Checks.{IsProven, HasFault}
use Rattle.paper_form.specs.declared.types.PaperFault.{PaperFault}
use Rattle.paper_form.specs.declared.types.PaperFault.TheVariants as fault
use Rattle.prove_run.specs.declared.types.ProveEnd.{ProveEnd}
use Rattle.prove_run.specs.declared.types.ProveEnd.TheVariants.{Proved, BadLine, ReadFault, WriteFault, NoMemory}

-- the line that says that a paper is true, with its verdict
abbrev pub true_line : Verdict → List ℕ
true_line verdict = codes "true " ++ (verdict_text verdict ++ codes "\n")

-- how proving ends at a fault of a paper: at its line
abbrev pub end_at : PaperFault → ProveEnd
end_at (fault.Line line) = BadLine line
end_at (fault.Tare line) = BadLine line
end_at (fault.Draw line) = BadLine line
end_at (fault.Verdict line) = BadLine line
end_at fault.NoMemory = NoMemory

-- how it ends where the input wasn't read whole: one that is longer than a paper has its fault at 0
abbrev pub end_unread : Unread → ProveEnd
end_unread unread.TooLong = BadLine 0
end_unread unread.Failed = ReadFault
end_unread unread.NoMemory = NoMemory

-- a paper with this verdict is true, and of the line that says so this holds
pub record IsTrue (paper : List ℕ) (Says : List ℕ → Type 0) : Type 0 where
  pub verdict : Verdict
  pub proven : IsProven paper verdict
  pub says : Says (true_line verdict)

-- a paper has a fault at this line
pub record IsFaulty (paper : List ℕ) (line : ℕ) : Type 0 where
  pub fault : PaperFault
  pub has : HasFault paper fault
  pub at_line : end_at fault ≡ BadLine line

-- how proving a paper ends, and what goes out: nothing but the line that says that it is true
abbrev pub ProvesPaper : List ℕ → Stream → Stream → ProveEnd → Type 0
ProvesPaper paper before now Proved = IsTrue paper (WroteAll before now)
ProvesPaper paper before now WriteFault = IsTrue paper (IsCutIn before now [])
ProvesPaper paper before now (BadLine line) = IsFaulty paper line × (now ≡ before)
ProvesPaper paper before now NoMemory = now ≡ before
ProvesPaper paper before now ReadFault = ⊥

-- the line that says that a paper is true went out or was cut, or there was no memory for it
abbrev pub TellsTrue : Verdict → Stream → Stream → ProveEnd → Type 0
TellsTrue verdict before now Proved = WroteAll before now (true_line verdict)
TellsTrue verdict before now WriteFault = IsCutIn before now [] (true_line verdict)
TellsTrue verdict before now NoMemory = now ≡ before
TellsTrue verdict before now _ = ⊥
