-- What the check of a paper answers.
use Rattle.std.specs.Prelude.{◌≡◌, ◌≢◌, ⊤, ℕ, List, None, Some, Ok, Err}
use Rattle.book_words.specs.declared.views.Verdict as verdicts
use Rattle.paper_form.specs.declared.types.PaperFault.{PaperFault}
use Rattle.paper_form.specs.declared.types.PaperFault.TheVariants as fault
use Rattle.paper_form.specs.Papers.{PaperData}
use Rattle.paper_form.specs.Form.{paper_in}
use Rattle.paper_check.specs.Judging.{judged}
use Rattle.paper_check.specs.Faults.{tare_fault, draw_fault, verdict_line}

-- a text is a paper with these data
abbrev pub Says : List ℕ → PaperData → Type 0
Says bytes paper = paper_in bytes ≡ Ok paper

-- a text is a paper whose tares and draws are right, and whose lines give this verdict, which is
-- the one that it says
pub record IsProven (bytes : List ℕ) (verdict : verdicts.Verdict) : Type 0 where
  pub paper : PaperData
  pub says : Says bytes paper
  pub tares : tare_fault paper ≡ None
  pub draws : draw_fault paper ≡ None
  pub given : judged paper ≡ verdict
  pub said : paper.verdict ≡ verdict

-- a text is a paper whose first fault of tares is at a line
pub record HasTareFault (bytes : List ℕ) (line : ℕ) : Type 0 where
  pub paper : PaperData
  pub says : Says bytes paper
  pub tares : tare_fault paper ≡ Some line

-- a text is a paper whose tares are right and whose first fault of draws is at a line
pub record HasDrawFault (bytes : List ℕ) (line : ℕ) : Type 0 where
  pub paper : PaperData
  pub says : Says bytes paper
  pub tares : tare_fault paper ≡ None
  pub draws : draw_fault paper ≡ Some line

-- a text is a paper whose tares and draws are right and whose last line says another verdict than
-- its lines give
pub record HasWrongVerdict (bytes : List ℕ) (line : ℕ) : Type 0 where
  pub paper : PaperData
  pub says : Says bytes paper
  pub tares : tare_fault paper ≡ None
  pub draws : draw_fault paper ≡ None
  pub other : judged paper ≢ paper.verdict
  pub last : line ≡ verdict_line paper

-- what is wrong with a text by each fault; of these and of being proven just one holds
abbrev pub HasFault : List ℕ → PaperFault → Type 0
HasFault bytes (fault.Line line) = paper_in bytes ≡ Err line
HasFault bytes (fault.Tare line) = HasTareFault bytes line
HasFault bytes (fault.Draw line) = HasDrawFault bytes line
HasFault bytes (fault.Verdict line) = HasWrongVerdict bytes line
HasFault bytes fault.NoMemory = ⊤
