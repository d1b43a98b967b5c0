-- What the paper of a closed batch is.
use Rattle.std.specs.Prelude.{◌≡◌, ◌≤◌, ℕ, List, length, Some, Ok}
use Rattle.book_words.specs.declared.name.Name.{Name}
use Rattle.book_words.specs.declared.act.Entry.{Entry}
use Rattle.book_words.specs.declared.act.BatchState.TheVariants.{Closed}
use Rattle.book_words.specs.Acts.{state_of}
use Rattle.book_words.specs.Verdicts.{verdict_of}
use Rattle.paper_form.specs.declared.types.TheConstants.{MAX_PAPER}
use Rattle.paper_form.specs.Papers.{PaperData, paper_text}
use Rattle.paper_form.specs.Form.{paper_in}
use Rattle.paper_form.specs.Ranges.{IsPaper}
use Rattle.paper_check.specs.Checks.{IsProven}
use Rattle.batch_paper.specs.Written.{paper_of}

-- Some bytes are the paper of a closed batch: the text of what the list says of it. That is the
-- data of a paper, and is read back from the text, which isn't too long. The check of papers finds it
-- true: it has no fault, and the verdict that its lines give, and that it says, is the book's.
pub record IsPaperOf (entries : List Entry) (batch : Name) (bytes : List ℕ) : Type 0 where
  pub closed : state_of entries batch ≡ Some Closed
  pub paper : PaperData
  pub written : paper_of entries batch ≡ Some paper
  pub text : bytes ≡ paper_text paper
  pub short : length bytes ≤ MAX_PAPER
  pub whole : IsPaper paper
  pub read : paper_in bytes ≡ Ok paper
  pub proven : IsProven bytes (verdict_of entries batch)
