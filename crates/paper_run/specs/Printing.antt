-- What is printed where the paper of a batch is asked for.
use Rattle.std.specs.Prelude.{◌≡◌, ℕ, List, length, Option, Some, None}
use Rattle.book_words.specs.declared.name.Name.{Name}
use Rattle.book_words.specs.declared.act.BatchState.{BatchState}
use Rattle.book_words.specs.declared.act.BatchState.TheVariants.{Closed}
use Rattle.book_words.specs.declared.act.Entry.{Entry}
use Rattle.book_words.specs.declared.refusal.Refusal.{Refusal}
use Rattle.book_words.specs.declared.refusal.Refusal.TheVariants as refusal
use Rattle.book_words.specs.Acts.{state_of}
use Rattle.batch_reports.specs.Texts.{refusal_text}
use Rattle.batch_paper.specs.Outcomes.{IsPaperOf}
use Rattle.text_streams.specs.Streams.{Stream}
use Rattle.store_runs.specs.declared.stop.Stop.{Stop}
use Rattle.store_runs.specs.declared.stop.Stop.TheVariants.{NoMemory}
use Rattle.report_run.specs.Printing.{SaysText}

-- the line of a refusal at the length of a list
abbrev pub refused_line : List Entry → Refusal → List ℕ
refused_line entries why = refusal_text (record { at = length entries; refusal = why })

-- What is printed of a batch in this state: the paper of a closed one; else the line that there is
-- no such batch, or that it is in another state.
abbrev pub IsPrintedOf : List Entry → Name → Option BatchState → List ℕ → Type 0
IsPrintedOf entries batch None text = text ≡ refused_line entries refusal.BatchUnknown
IsPrintedOf entries batch (Some Closed) text = IsPaperOf entries batch text
IsPrintedOf entries batch (Some state) text = text ≡ refused_line entries (refusal.BatchState state)

-- the text of a batch went out, or was cut
pub record SaysOf (before now : Stream) (entries : List Entry) (batch : Name) (stop : Stop)
    : Type 0 where
  pub text : List ℕ
  pub printed : IsPrintedOf entries batch (state_of entries batch) text
  pub says : SaysText before now text stop

-- the same, or without memory nothing went out
abbrev pub SaysPaper : List Entry → Name → Stream → Stream → Stop → Type 0
SaysPaper entries batch before now NoMemory = now ≡ before
SaysPaper entries batch before now stop = SaysOf before now entries batch stop
