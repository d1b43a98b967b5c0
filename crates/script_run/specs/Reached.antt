-- Where a run stands in its script.
use Rattle.std.specs.Prelude.{◌≡◌, ℕ, ◌<◌, ◌≤◌, true, List, ◌++◌, length, Result, MatchResult}
use Rattle.book_words.specs.declared.act.Entry.{Entry}
use Rattle.script_lines.specs.declared.lines.TheConstants.{MAX_LINE}
use Rattle.script_lines.specs.Lines.{rest_of}
use Rattle.script_lines.specs.Feed.{FeedView, feed_after}
use Rattle.script_lines.specs.Script.{all_good}
use Rattle.store_runs.specs.declared.stop.Stop.{Stop}
use Rattle.store_runs.specs.Books.{BookState}
use Rattle.script_session.specs.Ends.{HasAnswered, StopsInScript}
use Rattle.script_session.specs.Outside.{Outside, lane_count}
use Rattle.script_events.specs.Scripts.{ended_lines_of, lines_of, HasLine}

-- a run at one moment: its book, how many lines have ended, and the line that has begun
pub record RunState : Type 0 where
  pub book : BookState
  pub feed : FeedView

-- after these bytes the lines that ended are good, counted and answered, and the one that has begun
-- is kept
pub record Reached (book : BookState) (before now : Outside) (taken : List ℕ)
    (run : RunState) : Type 0 where
  pub good : all_good (ended_lines_of (lane_count before) taken) ≡ true
  pub fed : run.feed ≡ feed_after taken
  pub short : length (rest_of taken) ≤ MAX_LINE
  pub answered : HasAnswered book before now run.book (ended_lines_of (lane_count before) taken)

-- wherever a run stood, it now stands after these bytes too
abbrev pub ReachedMore : Outside → Outside → RunState → RunState → List ℕ → Type 0
ReachedMore old now run_before run bytes =
    (book : BookState) (before : Outside) (taken : List ℕ) → Reached book before old taken run_before
    → Reached book before now (taken ++ bytes) run

-- a run stops at the last line of what it judged, whatever follows
pub record StopsAnyway (book : BookState) (before now : Outside) (rows : List Entry) (stop : Stop)
    (judged : List ℕ) : Type 0 where
  pub here : StopsInScript book before now rows stop judged
  pub whole : (more : List ℕ) → HasLine (lane_count before) here.lines here.line (judged ++ more)

-- wherever a run stood, of these bytes it judged some, and stops at the last line of those
pub record StopsAfter (old now : Outside) (run_before : RunState) (rows : List Entry)
    (bytes : List ℕ) (stop : Stop) : Type 0 where
  pub judged : List ℕ
  pub rest : List ℕ
  pub parts : bytes ≡ judged ++ rest
  pub some : 0 < length judged
  pub stops : (book : BookState) (before : Outside) (taken : List ℕ)
      → Reached book before old taken run_before
      → StopsAnyway book before now rows stop (taken ++ judged)

-- a step over these bytes goes on, or ends the run
abbrev pub Steps : Outside → Outside → RunState → RunState → List ℕ
    → {T : Type 0} → Result T Stop → Type 0
Steps old now run_before run bytes result =
    MatchResult result (λ _. ReachedMore old now run_before run bytes)
    (λ stop. StopsAfter old now run_before run.book.entries bytes stop)

-- all lines of a script are good and answered, and this book is left
pub record IsWholeSoFar (book : BookState) (before now : Outside) (script : List ℕ)
    (left : BookState) : Type 0 where
  pub good : all_good (lines_of (lane_count before) script) ≡ true
  pub answered : HasAnswered book before now left (lines_of (lane_count before) script)
