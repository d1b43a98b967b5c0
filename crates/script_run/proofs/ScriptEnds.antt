-- Lemmas on the end of a script.
use Rattle.std.proofs.Common.{◌+◌, ◌≡◌, true, List, ℕ, [], ◌∷◌, length, refl, sym, ap, ◌∙◌, subst, arith}
use Rattle.book_words.specs.declared.act.Entry.{Entry}
use Rattle.script_lines.specs.declared.command.Line.{Line}
use Rattle.script_lines.specs.Lines.{rest_of}
use Rattle.script_lines.specs.Feed.{FeedView}
use Rattle.script_lines.specs.Script.{is_good}
use Rattle.store_runs.specs.declared.stop.Stop.{Stop}
use Rattle.store_runs.specs.Books.{BookState}
use Rattle.script_session.specs.Ends.{StopsAtLine, StopsInScript, HasAnswered}
use Rattle.script_session.specs.Outside.{Outside, lane_count}
use Rattle.script_events.specs.Scripts.{ended_lines_of}
use Rattle.script_run.specs.Reached.{RunState, Reached, IsWholeSoFar}
use Rattle.script_session.proofs.AnsweredLines.{answered_more}
use Rattle.script_events.proofs.ScriptLines.{last_line_of, line_last, last_line_whole}
use Rattle.script_run.proofs.ByteSteps.{lanes_stay, stops_at_line}

-- a good last line is answered; where none has begun there is nothing to answer
pub whole_last : (book left : BookState) (before old now : Outside) (taken : List ℕ) (run : RunState)
    (said : Line) → Reached book before old taken run → said ≡ last_line_of
    (lane_count old) run.feed.begun
    → is_good said ≡ true
    → HasAnswered run.book old now left (said ∷ []) → IsWholeSoFar book before now taken left
whole_last book left before old now taken run said stands says is answered =
    let lanes = lane_count before in
    let said_is : said ≡ last_line_of lanes (rest_of taken) = says
    ∙ ap (λ n. last_line_of n run.feed.begun) (lanes_stay book before old taken run stands)
    ∙ ap (λ (f : FeedView). last_line_of lanes f.begun) stands.fed in
    let last = last_line_whole lanes taken in
    let all = answered_more book run.book left before old now (ended_lines_of lanes taken)
    (last_line_of lanes (rest_of taken) ∷ []) stands.answered
    (subst (λ (l : Line). HasAnswered run.book old now left (l ∷ [])) said_is answered) in
    record {
      good = last.good stands.good (ap is_good (sym said_is) ∙ is);
      answered = record {
        events = all.events;
        right = last.events book all.events all.right;
        wrote = all.wrote;
        worked = all.worked;
        left = all.left;
      };
    }

stops_where : (book : BookState) (before old now : Outside) (taken rest : List ℕ) (run : RunState)
    (rows : List Entry) (said : Line) (stop : Stop) → rest_of taken ≡ rest
    → Reached book before old taken run
    → said ≡ last_line_of (lane_count before) (rest_of taken)
    → StopsAtLine run.book old now rows [] (run.feed.ended + 1) said stop
    → StopsInScript book before now rows stop taken
stops_where book before old now taken [] run rows said stop none stands says stops =
    absurd (subst (λ (l : Line). StopsAtLine run.book old now rows [] (run.feed.ended + 1) l stop)
    (says ∙ ap (last_line_of (lane_count before)) none) stops)
stops_where book before old now taken (byte ∷ rest) run rows said stop is stands says stops =
    stops_at_line book before old now taken run rows said
    (last_line_of (lane_count before) (rest_of taken)) stop taken stands
    (line_last (lane_count before) taken (omega (arith, ap length is))) says stops

-- a run stops at a last line that lacks its end
pub stops_last : (book : BookState) (before old now : Outside) (taken : List ℕ) (run : RunState)
    (rows : List Entry) (said : Line) (stop : Stop) → Reached book before old taken run
    → said ≡ last_line_of (lane_count old) run.feed.begun
    → StopsAtLine run.book old now rows [] (run.feed.ended + 1) said stop
    → StopsInScript book before now rows stop taken
stops_last book before old now taken run rows said stop stands says stops =
    stops_where book before old now taken (rest_of taken) run rows said stop refl stands
    (says ∙ ap (λ n. last_line_of n run.feed.begun) (lanes_stay book before old taken run stands)
    ∙ ap (λ (f : FeedView). last_line_of (lane_count before) f.begun) stands.fed) stops
