-- Lemmas on a run that takes bytes.
use Rattle.std.proofs.Common.{◌≡◌, ℕ, ◌+◌, ◌≤◌, true, false, List, [], ◌∷◌, ◌++◌, length, sym, ap, ◌∙◌, arith, append_assoc, append-nil, length-append, Result, Ok, Err, subst}
use Rattle.std.proofs.lemmas.List.{length_push, length-map}
use Rattle.book_words.specs.declared.act.Entry.{Entry}
use Rattle.script_lines.specs.declared.lines.TheConstants.{MAX_LINE}
use Rattle.script_lines.specs.declared.command.Line.{Line}
use Rattle.script_lines.specs.Lines.{has_end, ended_lines, rest_of}
use Rattle.script_lines.specs.Feed.{FeedView, feed_after}
use Rattle.script_lines.specs.Script.{is_good, all_good}
use Rattle.script_lines.proofs.LineLists.{ended_with_line, rest_with_line, ended_with_part, rest_with_part}
use Rattle.store_runs.specs.declared.stop.Stop.{Stop}
use Rattle.store_runs.specs.Books.{BookState}
use Rattle.script_session.specs.Ends.{StopsAtLine, StopsInScript, HasAnswered}
use Rattle.script_session.specs.Outside.{Outside, lane_count}
use Rattle.script_events.specs.Scripts.{ended_lines_of, lines_of, HasLine}
use Rattle.script_run.specs.Reached.{RunState, Reached, ReachedMore, StopsAnyway, StopsAfter, Steps}
use Rattle.script_events.proofs.ScriptLines.{ended_line, ended_of_line, ended_of_part, all_good-push}
use Rattle.script_session.proofs.AnsweredLines.{answered_more, stops_after}
use Rattle.script_session.proofs.WorkedLanes.{same_lanes}

abbrev make : ℕ → List ℕ → FeedView
make ended begun = record { ended = ended; begun = begun }

-- a feed after one more line, and after more of a line
fed_line : (taken part : List ℕ) (feed next : FeedView) → has_end part ≡ false
    → feed ≡ feed_after taken → next ≡ make (feed.ended + 1) []
    → next ≡ feed_after (taken ++ (part ++ 10 ∷ []))
fed_line taken part feed next none fed is =
    let one : length (ended_lines (taken ++ (part ++ 10 ∷ []))) ≡ length (ended_lines taken) + 1 =
    ap length (ended_with_line taken part none)
    ∙ length_push (ended_lines taken) (rest_of taken ++ part) in
    is ∙ ap (λ (f : FeedView). make (f.ended + 1) []) fed ∙ ap (λ n. make n []) (sym one)
    ∙ ap (make (length (ended_lines (taken ++ (part ++ 10 ∷ [])))))
    (sym (rest_with_line taken part))

fed_part : (taken part : List ℕ) (feed next : FeedView) → has_end part ≡ false
    → feed ≡ feed_after taken → next ≡ make feed.ended (feed.begun ++ part)
    → next ≡ feed_after (taken ++ part)
fed_part taken part feed next none fed is =
    is ∙ ap (λ (f : FeedView). make f.ended (f.begun ++ part)) fed
    ∙ ap (λ ls. make (length ls) (rest_of taken ++ part)) (sym (ended_with_part taken part none))
    ∙ ap (make (length (ended_lines (taken ++ part)))) (sym (rest_with_part taken part none))

-- what a line says depends on how many lanes were handed in, and these stay
pub lanes_stay : (book : BookState) (before now : Outside) (taken : List ℕ) (run : RunState)
    → Reached book before now taken run → lane_count now ≡ lane_count before
lanes_stay book before now taken run stands =
    same_lanes before now stands.answered.events stands.answered.worked.worked

-- a good line ends
pub reached_end : (book : BookState) (before old now : Outside) (taken part : List ℕ)
    (run next : RunState) (said : Line) → Reached book before old taken run → has_end part ≡ false
    → said ≡ ended_line (lane_count old) (run.feed.begun ++ part)
    → is_good said ≡ true → next.feed ≡ make (run.feed.ended + 1) []
    → HasAnswered run.book old now next.book (said ∷ [])
    → Reached book before now (taken ++ (part ++ 10 ∷ [])) next
reached_end book before old now taken part run next said stands none says is fed answered =
    let lanes = lane_count before in
    let ended = ended_of_line lanes taken part none in
    let said_is : said ≡ ended_line lanes (rest_of taken ++ part) = says
    ∙ ap (λ n. ended_line n (run.feed.begun ++ part)) (lanes_stay book before old taken run stands)
    ∙ ap (λ (f : FeedView). ended_line lanes (f.begun ++ part)) stands.fed in
    record {
      good = ap all_good ended ∙ all_good-push (ended_lines_of lanes taken)
          (ended_line lanes (rest_of taken ++ part)) stands.good (ap is_good (sym said_is) ∙ is);
      fed = fed_line taken part run.feed next.feed none stands.fed fed;
      short = omega (arith, ap length (rest_with_line taken part));
      answered = subst (HasAnswered book before now next.book) (sym ended)
          (answered_more book run.book next.book before old now (ended_lines_of lanes taken)
          (ended_line lanes (rest_of taken ++ part) ∷ []) stands.answered
          (subst (λ (l : Line). HasAnswered run.book old now next.book (l ∷ [])) said_is answered));
    }

-- more bytes of a line
pub reached_part : (book : BookState) (before old : Outside) (taken part : List ℕ)
    (run next : RunState) → Reached book before old taken run → has_end part ≡ false
    → length (next.feed.begun) ≤ MAX_LINE
    → next.feed ≡ make run.feed.ended (run.feed.begun ++ part) → next.book ≡ run.book
    → Reached book before old (taken ++ part) next
reached_part book before old taken part run next stands none short fed same =
    let ended = ended_of_part (lane_count before) taken part none in
    let now = fed_part taken part run.feed next.feed none stands.fed fed in
    record {
      good = ap all_good ended ∙ stands.good;
      fed = now;
      short = omega (arith, short, ap (λ (f : FeedView). length f.begun) now);
      answered = subst (HasAnswered book before old next.book) (sym ended)
          (subst (λ (b : BookState). HasAnswered book before old b
          (ended_lines_of (lane_count before) taken)) (sym same) stands.answered);
    }

-- a run stops at a line after those that ended
pub stops_there : (book : BookState) (before old now : Outside) (taken : List ℕ) (run : RunState)
    (rows : List Entry) (said line : Line) (stop : Stop)
    (stands : Reached book before old taken run) → said ≡ line
    → StopsAtLine run.book old now rows [] (run.feed.ended + 1) said stop
    → StopsAtLine book before now rows stands.answered.events
    (length (ended_lines_of (lane_count before) taken) + 1) line stop
stops_there book before old now taken run rows said line stop stands is stops =
    let lines = ended_lines_of (lane_count before) taken in
    let number : run.feed.ended + 1 ≡ length lines + 1 =
    omega (
      arith,
      ap (λ (f : FeedView). f.ended) stands.fed,
      length-map (ended_lines taken) (ended_line (lane_count before)),
    ) in
    stops_after book run.book before old now rows lines
    (length lines + 1) line stop stands.answered
    (subst (λ (n : ℕ). StopsAtLine run.book old now rows [] n line stop) number
    (subst (λ (l : Line). StopsAtLine run.book old now rows [] (run.feed.ended + 1) l stop) is stops))

-- that line is the last of what it judged
abbrev pub stops_at_line : (book : BookState) (before old now : Outside) (taken : List ℕ)
    (run : RunState) (rows : List Entry) (said line : Line) (stop : Stop) (judged : List ℕ)
    → Reached book before old taken run
    → lines_of (lane_count before) judged ≡ ended_lines_of (lane_count before) taken ++ line ∷ []
    → said ≡ line
    → StopsAtLine run.book old now rows [] (run.feed.ended + 1) said stop
    → StopsInScript book before now rows stop judged
stops_at_line book before old now taken run rows said line stop judged stands last is stops =
    record {
      lines = ended_lines_of (lane_count before) taken;
      line = line;
      last = last;
      good = stands.good;
      events = stands.answered.events;
      right = stands.answered.right;
      stops = stops_there book before old now taken run rows said line stop stands is stops;
    }

-- so it is whatever follows
pub stops_anyway : (book : BookState) (before old now : Outside) (taken : List ℕ) (run : RunState)
    (rows : List Entry) (said line : Line) (stop : Stop) (judged : List ℕ)
    → Reached book before old taken run
    → lines_of (lane_count before) judged ≡ ended_lines_of (lane_count before) taken ++ line ∷ []
    → ((more : List ℕ) → HasLine (lane_count before) (ended_lines_of (lane_count before) taken)
    line (judged ++ more)) → said ≡ line
    → StopsAtLine run.book old now rows [] (run.feed.ended + 1) said stop
    → StopsAnyway book before now rows stop judged
stops_anyway book before old now taken run rows said line stop judged stands last whole is stops =
    record {
      here = stops_at_line book before old now taken run rows said line stop judged stands
          last is stops;
      whole = whole;
    }

-- two steps are one
pub steps_on : (old between now : Outside) (run run' run'' : RunState) (first next : List ℕ)
    → ReachedMore old between run run' first → ReachedMore between now run' run'' next
    → ReachedMore old now run run'' (first ++ next)
steps_on old between now run run' run'' first next one two = λ book before taken stands.
    subst (λ (bytes : List ℕ). Reached book before now bytes run'') (append_assoc taken first next)
    (two book before (taken ++ first) (one book before taken stands))

-- a step that ends the run ends it whatever was still at hand
pub steps_stop : (old between now : Outside) (run run' : RunState) (rows : List Entry)
    (first next rest : List ℕ) (stop : Stop) → ReachedMore old between run run' first
    → StopsAfter between now run' rows next stop
    → StopsAfter old now run rows (first ++ (next ++ rest)) stop
steps_stop old between now run run' rows first next rest stop one two =
    record {
      judged = first ++ two.judged;
      rest = two.rest ++ rest;
      parts = ap (λ bytes. first ++ (bytes ++ rest)) two.parts
          ∙ ap (λ bytes. first ++ bytes) (append_assoc two.judged two.rest rest)
          ∙ sym (append_assoc first two.judged (two.rest ++ rest));
      some = omega (arith, two.some, length-append first two.judged);
      stops = λ book before taken stands.
          subst (λ (bytes : List ℕ). StopsAnyway book before now rows stop bytes)
          (append_assoc taken first two.judged)
          (two.stops book before (taken ++ first) (one book before taken stands));
    }

-- of a piece a run has taken all but a rest
pub record GoneOver (old now : Outside) (run_before run : RunState) (piece rest : List ℕ) : Type 0 where
  pub first : List ℕ
  pub parts : piece ≡ first ++ rest
  pub on : ReachedMore old now run_before run first

-- so is a last step, whatever it answers
pub steps_last : {T : Type 0} (old between now : Outside) (run run' run'' : RunState)
    (first next : List ℕ) (result : Result T Stop) → ReachedMore old between run run' first
    → Steps between now run' run'' next result
    → Steps old now run run'' (first ++ next) result
steps_last old between now run run' run'' first next (Ok x) one two =
    steps_on old between now run run' run'' first next one two
steps_last old between now run run' run'' first next (Err stop) one two =
    subst (λ (bytes : List ℕ). StopsAfter old now run run''.book.entries (first ++ bytes) stop)
    (append-nil next)
    (steps_stop old between now run run' run''.book.entries first next [] stop one two)
