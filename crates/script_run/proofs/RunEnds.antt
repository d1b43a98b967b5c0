-- Lemmas on how a run ends.
use Rattle.std.proofs.Common.{◌≡◌, ℕ, ◌*◌, ◌<◌, ◌≤◌, false, List, [], ◌∷◌, ◌++◌, length, Option, Some, None, IfSome, Result, Ok, Err, MatchResult, inl, inr, refl, sym, ap, ◌∙◌, append_assoc, append-nil, length-append, subst, arith, lit<}
use Rattle.std.specs.Io.KnownBytes.{Consumes, IsAtEnd}
use Rattle.std.proofs.KnownBytes.{Consumes-whole}
use Rattle.device_facts.specs.Count.{Counted}
use Rattle.disk_core.specs.declared.disk.Disk as disk
use Rattle.book_words.specs.declared.act.Entry.{Entry}
use Rattle.book_store.specs.declared.store.Store.{Store}
use Rattle.book_words.specs.Views.{summary}
use Rattle.script_lines.specs.declared.command.Line.{Line}
use Rattle.script_lines.specs.declared.command.Line.TheVariants.{Nothing, Asks, Works, Bad}
use Rattle.script_lines.specs.Feed.{FeedView, feed_after}
use Rattle.script_lines.specs.Script.{all_good}
use Rattle.script_lines.proofs.LineLists.{ended_lines-few}
use Rattle.batch_reports.specs.Texts.{summary_text}
use Rattle.text_streams.specs.declared.reader.TheConstants.{PIECE}
use Rattle.text_streams.specs.declared.reader.ReadError.{ReadError}
use Rattle.text_streams.specs.declared.reader.ReadError.TheVariants as reading
use Rattle.text_streams.specs.Readers.{ReaderView}
use Rattle.text_streams.specs.Reading.{TakesPiece, TakesNone, HasTaken, ReadsWhole}
use Rattle.text_streams.specs.Streams.{Stream, IsCalm, HasFailed, WroteAll}
use Rattle.text_streams.proofs.ReadingLemmas.{taken_nothing, taken_more, taken_whole, fails_behind}
use Rattle.store_runs.specs.declared.stop.Offer.{Offer}
use Rattle.store_runs.specs.declared.stop.Stop.{Stop}
use Rattle.store_runs.specs.declared.stop.Stop.TheVariants.{Finished, BadLine, ReadFault, WriteFault, DiskFault, NoMemory, Spent}
use Rattle.store_runs.specs.Books.{BookState}
use Rattle.store_runs.specs.Runs.{Goes}
use Rattle.store_runs.proofs.StoreSteps.{stays}
use Rattle.store_runs.specs.Stops.{stop_of}
use Rattle.script_run.specs.declared.script.TheConstants.{MAX_READS}
use Rattle.script_session.specs.Outside.{Outside, Devices, Call, lane_count}
use Rattle.script_events.specs.Scripts.{ended_lines_of, lines_of, HasLine}
use Rattle.script_events.specs.Transcript.{Event, texts}
use Rattle.script_session.specs.Ends.{HaveToldWorks, StopsAtLine, StopsInScript, StopsAtSummary, EndsAtSummary}
use Rattle.script_events.specs.Commands.{AreAnswered}
use Rattle.script_run.specs.Runs.{StopsInInput, StopsAtEnd, IsGoodStill, Explains}
use Rattle.script_run.specs.Reached.{RunState, Reached, Steps, StopsAfter, IsWholeSoFar}
use Rattle.script_run.specs.Books.{HasRead, HasReadWhole}
use Rattle.script_events.proofs.AcknowledgedRows.{lines_done, are_left}
use Rattle.text_streams.proofs.PrintedTexts.{wrote_nothing}
use Rattle.script_session.proofs.AnsweredLines.{job_stops, works_none, works_still, answered_none, wrote_on, cut_on, wrote_still}
use Rattle.script_events.proofs.ScriptLines.{all_good-bad}

-- a call that began with these devices
abbrev pub call_from : {S : Type 0} → Devices S → Devices S → List Entry → Call S
call_from before now rows = record { before = before; now = now; rows = rows }

-- what holds whatever follows the bytes taken holds of all that a source tells
whatever_follows : (a b : Option (List ℕ)) (taken : List ℕ) (Q : List ℕ → Type 0)
    → Consumes a b taken → ((more : List ℕ) → Q (taken ++ more)) → IfSome a Q
whatever_follows None b taken Q read h = tt
whatever_follows (Some xs) None taken Q read h = absurd read
whatever_follows (Some xs) (Some ys) taken Q read h = subst Q (sym read) (h ys)

-- ---- a run that stops at a line

module _ (book : BookState) (before now : Outside) (rows : List Entry) (events : List Event)
    (number : ℕ) where
  -- where a write stopped it, the output failed
  cut_failed : (line : Line) → StopsAtLine book before now rows events number line WriteFault
      → HasFailed before.output now.output
  cut_failed (Asks command) stops = stops.cut.failed
  cut_failed Nothing stops = absurd stops
  cut_failed (Works lane batch) stops = stops.cut.cut.failed
  cut_failed Bad stops = absurd stops

  -- and else the output didn't fail
  bad_calm : (named : ℕ) (line : Line)
      → StopsAtLine book before now rows events number line (BadLine named)
      → IsCalm before.output now.output
  bad_calm named Bad stops = stops.1.wrote.calm
  bad_calm named (Asks command) stops = absurd stops.1
  bad_calm named Nothing stops = absurd stops
  bad_calm named (Works lane batch) stops = stops.wrote.calm

  memory_calm : (line : Line) → StopsAtLine book before now rows events number line NoMemory
      → IsCalm before.output now.output
  memory_calm (Asks command) stops = stops.0.wrote.calm
  memory_calm Nothing stops = absurd stops
  memory_calm (Works lane batch) (inl told) = told.wrote.calm
  memory_calm (Works lane batch) (inr stopped) = stopped.wrote.calm
  memory_calm Bad stops = absurd stops

  disk_calm : (offer : Offer) (line : Line)
      → StopsAtLine book before now rows events number line (DiskFault offer)
      → IsCalm before.output now.output
  disk_calm offer (Asks command) stops = stops.0.wrote.calm
  disk_calm offer Nothing stops = absurd stops
  disk_calm offer (Works lane batch) stops = stops.wrote.calm
  disk_calm offer Bad stops = absurd stops

  -- and no line stops it in another way
  never_finished : (line : Line) → StopsAtLine book before now rows events number line Finished → ⊥
  never_finished (Asks command) stops = stops.1
  never_finished Nothing stops = stops
  never_finished (Works lane batch) stops = job_stops _ lane batch stops.job Finished stops.works
  never_finished Bad stops = stops

  never_read : (line : Line) → StopsAtLine book before now rows events number line ReadFault → ⊥
  never_read (Asks command) stops = stops.1
  never_read Nothing stops = stops
  never_read (Works lane batch) stops = job_stops _ lane batch stops.job ReadFault stops.works
  never_read Bad stops = stops

  never_spent : (line : Line) → StopsAtLine book before now rows events number line Spent → ⊥
  never_spent (Asks command) stops = stops.1
  never_spent Nothing stops = stops
  never_spent (Works lane batch) stops = job_stops _ lane batch stops.job Spent stops.works
  never_spent Bad stops = stops

-- a script in which a run stops at a bad line has one
bad_stops : (book : BookState) (before now : Outside) (rows : List Entry) (events : List Event)
    (number named : ℕ) (lines more : List Line) (line : Line)
    → StopsAtLine book before now rows events number line (BadLine named)
    → all_good (lines ++ line ∷ more) ≡ false
bad_stops book before now rows events number named lines more Bad stops = all_good-bad lines more
bad_stops book before now rows events number named lines more Nothing stops = absurd stops
bad_stops book before now rows events number named lines more (Works lane batch) stops =
    absurd (job_stops _ lane batch stops.job (BadLine named) stops.works)
bad_stops book before now rows events number named lines more (Asks command) stops = absurd stops.1

-- so has the whole script
whole_bad : (lanes : ℕ) (left : Option (List ℕ)) (lines : List Line) (line : Line)
    → ((more : List Line) → all_good (lines ++ line ∷ more) ≡ false)
    → IfSome left (HasLine lanes lines line)
    → IfSome left (λ script. all_good (lines_of lanes script) ≡ false)
whole_bad lanes None lines line bad has = tt
whole_bad lanes (Some script) lines line bad has = ap all_good has.parts ∙ bad has.more

-- what a run stops at in its input explains the call
explain : {S : Type 0} (book : BookState) (call : Call S) (stop : Stop)
    → StopsInInput book call stop → IsCalm call.before.input call.now.input
    → Explains book call stop
explain book call (BadLine named) stops calm =
    let here = stops.stops in
    record {
      stops = stops;
      cause = whole_bad (lane_count call.before.outside) call.before.input.bytes here.lines
          here.line
          (λ more. bad_stops book call.before.outside call.now.outside call.rows here.events _ named
          here.lines more here.line here.stops) stops.whole;
      calm = calm;
      output_calm = bad_calm book call.before.outside call.now.outside call.rows here.events _ named
          here.line here.stops;
    }
explain book call WriteFault stops calm =
    record {
      stops = inl stops;
      cause =
          cut_failed book call.before.outside call.now.outside call.rows _ _ stops.stops.line
          stops.stops.stops;
      calm = calm;
    }
explain book call NoMemory stops calm =
    record {
      stops = inl stops;
      calm = calm;
      output_calm =
          memory_calm book call.before.outside call.now.outside call.rows _ _ stops.stops.line
          stops.stops.stops;
    }
explain book call (DiskFault offer) stops calm =
    record {
      stops = inl stops;
      calm = calm;
      output_calm =
          disk_calm book call.before.outside call.now.outside call.rows _ _ offer stops.stops.line
          stops.stops.stops;
    }
explain book call Finished stops calm =
    absurd (never_finished book call.before.outside call.now.outside call.rows _ _ stops.stops.line
    stops.stops.stops)
explain book call ReadFault stops calm =
    absurd (never_read book call.before.outside call.now.outside call.rows _ _ stops.stops.line
    stops.stops.stops)
explain book call Spent stops calm =
    absurd (never_spent book call.before.outside call.now.outside call.rows _ _ stops.stops.line
    stops.stops.stops)

-- ---- a piece of the input

-- a part of the last piece was judged
stops_early : {S : Type 0} (book : BookState) (call : Call S) (old : Outside) (taken more : List ℕ)
    (run : RunState) (stop : Stop) → length more ≤ PIECE
    → StopsAfter old call.now.outside run call.rows more stop
    → Reached book call.before.outside old taken run
    → Consumes call.before.input.bytes call.now.input.bytes (taken ++ more)
    → StopsInInput book call stop
stops_early book call old taken more run stop small after stands read =
    let over = after.stops book call.before.outside taken stands in
    let follows = λ (more' : List ℕ).
    subst (HasLine (lane_count call.before.outside) over.here.lines over.here.line)
    (append_assoc taken after.judged (after.rest ++ more')
    ∙ ap (λ bytes. taken ++ bytes) (sym (append_assoc after.judged after.rest more'))
    ∙ ap (λ bytes. taken ++ (bytes ++ more')) (sym after.parts)
    ∙ sym (append_assoc taken more more'))
    (over.whole (after.rest ++ more')) in
    record {
      judged = taken ++ after.judged;
      rest = after.rest;
      read = subst (Consumes call.before.input.bytes call.now.input.bytes)
          (ap (λ bytes. taken ++ bytes) after.parts
          ∙ sym (append_assoc taken after.judged after.rest)) read;
      near = omega (
        arith,
        small,
        after.some,
        ap length after.parts,
        length-append after.judged after.rest,
      );
      stops = over.here;
      whole = whatever_follows call.before.input.bytes call.now.input.bytes (taken ++ more)
          (HasLine (lane_count call.before.outside) over.here.lines over.here.line) read follows;
    }

-- a piece of the input was taken
pub explained_after : {T S : Type 0} (book : BookState) (before old now : Devices S)
    (first next : ReaderView) (run run' : RunState) (result : Result T Stop)
    → HasRead book before old first run → TakesPiece old.input now.input first next
    → 0 < length next.piece → Steps old.outside now.outside run run' next.piece result
    → MatchResult result (λ _. HasRead book before now next run')
    (Explains book (call_from before now run'.book.entries))
explained_after book before old now first next run run' (Ok done) has takes some steps =
    record {
      taken = has.taken ++ next.piece;
      read = subst (λ (n : ℕ). HasTaken before.input now.input n (has.taken ++ next.piece))
          (sym takes.counted)
          (taken_more before.input old.input now.input first next first.reads has.taken has.read
          takes some);
      reached = steps book before.outside has.taken has.reached;
    }
explained_after book before old now first next run run' (Err stop) has takes some steps =
    let read = taken_more before.input old.input now.input first next first.reads has.taken has.read
    takes some in
    explain book (call_from before now run'.book.entries) stop
    (stops_early book (call_from before now run'.book.entries) old.outside has.taken next.piece run
    stop takes.few steps has.reached read.read) read.calm

-- ---- the end of the input

-- the last line of the whole script stopped the run
stops_at_end : {S : Type 0} (book : BookState) (call : Call S) (script : List ℕ) (stop : Stop)
    → StopsInScript book call.before.outside call.now.outside call.rows stop script
    → ReadsWhole call.before.input call.now.input script → StopsInInput book call stop
stops_at_end book call script stop stops reads =
    record {
      judged = script;
      rest = [];
      read = subst (Consumes call.before.input.bytes call.now.input.bytes)
          (sym (append-nil script)) reads.read;
      near = lit< tt;
      stops = stops;
      whole = Consumes-whole call.before.input.bytes call.now.input.bytes script
          (HasLine (lane_count call.before.outside) stops.lines stops.line) reads.read reads.at_end
          (record { more = []; parts = stops.last });
    }

pub explained_last : {S : Type 0} (book : BookState) (before old now : Devices S)
    (first next : ReaderView) (run run' : RunState) (stop : Stop)
    → (has : HasRead book before old first run) → TakesPiece old.input now.input first next
    → next.piece ≡ [] → IsAtEnd now.input.bytes
    → StopsInScript book before.outside now.outside run'.book.entries stop has.taken
    → Explains book (call_from before now run'.book.entries) stop
explained_last book before old now first next run run' stop has takes empty at_end stops =
    let reads = taken_whole before.input old.input now.input first next first.reads has.taken
    has.read takes empty at_end in
    explain book (call_from before now run'.book.entries) stop
    (stops_at_end book (call_from before now run'.book.entries) has.taken stop stops reads)
    reads.calm

pub read_whole : {S : Type 0} (book left : BookState) (before old now : Devices S)
    (first next : ReaderView) (run : RunState)
    → (has : HasRead book before old first run) → TakesPiece old.input now.input first next
    → next.piece ≡ [] → IsAtEnd now.input.bytes
    → IsWholeSoFar book before.outside now.outside has.taken left
    → HasReadWhole book before now left
read_whole book left before old now first next run has takes empty at_end whole =
    record {
      script = has.taken;
      read =
          taken_whole before.input old.input now.input first next first.reads has.taken has.read takes
          empty at_end;
      whole = whole;
    }

-- ---- no piece

-- the bytes taken are good so far and answered
good_still : {S : Type 0} (book : BookState) (before now : Devices S) (taken : List ℕ)
    (run : RunState) → Reached book before.outside now.outside taken run
    → IsGoodStill book (call_from before now run.book.entries) taken
good_still book before now taken run stands =
    let answered = stands.answered in
    record {
      good = record { ended = stands.good; begun = stands.short };
      answers = record {
        answered = record {
          events = answered.events;
          right = answered.right;
          rows_left = are_left book answered.events run.book.entries
              (lines_done book (ended_lines_of (lane_count before.outside) taken) answered.events
              answered.right) (ap (λ (b : BookState). b.entries) answered.left);
        };
        wrote = answered.wrote;
        worked = answered.worked;
      };
    }

pub explained_unread : {S : Type 0} (book : BookState) (before old now : Devices S)
    (reader : ReaderView) (run : RunState) (why : ReadError)
    → HasRead book before old reader run → TakesNone old.input now.input reader why
    → reader.most ≡ MAX_READS → now.outside ≡ old.outside
    → Explains book (call_from before now run.book.entries) (stop_of why)
explained_unread book before old now reader run reading.Failed has none most same =
    fails_behind before.input old.input now.input
    (IsGoodStill book (call_from before now run.book.entries)) reader.reads has.taken has.read
    none.1 none.0
    (good_still book before now has.taken run
    (subst (λ (o : Outside). Reached book before.outside o has.taken run) (sym same) has.reached))
explained_unread book before old now reader run reading.Spent has none most same =
    record {
      taken = has.taken;
      all = subst (λ (s : Stream). HasTaken before.input s MAX_READS has.taken) (sym none.1)
          (subst (λ (n : ℕ). HasTaken before.input old.input n has.taken) (none.0 ∙ most) has.read);
      holds = good_still book before now has.taken run
          (subst (λ (o : Outside). Reached book before.outside o has.taken run)
          (sym same) has.reached);
    }

-- and the store is as it was
pub goes_unread : {D T : Type 0} (g : disk.Ghosts D) (why : ReadError) (store : Store D)
    → Goes {T = T} g (Err (stop_of why)) store store
goes_unread g reading.Failed store = stays g (Err ReadFault) store refl (λ is. absurd (cc))
goes_unread g reading.Spent store = stays g (Err Spent) store refl (λ is. absurd (cc))

-- ---- where a run begins

pub begins : {S : Type 0} (now : Devices S) (reader : ReaderView) (run : RunState)
    → run.feed ≡ feed_after [] → reader.reads ≡ 0 → HasRead run.book now now reader run
begins now reader run fed none =
    record {
      taken = [];
      read = subst (λ (n : ℕ). HasTaken now.input now.input n []) (sym none) (taken_nothing now.input);
      reached = record {
        good = refl;
        fed = fed;
        short = omega arith;
        answered =
            answered_none run.book now.outside;
      };
    }

-- there are no more lines than bytes
pub lines_few : {S : Type 0} (book : BookState) (before now : Devices S) (reader : ReaderView)
    (run : RunState) → HasRead book before now reader run → run.feed.ended ≤ reader.reads * PIECE
lines_few book before now reader run has =
    omega (
      arith,
      ap (λ (f : FeedView). f.ended) has.reached.fed,
      ended_lines-few has.taken,
      has.read.most,
    )

-- a run that had no memory to begin with
pub explained_unbegun : {S : Type 0} (book : BookState) (now : Devices S) (rows : List Entry)
    → rows ≡ book.entries → Explains book (call_from now now rows) NoMemory
explained_unbegun book now rows none =
    record {
      stops = inr (inr (record {
        same = refl;
        told =
            record {
              wrote = wrote_nothing now.outside.output;
              worked = works_none now.outside;
              rows_left = are_left book [] rows tt none;
            };
      }));
      calm = refl;
      output_calm = refl;
    }

-- ---- the end of a run whose lines are all answered

failed_behind : (a b c : Stream) → IsCalm a b → HasFailed b c → HasFailed a c
failed_behind a b c calm failed = subst (λ (n : ℕ). Counted n c.faults 1) calm failed

-- what holds from the moment at which all lines were answered holds behind all that went out
summary_stops : (opened : ℕ) (before old now : Stream) (rows : List Entry) (events : List Event)
    (stop : Stop) → WroteAll before old (texts events) → StopsAtSummary opened old now rows [] stop
    → StopsAtSummary opened before now rows events stop
summary_stops opened before old now rows events WriteFault wrote stops =
    cut_on before old now (texts events) (summary_text (summary rows)) wrote stops
summary_stops opened before old now rows events (DiskFault offer) wrote stops =
    (wrote_still before old now (texts events) wrote stops.0, stops.1)
summary_stops opened before old now rows events NoMemory wrote stops =
    (wrote_still before old now (texts events) wrote stops.0, stops.1)
summary_stops opened before old now rows events Finished wrote stops = absurd stops.1
summary_stops opened before old now rows events (BadLine named) wrote stops = absurd stops.1
summary_stops opened before old now rows events ReadFault wrote stops = absurd stops.1
summary_stops opened before old now rows events Spent wrote stops = absurd stops.1

module _ {S : Type 0} (book left : BookState) (before now : Devices S) (old : Outside)
    (script : List ℕ) (reads : ReadsWhole before.input now.input script)
    (whole : IsWholeSoFar book before.outside old script left) (opened : ℕ)
    (begun : opened ≡ length book.entries) (rows : List Entry) (same : rows ≡ left.entries)
    (still : HaveToldWorks old now.outside []) where
  abbrev answered_whole : AreAnswered book (lines_of (lane_count before.outside) script) rows
  answered_whole = record {
    events = whole.answered.events;
    right = whole.answered.right;
    rows_left = are_left book whole.answered.events rows
        (lines_done book (lines_of (lane_count before.outside) script) whole.answered.events
        whole.answered.right)
        (same ∙ ap (λ (b : BookState). b.entries) whole.answered.left);
  }

  worked_whole : HaveToldWorks before.outside now.outside whole.answered.events
  worked_whole = works_still before.outside old now.outside whole.answered.events
      whole.answered.worked still

  early : (stop : Stop) → StopsAtSummary opened old.output now.outside.output left.entries [] stop
      → StopsAtEnd book (call_from before now rows) stop
  early stop stops =
      let here = subst (λ (n : ℕ). StopsAtSummary n old.output now.outside.output rows [] stop) begun
      (subst (λ (es : List Entry). StopsAtSummary opened old.output now.outside.output es [] stop)
      (sym same) stops) in
      record {
        script = script;
        read = reads;
        good = whole.good;
        ends = record {
          answered = answered_whole;
          stops = summary_stops (length book.entries) before.outside.output old.output
              now.outside.output rows whole.answered.events stop whole.answered.wrote here;
          worked = worked_whole;
        };
      }

  pub explained_end : (stop : Stop)
      → EndsAtSummary opened old.output now.outside.output left.entries stop
      → Explains book (call_from before now rows) stop
  explained_end Finished wrote =
      record {
        script = script;
        read = reads;
        good = whole.good;
        done = record {
          answered = answered_whole;
          wrote = subst (λ (b : BookState). WroteAll before.outside.output now.outside.output
              (texts whole.answered.events ++ summary_text (summary b.entries))) whole.answered.left
              (wrote_on before.outside.output old.output now.outside.output
              (texts whole.answered.events)
              (summary_text (summary left.entries)) whole.answered.wrote wrote);
          worked = worked_whole;
        };
      }
  explained_end WriteFault stops =
      record {
        stops = inr (early WriteFault stops);
        cause = failed_behind before.outside.output old.output now.outside.output
            whole.answered.wrote.calm stops.failed;
        calm = reads.calm;
      }
  explained_end (DiskFault offer) stops =
      record {
        stops = inr (early (DiskFault offer) stops);
        calm = reads.calm;
        output_calm = stops.0.calm ∙ whole.answered.wrote.calm;
      }
  explained_end NoMemory stops =
      record {
        stops = inr (inl (early NoMemory stops));
        calm = reads.calm;
        output_calm = stops.0.calm ∙ whole.answered.wrote.calm;
      }
  explained_end (BadLine named) stops = absurd stops.1
  explained_end ReadFault stops = absurd stops.1
  explained_end Spent stops = absurd stops.1
