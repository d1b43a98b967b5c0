-- A line that sets a lane to work.
use Rattle.std.proofs.Common.{◌≡◌, inl, inr, ℕ, ◌+◌, ◌<◌, List, [], ◌∷◌, ◌++◌, length, map, get_or, set, Result, Ok, Err, refl, sym, ap, subst, append-nil}
use Rattle.std.specs.Bool.{⊤}
use Rattle.book_words.specs.declared.name.Name.{Name}
use Rattle.script_lines.specs.declared.command.Line.TheVariants.{Works}
use Rattle.job_reports.specs.Texts.{lane_text}
use Rattle.text_streams.specs.Streams.{Stream, WroteAll, IsCutIn}
use Rattle.store_runs.specs.declared.stop.Stop.{Stop}
use Rattle.store_runs.specs.declared.stop.Stop.TheVariants.{Finished, BadLine, ReadFault, WriteFault, DiskFault, NoMemory, Spent}
use Rattle.store_runs.specs.Books.{BookState}
use Rattle.lane_worker.specs.declared.ending.LaneEnd.{LaneEnd}
use Rattle.lane_worker.specs.Works.{Work}
use Rattle.script_events.specs.LaneWorks.{LaneState, IsWorked}
use Rattle.script_session.specs.LaneMoves.{HaveWorked}
use Rattle.script_session.specs.Outside.{LogView, Outside}
use Rattle.script_events.specs.Transcript.{Worked, Job, IsJobAt}
use Rattle.script_session.specs.Ends.{IsWorkStopped, StopsAtLine, HasAnswered}
use Rattle.script_events.proofs.AcknowledgedRows.{are_left}
use Rattle.text_streams.proofs.PrintedTexts.{wrote_nothing}
use Rattle.script_session.proofs.AnsweredLines.{StopsWork, job_stops, told_none}
use Rattle.script_session.proofs.WorkedLanes.{each_once}

-- what stands outside, by its parts
abbrev pub outside : Stream → List LaneState → LogView → Outside
outside output lanes log = record { output = output; lanes = lanes; log = log }

-- there was no memory to tell how a work would end, and it didn't begin
pub stops_unbegun : (book : BookState) (here : Outside) (log : LogView) → log ≡ here.log
    → (number lane : ℕ) (batch : Name)
    → StopsAtLine book here (record { output = here.output; lanes = here.lanes; log = log })
    book.entries [] number (Works lane batch) NoMemory
stops_unbegun book here log same number lane batch =
    subst (λ (l : LogView). StopsAtLine book here
    (record { output = here.output; lanes = here.lanes; log = l }) book.entries [] number
    (Works lane batch) NoMemory) (sym same) (inl (told_none book book here refl))

abbrev job_of : ℕ → Work → LaneEnd → Job
job_of lane work end = record { lane = lane; work = work; end = end }

-- the lane at a place was worked
module _ {L : Type 0} (state : L → LaneState) (book left : BookState) (lanes : List L)
    (other new : L) (place lane : ℕ) (batch : Name) (end : LaneEnd) (step : Result ⊤ Stop)
    (was is : LogView) (within : place < length lanes) (number : lane ≡ 1 + place)
    (told : is.ends ≡ was.ends ++ end ∷ [])
    (worked : IsWorked book left (state (get_or lanes place other)) (state new) lane batch end step)
  where
    is_job : IsJobAt book lane batch (job_of lane worked.work end) step
    is_job = record { same = refl; works = worked.works }

    have_worked : (output now : Stream)
        → HaveWorked (outside output (map state lanes) was)
        (outside now (map state (set lanes place new)) is) (Worked (job_of lane worked.work end) ∷ [])
    have_worked output now =
        record {
          devices = each_once state 1 place lanes other new (job_of lane worked.work end) within number
              worked.moved;
          told = told;
        }

    -- it came to an end of its own, and its line went out
    pub answered_work : (output now : Stream) → step ≡ Ok tt → is.unsaid ≡ was.unsaid
        → WroteAll output now (lane_text lane end)
        → HasAnswered book (outside output (map state lanes) was)
        (outside now (map state (set lanes place new)) is) left (Works lane batch ∷ [])
    answered_work output now goes_on said wrote =
        record {
          events = Worked (job_of lane worked.work end) ∷ [];
          right = (subst (IsJobAt book lane batch (job_of lane worked.work end)) goes_on is_job, refl);
          wrote = subst (WroteAll output now) (sym (append-nil (lane_text lane end))) wrote;
          worked = record { worked = have_worked output now; said = said };
          left = worked.left;
        }

    -- or that line was cut
    cut_work : (output now : Stream) (line : ℕ) → step ≡ Ok tt → is.unsaid ≡ was.unsaid
        → IsCutIn output now [] (lane_text lane end)
        → StopsAtLine book (outside output (map state lanes) was)
        (outside now (map state (set lanes place new)) is) left.entries [] line (Works lane batch)
        WriteFault
    cut_work output now line goes_on said cut =
        record {
          job = (job_of lane worked.work end);
          works = subst (IsJobAt book lane batch (job_of lane worked.work end)) goes_on is_job;
          cut = record {
            cut = cut;
            worked = record { worked = have_worked output now; said = said };
            rows_left = are_left book (Worked (job_of lane worked.work end) ∷ []) left.entries
                (worked.works.numbers, tt)
                (ap (λ (b : BookState). b.entries) worked.left);
          };
        }

    pub stops_line_cut : (output now : Stream) (line : ℕ) (stop : Stop) → step ≡ Ok tt
        → is.unsaid ≡ was.unsaid
        → (stop ≡ WriteFault) × IsCutIn output now [] (lane_text lane end)
        → StopsAtLine book (outside output (map state lanes) was)
        (outside now (map state (set lanes place new)) is) left.entries [] line (Works lane batch)
        stop
    stops_line_cut output now line stop goes_on said cut =
        subst (λ (s : Stop). StopsAtLine book (outside output (map state lanes) was)
        (outside now (map state (set lanes place new)) is) left.entries [] line (Works lane batch) s)
        (sym cut.0) (cut_work output now line goes_on said cut.1)

    -- or it stopped the run
    work_stopped : (output : Stream) (stop : Stop) → step ≡ Err stop
        → is.unsaid ≡ was.unsaid ++ lane_text lane end
        → IsWorkStopped book (outside output (map state lanes) was)
        (outside output (map state (set lanes place new)) is) left.entries [] lane batch stop
    work_stopped output stop stops unsaid =
        record {
          job = (job_of lane worked.work end);
          works = subst (IsJobAt book lane batch (job_of lane worked.work end)) stops is_job;
          wrote = wrote_nothing output;
          worked = have_worked output output;
          unsaid = unsaid;
          rows_left = are_left book (Worked (job_of lane worked.work end) ∷ []) left.entries
              (worked.works.numbers, tt)
              (ap (λ (b : BookState). b.entries) worked.left);
        }

    pub stops_work : (output : Stream) (line : ℕ) (stop : Stop) → step ≡ Err stop
        → is.unsaid ≡ was.unsaid ++ lane_text lane end
        → StopsAtLine book (outside output (map state lanes) was)
        (outside output (map state (set lanes place new)) is) left.entries [] line
        (Works lane batch) stop
    stops_work output line stop stops unsaid =
        by_stop stop (work_stopped output stop stops unsaid)
        (job_stops book lane batch (job_of lane worked.work end) stop (subst
        (IsJobAt book lane batch (job_of lane worked.work end)) stops is_job))
      where
        by_stop : (stop : Stop)
            → IsWorkStopped book (outside output (map state lanes) was)
            (outside output (map state (set lanes place new)) is) left.entries [] lane batch stop
            → StopsWork stop
            → StopsAtLine book (outside output (map state lanes) was)
            (outside output (map state (set lanes place new)) is) left.entries [] line
            (Works lane batch) stop
        by_stop (DiskFault offer) stopped one = stopped
        by_stop NoMemory stopped one = inr stopped
        by_stop Finished stopped one = absurd one
        by_stop (BadLine named) stopped one = absurd one
        by_stop ReadFault stopped one = absurd one
        by_stop WriteFault stopped one = absurd one
        by_stop Spent stopped one = absurd one
