-- One history: what jobs that ran at once over one book come to, all together.
use Rattle.std.specs.Prelude.{◌≡◌, ℕ, ◌+◌, min, List, length, map, All}
use Rattle.std.specs.List.{sum_by}
use Rattle.device_facts.specs.Prefix.{IsPrefixOf}
use Rattle.book_words.specs.declared.act.Entry.{Entry}
use Rattle.book_words.specs.Answers.{IsLegal}
use Rattle.book_words.specs.Balance.{IsBalanced, VerdictsStay}
use Rattle.book_words.specs.Callers.{Known, FAULTS_END}
use Rattle.lane_worker.specs.Works as lanes
use Rattle.office_door.specs.Doors as doors
use Rattle.session_jobs.specs.declared.work.Work.{Work}
use Rattle.session_history.specs.Deeds.{Share, DidSo, OfEach, faults_of}
use Rattle.session_history.specs.Gates.{OpensRight}
use Rattle.session_history.specs.Replies.{RepliesRight, NamesWhatWasSeen, TellsVerdicts}
use Rattle.session_history.specs.Rows.{AddsActs, AddsItsRows, HaveOwnNumbers, NobodyElse, StandsIn, acknowledged}

-- Whatever the jobs of a session did at once, over a book of so many rows at most that began with
-- the rows `before` and with room for `spare` more: `rows` is one history of them all.
pub record OneHistory {L O : Type 0} (lane_at : Known → L → lanes.Site)
    (door_at : Known → O → doors.Site) (limit spare : ℕ) (before rows : List Entry) (failed : ℕ)
    (was now : List (Work L O)) : Type 0 where
  pub shares : List (Share L O)
  pub jobs_before : map (λ (s : Share L O). s.run.was) shares ≡ was
  pub jobs_behind : map (λ (s : Share L O). s.run.now) shares ≡ now
  -- what each lane and each door did is told by its devices and its end
  pub deeds : All (DidSo lane_at door_at limit before) shares
  -- the hall ends with one legal list, which begins with the rows of before
  pub legal : IsLegal rows
  pub begins : IsPrefixOf before rows
  -- of accepted commands: those of each lane and of each door, in order, and of nobody else
  pub own : OfEach (AddsItsRows before rows) shares
  pub acts : OfEach (AddsActs before rows) shares
  pub others : NobodyElse before rows shares
  -- every reply is the book's answer to the prefix that it names; a weighing finds no memory only
  -- where the room is used up
  pub replies : OfEach (RepliesRight limit (spare + length before) rows) shares
  -- which holds all that its caller was told before
  pub places : OfEach (NamesWhatWasSeen before rows) shares
  -- each acknowledged reading stands once, as all acknowledged rows do, and they are as many as the
  -- list grew by
  pub stand : All (StandsIn rows) (acknowledged shares)
  pub once : HaveOwnNumbers (acknowledged shares)
  pub total : length rows ≡ length before + length (acknowledged shares)
  -- in exactly one of four piles that add up
  pub piles : IsBalanced rows
  -- every closing verdict is that over today's rows, and so is each that was told
  pub verdicts : VerdictsStay rows
  pub closings : OfEach (TellsVerdicts rows) shares
  -- no gate opens before its row is kept
  pub gates : OfEach (OpensRight rows) shares
  -- as many asks failed on the disk as lanes and responses tell
  pub faults : failed ≡ min (sum_by (λ (s : Share L O). faults_of s.did) shares) FAULTS_END
