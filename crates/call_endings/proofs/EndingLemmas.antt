-- Lemmas on how a call ended, its last line and its status.
use Rattle.std.proofs.Common.{◌≡◌, ◌⊎◌, ℕ, Bool, true, false, not, ◌&&◌, ◌==◌, List, min, Option, Some, None, inl, inr, ⊎_elim, IsTrue, refl, sym, ◌∙◌, ap, subst}
use Rattle.std.specs.List.{list_any}
use Rattle.std.proofs.lemmas.Bool.{and_parts}
use Rattle.book_mount.specs.declared.types.MountError.{MountError}
use Rattle.book_mount.specs.declared.types.MountError.TheVariants as mount
use Rattle.text_streams.specs.Streams.{Stream}
use Rattle.lane_worker.specs.declared.ending.LaneEnd.{LaneEnd}
use Rattle.office_door.specs.declared.ending.DoorEnd.{DoorEnd}
use Rattle.job_reports.specs.declared.stop.JobsStop.{JobsStop}
use Rattle.job_reports.specs.declared.stop.JobsStop.TheVariants as jobs
use Rattle.job_reports.specs.declared.stop.ServeStop.{ServeStop}
use Rattle.job_reports.specs.declared.stop.ServeStop.TheVariants as serve
use Rattle.job_reports.specs.Logs.{LogView}
use Rattle.store_runs.specs.declared.stop.Stop.{Stop}
use Rattle.store_runs.specs.declared.stop.Stop.TheVariants.{Finished, BadLine, ReadFault, WriteFault, DiskFault, NoMemory, Spent}
use Rattle.call_endings.specs.declared.ending.Ending.{Ending}
use Rattle.call_endings.specs.declared.ending.Ending.TheVariants.{Usage, Unopened, Stopped, Served}
use Rattle.call_endings.specs.Endings.{early_status, least_status, is_early, is_cut, are_spent, status_of, status_of_stop, status_of_why, status_behind, status_of_jobs, status_of_serve, last_status, SaysLast, is_status}

-- a status of lanes and doors
pub data IsEarly : Option ℕ → Type 0 where
  None_is : IsEarly None
  Lane_is : IsEarly (Some 10)
  Door_is : IsEarly (Some 11)
  Spent_is : IsEarly (Some 12)

pub is_early_status : (ends : List LaneEnd) (doors : List DoorEnd)
    → IsEarly (early_status ends doors)
is_early_status ends doors =
    by_tests (list_any is_early ends) (list_any is_cut doors) (are_spent ends doors)
  where
    by_tests : (early cut spent : Bool) → IsEarly (least_status early cut spent)
    by_tests true cut spent = Lane_is
    by_tests false true spent = Door_is
    by_tests false false true = Spent_is
    by_tests false false false = None_is

-- it is one of the statuses, whether the last text went out or was cut, and not that of wrong words
abbrev is_other : ℕ → Bool
is_other status =
    is_status status && is_status (min status 5) && not (status == 2) && not (min status 5 == 2)

other_why : (why : MountError) → is_other (status_of_why why) ≡ true
other_why (mount.NotJournal place) = refl
other_why (mount.Damaged row) = refl
other_why mount.DiskFault = refl
other_why mount.NoMemory = refl

other_stop : (stop : Stop) → is_other (status_of_stop stop) ≡ true
other_stop Finished = refl
other_stop (BadLine number) = refl
other_stop ReadFault = refl
other_stop WriteFault = refl
other_stop (DiskFault offer) = refl
other_stop NoMemory = refl
other_stop Spent = refl

other_behind : (stop : Stop) (early : Option ℕ) → IsEarly early
    → is_other (status_behind stop early) ≡ true
other_behind Finished None None_is = refl
other_behind Finished (Some n) Lane_is = refl
other_behind Finished (Some n) Door_is = refl
other_behind Finished (Some n) Spent_is = refl
other_behind (BadLine number) None None_is = refl
other_behind (BadLine number) (Some n) Lane_is = refl
other_behind (BadLine number) (Some n) Door_is = refl
other_behind (BadLine number) (Some n) Spent_is = refl
other_behind ReadFault None None_is = refl
other_behind ReadFault (Some n) Lane_is = refl
other_behind ReadFault (Some n) Door_is = refl
other_behind ReadFault (Some n) Spent_is = refl
other_behind WriteFault None None_is = refl
other_behind WriteFault (Some n) Lane_is = refl
other_behind WriteFault (Some n) Door_is = refl
other_behind WriteFault (Some n) Spent_is = refl
other_behind (DiskFault offer) None None_is = refl
other_behind (DiskFault offer) (Some n) Lane_is = refl
other_behind (DiskFault offer) (Some n) Door_is = refl
other_behind (DiskFault offer) (Some n) Spent_is = refl
other_behind NoMemory None None_is = refl
other_behind NoMemory (Some n) Lane_is = refl
other_behind NoMemory (Some n) Door_is = refl
other_behind NoMemory (Some n) Spent_is = refl
other_behind Spent None None_is = refl
other_behind Spent (Some n) Lane_is = refl
other_behind Spent (Some n) Door_is = refl
other_behind Spent (Some n) Spent_is = refl

other_jobs : (stop : JobsStop) (early : Option ℕ) → IsEarly early
    → is_other (status_of_jobs stop early) ≡ true
other_jobs jobs.Finished None None_is = refl
other_jobs jobs.Finished (Some n) Lane_is = refl
other_jobs jobs.Finished (Some n) Door_is = refl
other_jobs jobs.Finished (Some n) Spent_is = refl
other_jobs jobs.WriteFault None None_is = refl
other_jobs jobs.WriteFault (Some n) Lane_is = refl
other_jobs jobs.WriteFault (Some n) Door_is = refl
other_jobs jobs.WriteFault (Some n) Spent_is = refl
other_jobs jobs.DiskFault None None_is = refl
other_jobs jobs.DiskFault (Some n) Lane_is = refl
other_jobs jobs.DiskFault (Some n) Door_is = refl
other_jobs jobs.DiskFault (Some n) Spent_is = refl
other_jobs jobs.NoMemory None None_is = refl
other_jobs jobs.NoMemory (Some n) Lane_is = refl
other_jobs jobs.NoMemory (Some n) Door_is = refl
other_jobs jobs.NoMemory (Some n) Spent_is = refl

other_serve : (stop : ServeStop) (early : Option ℕ) → IsEarly early
    → is_other (status_of_serve stop early) ≡ true
other_serve serve.BadPlan early is = refl
other_serve (serve.Early stop) early is = other_stop stop
other_serve (serve.Ran stop) early is = other_jobs stop early is

-- each status, whether the last text went out or was cut, and that only wrong words have the second
record HasStatus (ending : Ending) (status : ℕ) : Type 0 where
  named : IsTrue (is_status status)
  cut : IsTrue (is_status (min status 5))
  other : (status ≡ 2) ⊎ (min status 5 ≡ 2) → ending ≡ Usage

-- one that is no status of wrong words
not_usage : (ending : Ending) (status : ℕ) → is_other status ≡ true → HasStatus ending status
not_usage ending status is =
    let parts = and_parts _ _ is in
    let front = and_parts _ _ parts.0 in
    let first = and_parts _ _ front.0 in
    record {
      named = first.0;
      cut = first.1;
      other = λ two. absurd (⊎_elim
          (λ h. by_two status front.1 h)
          (λ h. by_two (min status 5) parts.1 h) two);
    }
  where
    by_two : (n : ℕ) → not (n == 2) ≡ true → n ≡ 2 → ⊥
    by_two n no_two two = let clash : false ≡ true = subst (λ (m : ℕ). not (m == 2) ≡ true) two no_two in cc

has_status : (ending : Ending) (early : Option ℕ) → IsEarly early
    → HasStatus ending (status_of ending early)
has_status Usage early is = record {
  named = refl;
  cut = refl;
  other = λ two. refl;
}
has_status (Unopened why) early is = not_usage (Unopened why) _ (other_why why)
has_status (Stopped stop) early is = not_usage (Stopped stop) _ (other_behind stop early is)
has_status (Served stop) early is = not_usage (Served stop) _ (other_serve stop early is)

module _ (ending : Ending) (log : LogView) (doors : List DoorEnd) (before now : Stream) (status : ℕ)
  where
    status_kept : HasStatus ending (last_status ending log doors)
    status_kept = has_status ending (early_status log.ends doors) (is_early_status log.ends doors)

    pub status_named : SaysLast ending log doors before now status → IsTrue (is_status status)
    status_named (inl (out, is)) =
        subst (λ (n : ℕ). IsTrue (is_status n)) (sym is) status_kept.named
    status_named (inr (cut, is)) =
        subst (λ (n : ℕ). IsTrue (is_status n)) (sym is) status_kept.cut

    pub status_two : SaysLast ending log doors before now status → status ≡ 2 → ending ≡ Usage
    status_two (inl (out, is)) two = status_kept.other (inl (sym is ∙ two))
    status_two (inr (cut, is)) two = status_kept.other (inr (sym is ∙ two))

    pub usage_two : SaysLast ending log doors before now status → ending ≡ Usage → status ≡ 2
    usage_two (inl (out, is)) usage =
        is ∙ ap (λ (e : Ending). status_of e (early_status log.ends doors)) usage
    usage_two (inr (cut, is)) usage =
        is ∙ ap (λ (e : Ending). min (status_of e (early_status log.ends doors)) 5) usage

-- a serve doesn't end as wrong words do
pub serve_not_two : (stop : ServeStop) (log : LogView) (doors : List DoorEnd) (before now : Stream)
    (status : ℕ) → SaysLast (Served stop) log doors before now status → status ≡ 2 → ⊥
serve_not_two stop log doors before now status says two = absurd
    (let same : Served stop ≡ Usage = status_two (Served stop) log doors before now status says two
    in cc)
