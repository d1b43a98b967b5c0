-- Lemmas on what a call leaves behind its last text.
use Rattle.std.proofs.Common.{◌≡◌, ℕ, List, [], true, inl, inr}
use Rattle.disk_core.specs.declared.disk.Disk as disk
use Rattle.disk_core.specs.declared.types.Partly.{Partly}
use Rattle.text_streams.specs.Streams.{Stream, IsCutIn}
use Rattle.standby_hall.specs.Pages.{IsCutAt}
use Rattle.command_line.specs.Words.{Wanted}
use Rattle.command_line.specs.declared.types.Command.{Command}
use Rattle.command_line.specs.declared.types.Command.TheVariants.{Run, Serve, Report, Export, Check, Import, Trial, Migrate, Ship, Follow, Paper, Prove, Audit, Acts}
use Rattle.command_line.specs.declared.types.Command.TheVariants as verb
use Rattle.store_runs.specs.declared.stop.Stop.{Stop}
use Rattle.store_runs.specs.Books.{BookState}
use Rattle.script_run.specs.Outside.{Call}
use Rattle.hall_alone.specs.declared.ended.Ended.{Ended}
use Rattle.hall_alone.specs.declared.ended.Outcome.{Outcome}
use Rattle.hall_alone.specs.Asked.{is_serve, is_audit}
use Rattle.hall_alone.specs.Calls.{EndsAs, ExplainsAs, IsUnopened, LeavesOutcome}

-- an outcome of which more holds
leaves_more : {S D L O : Type 0} (Holds Also : Outcome D → Call S → Type 0)
    → ((outcome : Outcome D) (call : Call S) → Holds outcome call → Also outcome call)
    → (ended : Ended D L O) (call : Call S) → LeavesOutcome Holds ended call
    → LeavesOutcome Also ended call
leaves_more Holds Also more ended call leaves =
    record {
      outcome = leaves.outcome;
      said = leaves.said;
      disk_left = leaves.disk_left;
      held = leaves.held;
      rows = leaves.rows;
      ends = leaves.ends;
      no_doors = leaves.no_doors;
      holds = more leaves.outcome _ leaves.holds;
      last = leaves.last;
    }

-- no command but `serve` serves
not_explained : {S : Type 0} (command : Command) (wanted : Wanted) (book : BookState)
    (call : Call S) (stop : Stop) → is_serve command ≡ true
    → ExplainsAs command wanted book call stop → ⊥
not_explained Serve wanted book call stop serves explained = explained
not_explained Run wanted book call stop serves explained = absurd (cc)
not_explained Report wanted book call stop serves explained = absurd (cc)
not_explained Export wanted book call stop serves explained = absurd (cc)
not_explained Check wanted book call stop serves explained = absurd (cc)
not_explained Import wanted book call stop serves explained = absurd (cc)
not_explained Trial wanted book call stop serves explained = absurd (cc)
not_explained Migrate wanted book call stop serves explained = absurd (cc)
not_explained Ship wanted book call stop serves explained = absurd (cc)
not_explained Follow wanted book call stop serves explained = absurd (cc)
not_explained Paper wanted book call stop serves explained = absurd (cc)
not_explained Prove wanted book call stop serves explained = absurd (cc)
not_explained verb.List wanted book call stop serves explained = absurd (cc)
not_explained Audit wanted book call stop serves explained = explained
not_explained Acts wanted book call stop serves explained = absurd (cc)

-- a call of `serve` whose disk was opened as a book isn't one of another command
not_opened : {S D : Type 0} (g : disk.Ghosts D) (wanted : Wanted) (before : D)
    (outcome : Outcome D) (call : Call S) → is_serve wanted.command ≡ true
    → EndsAs g wanted before outcome call → IsUnopened g before outcome call
not_opened g wanted before outcome call serves (inl opened) = absurd
    (not_explained wanted.command wanted _ call opened.stop serves opened.explained)
not_opened g wanted before outcome call serves (inr (inl ends)) = ends.unopened
not_opened g wanted before outcome call serves (inr (inr audited)) =
    absurd (serves_not wanted.command serves audited.asked)
  where
    serves_not : (command : Command) → is_serve command ≡ true → is_audit command ≡ true → ⊥
    serves_not Serve serves is = absurd cc
    serves_not command serves is = absurd cc

-- words of `serve` for which there was no memory
pub serve_unopened : {S D L O : Type 0} (g : disk.Ghosts D) (wanted : Wanted) (before : D)
    (ended : Ended D L O) (call : Call S) → is_serve wanted.command ≡ true
    → LeavesOutcome (EndsAs g wanted before) ended call
    → LeavesOutcome (IsUnopened g before) ended call
serve_unopened g wanted before ended call serves leaves =
    leaves_more (EndsAs g wanted before) (IsUnopened g before)
    (λ outcome here. not_opened g wanted before outcome here serves) ended call leaves

-- a shipment of which so many bytes went out was cut
pub cut_in : (before now : Stream) (text : List ℕ) (partly : Partly)
    → IsCutAt before now text partly → IsCutIn before now [] text
cut_in before now text partly cut =
    record { part = partly.done; less = cut.less; out = cut.out; failed = cut.failed }
