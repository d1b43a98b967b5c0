-- Lemmas on how a command ends, and on the words that ask for it.
use Rattle.std.proofs.Common.{◌≡◌, ℕ, List, length, Option, Some, Result, Ok, Err, inl, inr, refl, sym, ◌∙◌, subst}
use Rattle.disk_core.specs.declared.disk.Disk as disk
use Rattle.book_words.specs.declared.act.Entry.{Entry}
use Rattle.book_words.specs.declared.name.Name.{Name}
use Rattle.command_line.specs.Words.{Wanted}
use Rattle.command_line.specs.declared.types.Command.{Command}
use Rattle.book_store.specs.declared.store.Store.{Store}
use Rattle.text_streams.specs.Streams.{Stream}
use Rattle.script_run.specs.Outside.{Call}
use Rattle.store_runs.specs.declared.stop.Stop.{Stop}
use Rattle.store_runs.specs.declared.stop.Stop.TheVariants.{Finished, BadLine, ReadFault, WriteFault, DiskFault, NoMemory, Spent}
use Rattle.store_runs.specs.Books.{BookState}
use Rattle.store_runs.specs.Runs.{RunGoes, CountsStep}
use Rattle.import_run.specs.Runs.{ExplainsImport}
use Rattle.trial_run.specs.Trials.{ExplainsTrial}
use Rattle.report_run.specs.Printing.{SaysText}
use Rattle.report_run.specs.Reports.{HasEachReading, IsReadBack, book_register}
use Rattle.paper_run.specs.Printing.{SaysPaper}
use Rattle.prove_run.specs.declared.types.ProveEnd.{ProveEnd}
use Rattle.prove_run.specs.declared.types.ProveEnd.TheVariants as proving
use Rattle.standby_hall.specs.declared.types.FollowStop.{FollowStop}
use Rattle.standby_hall.specs.declared.types.FollowStop.TheVariants as why_is
use Rattle.standby_hall.specs.Following.{EndsBehind, shipment_stop}
use Rattle.standby_hall.specs.Several.{ExplainsFollowRun}
use Rattle.hall_alone.specs.declared.ended.Outcome.{Outcome}
use Rattle.call_endings.specs.declared.ending.Ending.TheVariants.{Usage, Unopened, Stopped}
use Rattle.book_migration.specs.Migration.{ExplainsMigration}
use Rattle.act_lines.specs.ActViews.{acts_text}
use Rattle.act_replay.specs.Replay.{CanBeReplayed}
use Rattle.hall_alone.specs.Calls.{ExplainsAs, ExplainsActs, ExplainsCommand, SaysAll, SaysWhole, input_of, CarriesJournal, FollowsShipments, EndsCarrying, LanesRest, ExplainsSaying, ExplainsPrinting, ExplainsExport, IsImport, IsTrial, stream_call, SaysBehind, ExplainsCarrying, ExplainsMigrate, ExplainsFollow, ExplainsPaper, ProvesInput, ExplainsProve, prove_stop, EndsAs, ending_of}
use Rattle.book_audit.specs.declared.types.AuditEnd.{AuditEnd}
use Rattle.book_audit.specs.declared.types.AuditEnd.TheVariants as audits

-- ---- the command that is asked for

pub explains_as : {S : Type 0} (wanted : Wanted) (command : Command) (book : BookState)
    (call : Call S) (stop : Stop) → wanted.command ≡ command
    → ExplainsAs command wanted book call stop → ExplainsCommand wanted book call stop
explains_as wanted command book call stop is explained =
    subst (λ (c : Command). ExplainsAs c wanted book call stop) (sym is) explained

-- ---- texts of a book

-- one went out that takes no memory
pub explains_saying : {S : Type 0} (text : List Entry → List ℕ) (book : BookState) (call : Call S)
    (stop : Stop) (rows : List Entry)
    → call.now.source ≡ call.before.source → LanesRest call.before.outside call.now.outside
    → call.rows ≡ rows
    → SaysAll call.before.outside.output call.now.outside.output (text rows) stop
    → rows ≡ book.entries → ExplainsSaying text book call stop
explains_saying text book call stop rows unread rest same says is =
    record {
      unread = unread;
      rest = rest;
      rows = same ∙ is;
      says = subst (λ (es : List Entry). SaysAll call.before.outside.output
          call.now.outside.output (text es) stop) (sym same) says;
    }

-- one went out
pub explains_printing : {S : Type 0} (text : List Entry → List ℕ) (book : BookState) (call : Call S)
    (stop : Stop) (rows : List Entry)
    → call.now.source ≡ call.before.source → LanesRest call.before.outside call.now.outside
    → call.rows ≡ rows
    → SaysText call.before.outside.output call.now.outside.output (text rows) stop
    → rows ≡ book.entries → ExplainsPrinting text book call stop
explains_printing text book call stop rows unread rest same says is =
    record {
      unread = unread;
      rest = rest;
      rows = same ∙ is;
      says = subst (λ (es : List Entry). SaysText call.before.outside.output
          call.now.outside.output (text es) stop) (sym same) says;
    }

-- the register went out
pub explains_export : {S : Type 0} (book : BookState) (call : Call S) (was stop : Stop)
    (rows : List Entry) → ExplainsPrinting book_register book call stop → call.rows ≡ rows
    → stop ≡ was → (was ≡ Finished → HasEachReading rows) → IsReadBack rows
    → ExplainsExport book call stop
explains_export book call was stop rows prints same stopped each reads_back =
    record {
      prints = prints;
      each = λ finished. subst HasEachReading (sym same) (each (sym stopped ∙ finished));
      reads_back = subst IsReadBack (sym same) reads_back;
    }

-- the book went out as text
pub explains_acts : {S : Type 0} (after : ℕ) (book : BookState) (call : Call S) (stop : Stop)
    (rows : List Entry) → ExplainsPrinting (acts_text after) book call stop → call.rows ≡ rows
    → CanBeReplayed after rows → ExplainsActs after book call stop
explains_acts after book call stop rows prints same replays =
    record {
      prints = prints;
      replays = subst (CanBeReplayed after) (sym same) replays;
    }

-- it touches no disk
pub text_counts : (T : Type 0) (before now : Stream) (text : List ℕ) (count : ℕ) (stop : Stop)
    → SaysText before now text stop → CountsStep {T = T} count count (Err stop)
text_counts T before now text count Finished says = refl
text_counts T before now text count WriteFault says = refl
text_counts T before now text count NoMemory says = refl
text_counts T before now text count (BadLine number) says = absurd says
text_counts T before now text count ReadFault says = absurd says
text_counts T before now text count (DiskFault offer) says = absurd says
text_counts T before now text count Spent says = absurd says

-- what is said of a batch whose paper is asked for
pub explains_paper : {S : Type 0} (named : Option Name) (batch : Name) (book : BookState)
    (call : Call S) (stop : Stop) (rows : List Entry) → named ≡ Some batch
    → call.now.source ≡ call.before.source → LanesRest call.before.outside call.now.outside
    → call.rows ≡ rows
    → SaysPaper rows batch call.before.outside.output call.now.outside.output stop
    → rows ≡ book.entries → ExplainsPaper named book call stop
explains_paper named batch book call stop rows is_named unread rest same says is =
    subst (λ (n : Option Name). ExplainsPaper n book call stop) (sym is_named) (record {
      unread = unread;
      rest = rest;
      rows = same ∙ is;
      says = subst (λ (es : List Entry). SaysPaper es batch call.before.outside.output
          call.now.outside.output stop) (sym same) says;
    })

pub paper_counts : (T : Type 0) (rows : List Entry) (batch : Name) (before now : Stream)
    (count : ℕ) (stop : Stop) → SaysPaper rows batch before now stop
    → CountsStep {T = T} count count (Err stop)
paper_counts T rows batch before now count Finished says = refl
paper_counts T rows batch before now count WriteFault says = refl
paper_counts T rows batch before now count NoMemory says = refl
paper_counts T rows batch before now count (BadLine number) says = refl
paper_counts T rows batch before now count ReadFault says = refl
paper_counts T rows batch before now count (DiskFault offer) says = absurd says.says
paper_counts T rows batch before now count Spent says = refl

-- an input that was proved
pub explains_prove : {S : Type 0} (book : BookState) (call : Call S) (stop was : Stop)
    (rows : List Entry) → LanesRest call.before.outside call.now.outside → call.rows ≡ rows
    → stop ≡ was
    → ProvesInput call.before.input call.now.input call.before.outside.output
    call.now.outside.output was
    → rows ≡ book.entries → ExplainsProve book call stop
explains_prove book call stop was rows rest same stopped proves is =
    record {
      rest = rest;
      rows = same ∙ is;
      proves = subst (λ (s : Stop). ProvesInput call.before.input call.now.input
          call.before.outside.output call.now.outside.output s) (sym stopped) proves;
    }

pub proving_counts : (T : Type 0) (input input_now output output_now : Stream) (count : ℕ)
    (stop : Stop) → ProvesInput input input_now output output_now stop
    → CountsStep {T = T} count count (Err stop)
proving_counts T input input_now output output_now count stop proves =
    subst (λ (s : Stop). CountsStep {T = T} count count (Err s)) (sym proves.same)
    (by_end proves.ending)
  where
    by_end : (end : ProveEnd) → CountsStep {T = T} count count (Err (prove_stop end))
    by_end proving.Proved = refl
    by_end (proving.BadLine line) = refl
    by_end proving.ReadFault = refl
    by_end proving.WriteFault = refl
    by_end proving.NoMemory = refl

-- an import that was run
pub is_import : {S : Type 0} (book : BookState) (call : Call S) (was stop : Stop)
    (rows : List Entry) → LanesRest call.before.outside call.now.outside → call.rows ≡ rows
    → stop ≡ was → ExplainsImport book (stream_call call.before call.now rows) was
    → IsImport book call stop
is_import book call was stop rows rest same stopped runs =
    record {
      rest = rest;
      runs = subst (ExplainsImport book (stream_call call.before call.now call.rows)) (sym stopped)
          (subst (λ (es : List Entry). ExplainsImport book
          (stream_call call.before call.now es) was) (sym same) runs);
    }

-- a trial that was run
pub is_trial : {S : Type 0} (number count : ℕ) (book : BookState) (call : Call S) (was stop : Stop)
    (rows : List Entry) → call.now.source ≡ call.before.source
    → LanesRest call.before.outside call.now.outside → call.rows ≡ rows → stop ≡ was
    → ExplainsTrial number count book call.before.outside.output call.now.outside.output rows was
    → IsTrial number count book call stop
is_trial number count book call was stop rows unread rest same stopped runs =
    record {
      unread = unread;
      rest = rest;
      runs = subst (ExplainsTrial number count book call.before.outside.output
          call.now.outside.output call.rows) (sym stopped)
          (subst (λ (es : List Entry). ExplainsTrial number count book
          call.before.outside.output call.now.outside.output es was) (sym same) runs);
    }

-- what carried rows, and then its line: a failed output is none of its own stops
module _ {S : Type 0} (call : Call S) (Carries : Stop → Type 0) (unwritten : Carries WriteFault → ⊥)
  where
    behind : (was stop : Stop) → Carries was
        → EndsCarrying call.before.outside.output call.now.outside.output (length call.rows) was stop
        → SaysBehind Carries call stop
    behind Finished Finished explained ends = (explained, ends)
    behind Finished WriteFault explained ends = (explained, ends)
    behind Finished (BadLine number) explained ends = absurd ends
    behind Finished ReadFault explained ends = absurd ends
    behind Finished (DiskFault offer) explained ends = absurd ends
    behind Finished NoMemory explained ends = absurd ends
    behind Finished Spent explained ends = absurd ends
    behind WriteFault stop explained ends = absurd (unwritten explained)
    behind (BadLine number) stop explained ends =
        subst (SaysBehind Carries call) (sym ends.0) (explained, ends.1)
    behind ReadFault stop explained ends =
        subst (SaysBehind Carries call) (sym ends.0) (explained, ends.1)
    behind (DiskFault offer) stop explained ends =
        subst (SaysBehind Carries call) (sym ends.0) (explained, ends.1)
    behind NoMemory stop explained ends =
        subst (SaysBehind Carries call) (sym ends.0) (explained, ends.1)
    behind Spent stop explained ends = subst (SaysBehind Carries call) (sym ends.0) (explained, ends.1)

    pub ends_carrying : (rows : List Entry) (was stop : Stop) → call.rows ≡ rows
        → LanesRest call.before.outside call.now.outside → Carries was
        → EndsCarrying call.before.outside.output call.now.outside.output (length rows) was stop
        → ExplainsCarrying Carries call stop
    ends_carrying rows was stop same rest carries ends =
        record {
          rest = rest;
          says = behind was stop carries
              (subst (λ (es : List Entry). EndsCarrying call.before.outside.output
              call.now.outside.output (length es) was stop) (sym same) ends);
        }

-- a migration, and then its line
pub ends_migration : {S : Type 0} (book : BookState) (call : Call S) (rows : List Entry)
    (was stop : Stop) → call.rows ≡ rows → LanesRest call.before.outside call.now.outside
    → ExplainsMigration book.entries (input_of call.before) (input_of call.now) rows was
    → EndsCarrying call.before.outside.output call.now.outside.output (length rows) was stop
    → ExplainsMigrate book call stop
ends_migration book call rows was stop same rest explained ends =
    ends_carrying call (CarriesJournal book call) (λ none. none) rows was stop same rest
    (subst (λ (es : List Entry). ExplainsMigration book.entries (input_of call.before)
    (input_of call.now) es was) (sym same) explained) ends

-- shipments that were followed, and then their line
follows_unwritten : (most : ℕ) (held : List Entry) (before now : Stream) (rows : List Entry)
    → ExplainsFollowRun most held before now rows WriteFault → ⊥
follows_unwritten most held before now rows (result, ends, explained) = by_result result ends
  where
    by_stop : (why : FollowStop) → WriteFault ≡ shipment_stop why → ⊥
    by_stop why_is.ReadFault same = absurd (cc)
    by_stop why_is.Head same = absurd (cc)
    by_stop (why_is.Gap row) same = absurd (cc)
    by_stop (why_is.Row row) same = absurd (cc)
    by_stop (why_is.Extra all) same = absurd (cc)
    by_stop (why_is.DiskFault entry) same = absurd (cc)
    by_stop why_is.NoMemory same = absurd (cc)

    by_result : (result : Result ℕ FollowStop) → EndsBehind (length held) rows result WriteFault → ⊥
    by_result (Ok adopted) (inl same) = absurd (cc)
    by_result (Ok adopted) (inr fails) = fails
    by_result (Err why) same = by_stop why same

pub ends_following : {S : Type 0} (most : ℕ) (book : BookState) (call : Call S) (rows : List Entry)
    (was stop : Stop) → call.rows ≡ rows → LanesRest call.before.outside call.now.outside
    → ExplainsFollowRun most book.entries call.before.input call.now.input rows was
    → EndsCarrying call.before.outside.output call.now.outside.output (length rows) was stop
    → ExplainsFollow most book call stop
ends_following most book call rows was stop same rest explained ends =
    ends_carrying call (FollowsShipments most book call)
    (follows_unwritten most book.entries call.before.input call.now.input call.rows) rows was stop same
    rest (subst (λ (es : List Entry). ExplainsFollowRun most book.entries
    call.before.input call.now.input es was) (sym same) explained) ends

-- it touches no disk, and the store is as it was
pub said_counts : (T : Type 0) (before now : Stream) (text : List ℕ) (count : ℕ) (stop : Stop)
    → SaysAll before now text stop → CountsStep {T = T} count count (Err stop)
said_counts T before now text count Finished says = refl
said_counts T before now text count WriteFault says = refl
said_counts T before now text count (BadLine number) says = absurd says
said_counts T before now text count ReadFault says = absurd says
said_counts T before now text count (DiskFault offer) says = absurd says
said_counts T before now text count NoMemory says = absurd says
said_counts T before now text count Spent says = absurd says

-- a run whose last text was cut
goes_cut : {D : Type 0} (g : disk.Ghosts D) (old new : Store D) → RunGoes g Finished old new
    → RunGoes g WriteFault old new
goes_cut g old new goes =
    record {
      limit = goes.limit;
      held = goes.held;
      begins = goes.begins;
      kept = goes.kept;
      cause = goes.cause;
      calm = goes.calm;
      still = goes.still;
      snapshot = λ is. absurd (cc);
    }

whole_goes : {D : Type 0} (g : disk.Ghosts D) (before now : Stream) (rows : ℕ) (old new : Store D)
    (stop : Stop) → SaysWhole before now rows stop → RunGoes g Finished old new
    → RunGoes g stop old new
whole_goes g before now rows old new Finished says goes = goes
whole_goes g before now rows old new WriteFault says goes = goes_cut g old new goes
whole_goes g before now rows old new (BadLine number) says goes = absurd says
whole_goes g before now rows old new ReadFault says goes = absurd says
whole_goes g before now rows old new (DiskFault offer) says goes = absurd says
whole_goes g before now rows old new NoMemory says goes = absurd says
whole_goes g before now rows old new Spent says goes = absurd says

-- what carried rows, and its last line
pub carried_goes : {D : Type 0} (g : disk.Ghosts D) (before now : Stream) (rows : ℕ)
    (old new : Store D) (was stop : Stop) → EndsCarrying before now rows was stop
    → RunGoes g was old new → RunGoes g stop old new
carried_goes g before now rows old new Finished stop ends goes = whole_goes g before now rows old
    new stop ends goes
carried_goes g before now rows old new (BadLine number) stop ends goes = subst (λ
    (s : Stop). RunGoes g s old new) (sym ends.0) goes
carried_goes g before now rows old new ReadFault stop ends goes = subst (λ
    (s : Stop). RunGoes g s old new) (sym ends.0) goes
carried_goes g before now rows old new WriteFault stop ends goes = subst (λ
    (s : Stop). RunGoes g s old new) (sym ends.0) goes
carried_goes g before now rows old new (DiskFault offer) stop ends goes = subst (λ
    (s : Stop). RunGoes g s old new) (sym ends.0) goes
carried_goes g before now rows old new NoMemory stop ends goes = subst (λ
    (s : Stop). RunGoes g s old new) (sym ends.0) goes
carried_goes g before now rows old new Spent stop ends goes = subst (λ
    (s : Stop). RunGoes g s old new) (sym ends.0) goes

-- ---- the words

-- words that ask for this ask for nothing else
pub same_wanted : {S D : Type 0} (g : disk.Ghosts D) (words : Option Wanted)
    (said wanted : Wanted) (before : D) (outcome : Outcome D) (call : Call S) → words ≡ Some said
    → words ≡ Some wanted
    → EndsAs g said before outcome call → EndsAs g wanted before outcome call
same_wanted g words said wanted before outcome call is asked ends = subst (λ
    (w : Wanted). EndsAs g w before outcome call) (some_same said wanted (sym is ∙ asked)) ends
  where
    some_same : (a b : Wanted) → Some a ≡ Some b → a ≡ b
    some_same a b same = cc

-- and a call with right words doesn't end as one with wrong words
pub ends_otherwise : {S D : Type 0} (g : disk.Ghosts D) (wanted : Wanted) (before : D)
    (outcome : Outcome D) (call : Call S) → EndsAs g wanted before outcome call
    → outcome.ending ≡ Usage → ⊥
ends_otherwise g wanted before outcome call (inl opened) is = absurd
    (let same : Stopped opened.stop ≡ Usage = sym opened.ending ∙ is in cc)
ends_otherwise g wanted before outcome call (inr (inl ends)) is = absurd
    (let same : Unopened ends.unopened.why ≡ Usage = sym ends.unopened.ending ∙ is in cc)
ends_otherwise g wanted before outcome call (inr (inr audited)) is =
    no_usage audited.audits.end (sym audited.audits.ending ∙ is)
  where
    no_usage : (end : AuditEnd) → ending_of end ≡ Usage → ⊥
    no_usage audits.Whole is = absurd cc
    no_usage audits.WriteFault is = absurd cc
    no_usage (audits.Refused why) is = absurd cc
