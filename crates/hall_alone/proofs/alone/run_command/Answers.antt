use Rattle.std.proofs.Common.{Err, List, length, refl, sym, ap, ◌∙◌, subst, arith}
use Rattle.std.specs.Bool.{⊤}
use Rattle.book_store.specs.declared.store.Store.{Store}
use Rattle.book_store.specs.Stores.{entries_of}
use Rattle.command_line.specs.declared.types.Command.TheVariants.{Run, Report, Export, Check}
use Rattle.command_line.specs.declared.types.Command.TheVariants.{Import, Trial, Migrate, Ship, Follow}
use Rattle.command_line.specs.declared.types.Command.TheVariants.{Paper, Prove, Acts}
use Rattle.command_line.specs.declared.types.Command.TheVariants as verb
use Rattle.command_line.specs.Taken.{seen}
use Rattle.text_streams.specs.Streams.{output_at}
use Rattle.script_run.specs.Outside.{devices, outside_at, nothing_told}
use Rattle.store_runs.specs.Books.{stored_book}
use Rattle.store_runs.specs.Runs.{RunGoes}
use Rattle.store_runs.proofs.StoreSteps.{stays}
use Rattle.report_run.specs.Reports.{book_register}
use Rattle.list_run.specs.Texts.{list_text}
use Rattle.act_lines.specs.ActViews.{acts_text}
use Rattle.standby_hall.specs.Shipments.{shipment}
use Rattle.book_words.specs.declared.act.Entry.{Entry}
use Rattle.hall_alone.specs.Texts.{whole}
use Rattle.hall_alone.specs.Calls.{reported}
use Rattle.hall_alone.proofs.OpenedBooks.{call_from, lanes_rest}
use Rattle.hall_alone.proofs.CommandLemmas.{explains_as, explains_saying, explains_printing, explains_acts, explains_export, is_import, is_trial, ends_migration, ends_following, explains_paper, explains_prove, paper_counts, proving_counts, said_counts, text_counts, carried_goes}
use Rattle.hall_alone.proofs.alone.run_command.Goals as goal

pub returns-in-Run-clause-explained : goal.returns-in-Run-clause-explained
returns-in-Run-clause-explained g c =
    let here = outside_at g.K.Sink g.L.Cell g.L.Gate c.args.output.now c.args.lanes.now
    nothing_told in
    let end = c.run_script.result in
    let now = outside_at g.K.Sink g.L.Cell g.L.Gate c.run_script.new.output
    c.run_script.new.lanes end.log.told in
    let call = call_from (devices g.S.Source c.args.input.now here)
    (devices g.S.Source c.run_script.new.input now) (entries_of end.store) in
    explains_as (seen c.args.wanted.now) Run (stored_book c.args.store) call end.stop c.in-Run.is
    c.run_script.ensures.explained

pub returns-in-Report-clause-explained : goal.returns-in-Report-clause-explained
returns-in-Report-clause-explained g c =
    let here = outside_at g.K.Sink g.L.Cell g.L.Gate c.args.output.now c.args.lanes.now
    nothing_told in
    let end = c.without_lanes.result in
    let now = outside_at g.K.Sink g.L.Cell g.L.Gate c.report.new.output c.args.lanes.now
    end.log.told in
    let call = call_from (devices g.S.Source c.args.input.now here)
    (devices g.S.Source c.args.input.now now) (entries_of end.store) in
    let same = ap (λ (s : Store _). entries_of s)
    (c.without_lanes.ensures.store ∙ c.report.ensures.store) in
    explains_as (seen c.args.wanted.now) Report (stored_book c.args.store) call end.stop
    c.in-Report.is (explains_printing (reported c.args.wanted.now.batch)
    (stored_book c.args.store) call end.stop (entries_of c.args.store) refl
    (lanes_rest here (output_at g.K.Sink c.report.new.output) end.log.told
    c.without_lanes.ensures.log) same
    (rw c.without_lanes.ensures.stop c.report.ensures.says) refl)

pub returns-in-Report-clause-goes : goal.returns-in-Report-clause-goes
returns-in-Report-clause-goes g c =
    rw (c.without_lanes.ensures.stop, c.without_lanes.ensures.store)
    (subst (λ (s : Store _). RunGoes g.D.Disk c.report.result.stop c.args.store s)
    (sym c.report.ensures.store)
    (stays g.D.Disk (Err c.report.result.stop) c.args.store
    (text_counts ⊤ _ _ _ _ c.report.result.stop c.report.ensures.says)
    (λ finished grown calm. absurd (omega (arith, grown, c.requires.opened)))))

pub returns-in-Export-clause-explained : goal.returns-in-Export-clause-explained
returns-in-Export-clause-explained g c =
    let here = outside_at g.K.Sink g.L.Cell g.L.Gate c.args.output.now c.args.lanes.now
    nothing_told in
    let end = c.without_lanes-in-Export.result in
    let now = outside_at g.K.Sink g.L.Cell g.L.Gate c.export.new.output c.args.lanes.now
    end.log.told in
    let call = call_from (devices g.S.Source c.args.input.now here)
    (devices g.S.Source c.args.input.now now) (entries_of end.store) in
    let same = ap (λ (s : Store _). entries_of s)
    (c.without_lanes-in-Export.ensures.store ∙ c.export.ensures.store) in
    explains_as (seen c.args.wanted.now) Export (stored_book c.args.store) call end.stop
    c.in-Export.is (explains_export (stored_book c.args.store) call c.export.result.stop end.stop
    (entries_of c.args.store) (explains_printing book_register (stored_book c.args.store) call
    end.stop (entries_of c.args.store) refl
    (lanes_rest here (output_at g.K.Sink c.export.new.output) end.log.told
    c.without_lanes-in-Export.ensures.log) same
    (rw c.without_lanes-in-Export.ensures.stop c.export.ensures.says) refl) same
    c.without_lanes-in-Export.ensures.stop c.export.ensures.each c.export.ensures.reads_back)

pub returns-in-Export-clause-goes : goal.returns-in-Export-clause-goes
returns-in-Export-clause-goes g c =
    rw (c.without_lanes-in-Export.ensures.stop, c.without_lanes-in-Export.ensures.store)
    (subst (λ (s : Store _). RunGoes g.D.Disk c.export.result.stop c.args.store s)
    (sym c.export.ensures.store)
    (stays g.D.Disk (Err c.export.result.stop) c.args.store
    (text_counts ⊤ _ _ _ _ c.export.result.stop c.export.ensures.says)
    (λ finished grown calm. absurd (omega (arith, grown, c.requires.opened)))))

pub returns-in-Check-clause-explained : goal.returns-in-Check-clause-explained
returns-in-Check-clause-explained g c =
    let here = outside_at g.K.Sink g.L.Cell g.L.Gate c.args.output.now c.args.lanes.now
    nothing_told in
    let end = c.without_lanes-in-Check.result in
    let now = outside_at g.K.Sink g.L.Cell g.L.Gate c.say_whole.new.output c.args.lanes.now
    end.log.told in
    let call = call_from (devices g.S.Source c.args.input.now here)
    (devices g.S.Source c.args.input.now now) (entries_of end.store) in
    let same = ap (λ (s : Store _). entries_of s)
    (c.without_lanes-in-Check.ensures.store ∙ c.say_whole.ensures.store) in
    explains_as (seen c.args.wanted.now) Check (stored_book c.args.store) call end.stop
    c.in-Check.is (explains_saying (λ (rows : List Entry). whole (length rows)) (stored_book c.args.store) call end.stop
    (entries_of c.args.store) refl
    (lanes_rest here (output_at g.K.Sink c.say_whole.new.output) end.log.told
    c.without_lanes-in-Check.ensures.log) same
    (rw c.without_lanes-in-Check.ensures.stop c.say_whole.ensures.says) refl)

pub returns-in-Check-clause-goes : goal.returns-in-Check-clause-goes
returns-in-Check-clause-goes g c =
    rw (c.without_lanes-in-Check.ensures.stop, c.without_lanes-in-Check.ensures.store)
    (subst (λ (s : Store _). RunGoes g.D.Disk c.say_whole.result.stop c.args.store s)
    (sym c.say_whole.ensures.store)
    (stays g.D.Disk (Err c.say_whole.result.stop) c.args.store
    (said_counts ⊤ _ _ _ _ c.say_whole.result.stop c.say_whole.ensures.says)
    (λ finished grown calm. absurd (omega (arith, grown, c.requires.opened)))))

pub returns-in-Import-clause-explained : goal.returns-in-Import-clause-explained
returns-in-Import-clause-explained g c =
    let here = outside_at g.K.Sink g.L.Cell g.L.Gate c.args.output.now c.args.lanes.now
    nothing_told in
    let end = c.without_lanes-in-Import.result in
    let now = outside_at g.K.Sink g.L.Cell g.L.Gate c.run_import.new.output c.args.lanes.now
    end.log.told in
    let call = call_from (devices g.S.Source c.args.input.now here)
    (devices g.S.Source c.run_import.new.input now) (entries_of end.store) in
    explains_as (seen c.args.wanted.now) Import (stored_book c.args.store) call end.stop
    c.in-Import.is (is_import (stored_book c.args.store) call c.run_import.result.stop end.stop
    (entries_of c.run_import.result.store)
    (lanes_rest here (output_at g.K.Sink c.run_import.new.output) end.log.told
    c.without_lanes-in-Import.ensures.log)
    (ap (λ (s : Store _). entries_of s) c.without_lanes-in-Import.ensures.store)
    c.without_lanes-in-Import.ensures.stop c.run_import.ensures.explained)

pub returns-in-Import-clause-goes : goal.returns-in-Import-clause-goes
returns-in-Import-clause-goes g c =
    rw (c.without_lanes-in-Import.ensures.stop, c.without_lanes-in-Import.ensures.store)
    c.run_import.ensures.goes

pub run_trial-end-requires-clause-least : goal.run_trial-end-requires-clause-least
run_trial-end-requires-clause-least g c = c.requires.range.some c.in-Trial.is

pub run_trial-end-requires-clause-most : goal.run_trial-end-requires-clause-most
run_trial-end-requires-clause-most g c = c.requires.range.packs

pub returns-in-Trial-clause-explained : goal.returns-in-Trial-clause-explained
returns-in-Trial-clause-explained g c =
    let here = outside_at g.K.Sink g.L.Cell g.L.Gate c.args.output.now c.args.lanes.now
    nothing_told in
    let end = c.without_lanes-in-Trial.result in
    let now = outside_at g.K.Sink g.L.Cell g.L.Gate c.run_trial-end.new.output c.args.lanes.now
    end.log.told in
    let call = call_from (devices g.S.Source c.args.input.now here)
    (devices g.S.Source c.args.input.now now) (entries_of end.store) in
    explains_as (seen c.args.wanted.now) Trial (stored_book c.args.store) call end.stop
    c.in-Trial.is (is_trial c.args.wanted.now.number c.args.wanted.now.count
    (stored_book c.args.store) call c.run_trial-end.result.stop end.stop
    (entries_of c.run_trial-end.result.store) refl
    (lanes_rest here (output_at g.K.Sink c.run_trial-end.new.output) end.log.told
    c.without_lanes-in-Trial.ensures.log)
    (ap (λ (s : Store _). entries_of s) c.without_lanes-in-Trial.ensures.store)
    c.without_lanes-in-Trial.ensures.stop c.run_trial-end.ensures.explained)

pub returns-in-Trial-clause-goes : goal.returns-in-Trial-clause-goes
returns-in-Trial-clause-goes g c =
    rw (c.without_lanes-in-Trial.ensures.stop, c.without_lanes-in-Trial.ensures.store)
    c.run_trial-end.ensures.goes

pub returns-in-Migrate-clause-explained : goal.returns-in-Migrate-clause-explained
returns-in-Migrate-clause-explained g c =
    let here = outside_at g.K.Sink g.L.Cell g.L.Gate c.args.output.now c.args.lanes.now
    nothing_told in
    let end = c.without_lanes-in-Migrate.result in
    let now = outside_at g.K.Sink g.L.Cell g.L.Gate c.end_carrying-end.new.output
    c.args.lanes.now end.log.told in
    let call = call_from (devices g.S.Source c.args.input.now here)
    (devices g.S.Source c.migrate_journal.new.input now) (entries_of end.store) in
    let same = ap (λ (s : Store _). entries_of s)
    (c.without_lanes-in-Migrate.ensures.store ∙ c.end_carrying-end.ensures.store) in
    explains_as (seen c.args.wanted.now) Migrate (stored_book c.args.store) call end.stop
    c.in-Migrate.is (ends_migration (stored_book c.args.store) call
    (entries_of c.migrate_journal.result.store) c.migrate_journal.result.stop end.stop same
    (lanes_rest here (output_at g.K.Sink c.end_carrying-end.new.output) end.log.told
    c.without_lanes-in-Migrate.ensures.log)
    c.migrate_journal.ensures.explained
    (rw c.without_lanes-in-Migrate.ensures.stop c.end_carrying-end.ensures.ends))

pub returns-in-Migrate-clause-goes : goal.returns-in-Migrate-clause-goes
returns-in-Migrate-clause-goes g c =
    rw (c.without_lanes-in-Migrate.ensures.stop, c.without_lanes-in-Migrate.ensures.store)
    (subst (λ (s : Store _). RunGoes g.D.Disk c.end_carrying-end.result.stop c.args.store s)
    (sym c.end_carrying-end.ensures.store)
    (carried_goes g.D.Disk _ _ _ c.args.store c.migrate_journal.result.store
    c.migrate_journal.result.stop c.end_carrying-end.result.stop c.end_carrying-end.ensures.ends
    c.migrate_journal.ensures.goes))

pub returns-in-Ship-clause-explained : goal.returns-in-Ship-clause-explained
returns-in-Ship-clause-explained g c =
    let here = outside_at g.K.Sink g.L.Cell g.L.Gate c.args.output.now c.args.lanes.now
    nothing_told in
    let end = c.without_lanes-in-Ship.result in
    let now = outside_at g.K.Sink g.L.Cell g.L.Gate c.ship.new.output c.args.lanes.now
    end.log.told in
    let call = call_from (devices g.S.Source c.args.input.now here)
    (devices g.S.Source c.args.input.now now) (entries_of end.store) in
    let same = ap (λ (s : Store _). entries_of s)
    (c.without_lanes-in-Ship.ensures.store ∙ c.ship.ensures.store) in
    explains_as (seen c.args.wanted.now) Ship (stored_book c.args.store) call end.stop
    c.in-Ship.is (explains_saying (shipment c.args.wanted.now.after) (stored_book c.args.store)
    call end.stop (entries_of c.args.store) refl
    (lanes_rest here (output_at g.K.Sink c.ship.new.output) end.log.told
    c.without_lanes-in-Ship.ensures.log) same
    (rw c.without_lanes-in-Ship.ensures.stop c.ship.ensures.says) refl)

pub returns-in-Ship-clause-goes : goal.returns-in-Ship-clause-goes
returns-in-Ship-clause-goes g c =
    rw (c.without_lanes-in-Ship.ensures.stop, c.without_lanes-in-Ship.ensures.store)
    (subst (λ (s : Store _). RunGoes g.D.Disk c.ship.result.stop c.args.store s)
    (sym c.ship.ensures.store)
    (stays g.D.Disk (Err c.ship.result.stop) c.args.store
    (said_counts ⊤ _ _ _ _ c.ship.result.stop c.ship.ensures.says)
    (λ finished grown calm. absurd (omega (arith, grown, c.requires.opened)))))

pub follow_run-requires-clause-some : goal.follow_run-requires-clause-some
follow_run-requires-clause-some g c = c.requires.range.shipments_least

pub returns-in-Follow-clause-explained : goal.returns-in-Follow-clause-explained
returns-in-Follow-clause-explained g c =
    let here = outside_at g.K.Sink g.L.Cell g.L.Gate c.args.output.now c.args.lanes.now
    nothing_told in
    let end = c.without_lanes-in-Follow.result in
    let now = outside_at g.K.Sink g.L.Cell g.L.Gate c.end_carrying-end-in-Follow.new.output
    c.args.lanes.now end.log.told in
    let call = call_from (devices g.S.Source c.args.input.now here)
    (devices g.S.Source c.follow_run.new.input now) (entries_of end.store) in
    let same = ap (λ (s : Store _). entries_of s)
    (c.without_lanes-in-Follow.ensures.store ∙ c.end_carrying-end-in-Follow.ensures.store) in
    explains_as (seen c.args.wanted.now) Follow (stored_book c.args.store) call end.stop
    c.in-Follow.is (ends_following c.args.wanted.now.shipments (stored_book c.args.store) call
    (entries_of c.follow_run.result.store) c.follow_run.result.stop end.stop same
    (lanes_rest here (output_at g.K.Sink c.end_carrying-end-in-Follow.new.output) end.log.told
    c.without_lanes-in-Follow.ensures.log)
    c.follow_run.ensures.explained
    (rw c.without_lanes-in-Follow.ensures.stop c.end_carrying-end-in-Follow.ensures.ends))

pub returns-in-Follow-clause-goes : goal.returns-in-Follow-clause-goes
returns-in-Follow-clause-goes g c =
    rw (c.without_lanes-in-Follow.ensures.stop, c.without_lanes-in-Follow.ensures.store)
    (subst (λ (s : Store _). RunGoes g.D.Disk c.end_carrying-end-in-Follow.result.stop c.args.store s)
    (sym c.end_carrying-end-in-Follow.ensures.store)
    (carried_goes g.D.Disk _ _ _ c.args.store c.follow_run.result.store
    c.follow_run.result.stop c.end_carrying-end-in-Follow.result.stop
    c.end_carrying-end-in-Follow.ensures.ends c.follow_run.ensures.goes))

pub returns-in-Paper-clause-explained : goal.returns-in-Paper-clause-explained
returns-in-Paper-clause-explained g c =
    let here = outside_at g.K.Sink g.L.Cell g.L.Gate c.args.output.now c.args.lanes.now
    nothing_told in
    let end = c.without_lanes-in-Paper.result in
    let now = outside_at g.K.Sink g.L.Cell g.L.Gate c.paper.new.output c.args.lanes.now
    end.log.told in
    let call = call_from (devices g.S.Source c.args.input.now here)
    (devices g.S.Source c.args.input.now now) (entries_of end.store) in
    let same = ap (λ (s : Store _). entries_of s)
    (c.without_lanes-in-Paper.ensures.store ∙ c.paper.ensures.store) in
    explains_as (seen c.args.wanted.now) Paper (stored_book c.args.store) call end.stop
    c.in-Paper.is (explains_paper c.args.wanted.now.batch c.unwrap-batch.result
    (stored_book c.args.store) call end.stop (entries_of c.args.store) c.unwrap-batch.ensures refl
    (lanes_rest here (output_at g.K.Sink c.paper.new.output) end.log.told
    c.without_lanes-in-Paper.ensures.log) same
    (rw c.without_lanes-in-Paper.ensures.stop c.paper.ensures.says) refl)

pub returns-in-Paper-clause-goes : goal.returns-in-Paper-clause-goes
returns-in-Paper-clause-goes g c =
    rw (c.without_lanes-in-Paper.ensures.stop, c.without_lanes-in-Paper.ensures.store)
    (subst (λ (s : Store _). RunGoes g.D.Disk c.paper.result.stop c.args.store s)
    (sym c.paper.ensures.store)
    (stays g.D.Disk (Err c.paper.result.stop) c.args.store
    (paper_counts ⊤ _ _ _ _ _ c.paper.result.stop c.paper.ensures.says)
    (λ finished grown calm. absurd (omega (arith, grown, c.requires.opened)))))

pub returns-in-Prove-clause-explained : goal.returns-in-Prove-clause-explained
returns-in-Prove-clause-explained g c =
    let here = outside_at g.K.Sink g.L.Cell g.L.Gate c.args.output.now c.args.lanes.now
    nothing_told in
    let end = c.without_lanes-in-Prove.result in
    let now = outside_at g.K.Sink g.L.Cell g.L.Gate c.prove.new.output c.args.lanes.now
    end.log.told in
    let call = call_from (devices g.S.Source c.args.input.now here)
    (devices g.S.Source c.prove.new.input now) (entries_of end.store) in
    explains_as (seen c.args.wanted.now) Prove (stored_book c.args.store) call end.stop
    c.in-Prove.is (explains_prove (stored_book c.args.store) call end.stop c.prove.result.stop
    (entries_of c.args.store)
    (lanes_rest here (output_at g.K.Sink c.prove.new.output) end.log.told
    c.without_lanes-in-Prove.ensures.log)
    (ap (λ (s : Store _). entries_of s)
    (c.without_lanes-in-Prove.ensures.store ∙ c.prove.ensures.store))
    c.without_lanes-in-Prove.ensures.stop c.prove.ensures.proves refl)

pub returns-in-Prove-clause-goes : goal.returns-in-Prove-clause-goes
returns-in-Prove-clause-goes g c =
    rw (c.without_lanes-in-Prove.ensures.stop, c.without_lanes-in-Prove.ensures.store)
    (subst (λ (s : Store _). RunGoes g.D.Disk c.prove.result.stop c.args.store s)
    (sym c.prove.ensures.store)
    (stays g.D.Disk (Err c.prove.result.stop) c.args.store
    (proving_counts ⊤ _ _ _ _ _ c.prove.result.stop c.prove.ensures.proves)
    (λ finished grown calm. absurd (omega (arith, grown, c.requires.opened)))))

pub returns-in-List-clause-explained : goal.returns-in-List-clause-explained
returns-in-List-clause-explained g c =
    let here = outside_at g.K.Sink g.L.Cell g.L.Gate c.args.output.now c.args.lanes.now
    nothing_told in
    let end = c.without_lanes-in-List.result in
    let now = outside_at g.K.Sink g.L.Cell g.L.Gate c.list.new.output c.args.lanes.now
    end.log.told in
    let call = call_from (devices g.S.Source c.args.input.now here)
    (devices g.S.Source c.args.input.now now) (entries_of end.store) in
    let same = ap (λ (s : Store _). entries_of s)
    (c.without_lanes-in-List.ensures.store ∙ c.list.ensures.store) in
    explains_as (seen c.args.wanted.now) verb.List (stored_book c.args.store) call end.stop
    c.in-List.is (explains_printing (list_text c.args.wanted.now.limit)
    (stored_book c.args.store) call end.stop (entries_of c.args.store) refl
    (lanes_rest here (output_at g.K.Sink c.list.new.output) end.log.told
    c.without_lanes-in-List.ensures.log) same
    (rw c.without_lanes-in-List.ensures.stop c.list.ensures.says) refl)

pub returns-in-List-clause-goes : goal.returns-in-List-clause-goes
returns-in-List-clause-goes g c =
    rw (c.without_lanes-in-List.ensures.stop, c.without_lanes-in-List.ensures.store)
    (subst (λ (s : Store _). RunGoes g.D.Disk c.list.result.stop c.args.store s)
    (sym c.list.ensures.store)
    (stays g.D.Disk (Err c.list.result.stop) c.args.store
    (text_counts ⊤ _ _ _ _ c.list.result.stop c.list.ensures.says)
    (λ finished grown calm. absurd (omega (arith, grown, c.requires.opened)))))

pub returns-in-Acts-clause-explained : goal.returns-in-Acts-clause-explained
returns-in-Acts-clause-explained g c =
    let here = outside_at g.K.Sink g.L.Cell g.L.Gate c.args.output.now c.args.lanes.now
    nothing_told in
    let end = c.without_lanes-in-Acts.result in
    let now = outside_at g.K.Sink g.L.Cell g.L.Gate c.acts.new.output c.args.lanes.now
    end.log.told in
    let call = call_from (devices g.S.Source c.args.input.now here)
    (devices g.S.Source c.args.input.now now) (entries_of end.store) in
    let same = ap (λ (s : Store _). entries_of s)
    (c.without_lanes-in-Acts.ensures.store ∙ c.acts.ensures.store) in
    explains_as (seen c.args.wanted.now) Acts (stored_book c.args.store) call end.stop
    c.in-Acts.is (explains_acts c.args.wanted.now.after (stored_book c.args.store) call end.stop
    (entries_of c.args.store) (explains_printing (acts_text c.args.wanted.now.after)
    (stored_book c.args.store) call end.stop (entries_of c.args.store) refl
    (lanes_rest here (output_at g.K.Sink c.acts.new.output) end.log.told
    c.without_lanes-in-Acts.ensures.log) same
    (rw c.without_lanes-in-Acts.ensures.stop c.acts.ensures.says) refl) same
    c.acts.ensures.replays)

pub returns-in-Acts-clause-goes : goal.returns-in-Acts-clause-goes
returns-in-Acts-clause-goes g c =
    rw (c.without_lanes-in-Acts.ensures.stop, c.without_lanes-in-Acts.ensures.store)
    (subst (λ (s : Store _). RunGoes g.D.Disk c.acts.result.stop c.args.store s)
    (sym c.acts.ensures.store)
    (stays g.D.Disk (Err c.acts.result.stop) c.args.store
    (text_counts ⊤ _ _ _ _ c.acts.result.stop c.acts.ensures.says)
    (λ finished grown calm. absurd (omega (arith, grown, c.requires.opened)))))
