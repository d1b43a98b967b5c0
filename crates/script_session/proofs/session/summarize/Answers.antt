use Rattle.std.proofs.Common.{◌≡◌, ℕ, List, [], OnOk, sym, ap, ◌∙◌, subst}
use Rattle.std.proofs.lemmas.Result.{err_from_is_err_and, on_ok_weaker, IfErr-weaker}
use Rattle.book_words.specs.Views.{summary}
use Rattle.batch_reports.specs.Texts.{summary_text}
use Rattle.book_store.specs.Stores.{BookView}
use Rattle.book_store.specs.Stores.{entries_of, held_of}
use Rattle.text_streams.specs.Streams.{output_at, WroteAll, IsCutIn}
use Rattle.store_runs.specs.declared.stop.Stop.{Stop}
use Rattle.script_session.specs.Ends.{StopsAtSummary}
use Rattle.script_session.proofs.SummaryEnds.{stops_unkept}
use Rattle.script_session.proofs.WrittenTexts.{goes_written}
use Rattle.script_session.proofs.session.summarize.Goals as goal

pub returns-in_err-keep_snapshot-clause-stops : goal.returns-in_err-keep_snapshot-clause-stops
returns-in_err-keep_snapshot-clause-stops g c =
    let p = err_from_is_err_and c.from_residual.result c.from_residual.ensures.1 in
    rw (p.1, p.2) (stops_unkept (held_of c.args.store.now) (output_at g.K.Sink c.args.output.now)
    (entries_of c.args.store.now) c.in_err-keep_snapshot.field-0.0
    c.in_err-keep_snapshot.ensures.stops)

pub returns-clause-stops : goal.returns-clause-stops
returns-clause-stops g c =
    let rows = entries_of c.args.store.now in
    let book : c.book.result.now.entries ≡ rows =
    ap (λ (b : BookView). b.entries) (c.book.ensures ∙ c.keep_snapshot.ensures.book) in
    let text : c.deref.result.now ≡ summary_text (summary rows) = c.deref.ensures.value
    ∙ c.compose_summary.ensures.text ∙ ap (λ (es : List _). summary_text (summary es)) book in
    let before = output_at g.K.Sink c.args.output.now in
    let now = output_at g.K.Sink c.write_whole.new.output in
    IfErr-weaker c.write_whole.result _ _
    (λ stop cut. subst (λ (s : Stop). StopsAtSummary (held_of c.args.store.now) before now rows [] s)
    (sym cut.0) (subst (λ (t : List ℕ). IsCutIn before now [] t) text cut.1))
    c.write_whole.ensures.cut

pub returns-clause-wrote : goal.returns-clause-wrote
returns-clause-wrote g c =
    let rows = entries_of c.args.store.now in
    let book : c.book.result.now.entries ≡ rows =
    ap (λ (b : BookView). b.entries) (c.book.ensures ∙ c.keep_snapshot.ensures.book) in
    let text : c.deref.result.now ≡ summary_text (summary rows) = c.deref.ensures.value
    ∙ c.compose_summary.ensures.text ∙ ap (λ (es : List _). summary_text (summary es)) book in
    subst (λ (t : List ℕ). OnOk c.write_whole.result (WroteAll (output_at g.K.Sink c.args.output.now)
    (output_at g.K.Sink c.write_whole.new.output) t)) text c.write_whole.ensures.wrote

pub returns-clause-goes : goal.returns-clause-goes
returns-clause-goes g c =
    goes_written g.D.Disk c.args.store.now c.keep_snapshot.new.store c.write_whole.result
    (IfErr-weaker c.write_whole.result _ _ (λ stop cut. cut.0) c.write_whole.ensures.cut)
    c.in_ok-keep_snapshot.ensures.goes

pub returns-clause-snapshot : goal.returns-clause-snapshot
returns-clause-snapshot g c =
    on_ok_weaker c.write_whole.result (λ wrote. c.in_ok-keep_snapshot.ensures.snapshot)
    c.write_whole.ensures.wrote
