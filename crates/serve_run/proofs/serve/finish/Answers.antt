use Rattle.std.proofs.Common.{◌≡◌, ℕ, List, sym, ap, ◌∙◌, subst}
use Rattle.book_core.specs.View.{BookView}
use Rattle.book_store.specs.declared.store.Store.{Store}
use Rattle.book_store.specs.Stores.{entries_of}
use Rattle.book_words.specs.Answers.{IsLegal}
use Rattle.text_streams.specs.Streams.{output_at}
use Rattle.serve_run.specs.Plans.{RestsBehind, Says, end_handed}
use Rattle.serve_run.specs.Serving.{serve_text, some_lack}
use Rattle.serve_run.proofs.serve.finish.Goals as goal

pub compose-requires-clause-legal : goal.compose-requires-clause-legal
compose-requires-clause-legal g c =
    subst (λ (b : BookView). IsLegal b.entries) (sym c.book.ensures) c.requires.sound.legal

pub returns : goal.returns
returns g c =
    let disk = g.D.Disk in
    let ended = c.end_with.ensures in
    let lack : c.some_lack.result ≡ some_lack (end_handed c.end_with.result) =
    c.some_lack.ensures ∙ ap some_lack (sym ended.handed) in
    let kept = c.keep_rows-kept.result in
    let jobs = c.args.end.jobs.items in
    let said : c.deref-2.result.now ≡ serve_text jobs (entries_of c.args.end.store) =
    c.deref-2.ensures.value ∙ (c.compose.ensures.text
    ∙ (ap (λ js. serve_text js c.book.result.now.entries) c.deref.ensures.value
    ∙ ap (λ (b : BookView). serve_text jobs b.entries) c.book.ensures)) in
    record {
      ends = record {
        stop = c.say-stop.result;
        stopped = ended.stop;
        back = ended.handed ∙ c.hand_back-handed.ensures.back;
        kept = kept;
        rests = subst (λ lacks. RestsBehind disk c.args.end.faults lacks
            c.args.end.store c.end_with.result.store kept) lack
            (subst (λ (s : Store g.row.D.Denot). RestsBehind disk c.args.end.faults
            c.some_lack.result c.args.end.store s kept) (sym ended.store) c.keep_rows-kept.ensures.kept);
        says = subst (λ (text : List ℕ). Says (output_at g.K.Sink c.args.output.now)
            (output_at g.K.Sink c.say-stop.new.output) text kept c.say-stop.result)
            said c.say-stop.ensures.says;
      };
    }
