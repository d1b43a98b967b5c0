use Rattle.std.proofs.Common.{◌≡◌, [], List, ap, ◌∙◌, subst}
use Rattle.book_words.specs.declared.act.Entry.{Entry}
use Rattle.book_core.specs.View.{BookView}
use Rattle.text_streams.specs.Streams.{output_at, IsCutIn}
use Rattle.standby_hall.specs.Shipments.{shipment}
use Rattle.hall_alone.proofs.CallEnds.{cut_in}
use Rattle.hall_alone.proofs.reports.write_shipment.Goals as goal

pub returns-in-Err : goal.returns-in-Err
returns-in-Err g c =
    subst
    (λ (es : List Entry). IsCutIn (output_at g.K.Sink c.args.output.now)
    (output_at g.K.Sink c.ship_entries.new.sink) [] (shipment c.args.after es))
    (c.entries.ensures.value ∙ ap (λ (v : BookView). v.entries) c.book.ensures)
    (cut_in (output_at g.K.Sink c.args.output.now)
    (output_at g.K.Sink c.ship_entries.new.sink)
    (shipment c.args.after c.entries.result.now) c.in-Err.field-0 c.in-Err.ensures.partly)
