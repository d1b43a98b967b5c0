use Rattle.std.proofs.Common.{◌≡◌, ◌+◌, ◌++◌, [], List, ℕ, sym, subst}
use Rattle.std.proofs.lemmas.Result.{err_from_is_err_and}
use Rattle.text_streams.specs.Streams.{output_at}
use Rattle.standby_hall.specs.Shipments.{head_bytes, rows_from, shipped}
use Rattle.standby_hall.specs.Pages.{HasPut}
use Rattle.standby_hall.proofs.ShipSteps.{put_nothing, cut_longer, flushed_all, flushed_cut}
use Rattle.standby_hall.proofs.shipping.ship_behind.Goals as goal

pub returns-in_err-put-clause-partly : goal.returns-in_err-put-clause-partly
returns-in_err-put-clause-partly g c =
    let p = err_from_is_err_and c.from_residual.result c.from_residual.ensures.1 in
    let start = output_at g.K.Sink c.args.sink.now in
    rw (p.1, p.2) (cut_longer start (output_at g.K.Sink c.put.new.sink) []
    (shipped c.args.head.now c.args.entries.now) c.in_err-put.field-0.0
    (c.in_err-put.ensures.goes start []
    (subst (λ v. HasPut start start v []) (sym c.new-page.ensures) (put_nothing start))))

pub returns-in_err-put_rows-clause-partly : goal.returns-in_err-put_rows-clause-partly
returns-in_err-put_rows-clause-partly g c =
    let p = err_from_is_err_and c.from_residual-in_err-put_rows.result
    c.from_residual-in_err-put_rows.ensures.1 in
    let start = output_at g.K.Sink c.args.sink.now in
    let begun = subst (λ v. HasPut start start v []) (sym c.new-page.ensures) (put_nothing start) in
    let put = subst (HasPut start (output_at g.K.Sink c.put.new.sink) c.put.new.self) c.spell_head.ensures
    (c.in_ok-put.ensures.goes start [] begun) in
    rw (p.1, p.2) (c.in_err-put_rows.ensures.goes start (head_bytes c.args.head.now) put)

pub returns-clause-shipped : goal.returns-clause-shipped
returns-clause-shipped g c =
    let start = output_at g.K.Sink c.args.sink.now in
    let begun = subst (λ v. HasPut start start v []) (sym c.new-page.ensures) (put_nothing start) in
    let put = subst (HasPut start (output_at g.K.Sink c.put.new.sink) c.put.new.self) c.spell_head.ensures
    (c.in_ok-put.ensures.goes start [] begun) in
    let text = shipped c.args.head.now c.args.entries.now in
    let all = c.in_ok-put_rows.ensures.goes start (head_bytes c.args.head.now) put in
    flushed_all start (output_at g.K.Sink c.flush.new.sink) c.flush.new.self text c.flush.result
    (c.flush.ensures.goes start text all) c.flush.ensures.empty

pub returns-clause-partly : goal.returns-clause-partly
returns-clause-partly g c =
    let start = output_at g.K.Sink c.args.sink.now in
    let begun = subst (λ v. HasPut start start v []) (sym c.new-page.ensures) (put_nothing start) in
    let put = subst (HasPut start (output_at g.K.Sink c.put.new.sink) c.put.new.self) c.spell_head.ensures
    (c.in_ok-put.ensures.goes start [] begun) in
    let text = shipped c.args.head.now c.args.entries.now in
    let all = c.in_ok-put_rows.ensures.goes start (head_bytes c.args.head.now) put in
    flushed_cut start (output_at g.K.Sink c.flush.new.sink) c.flush.new.self text c.flush.result
    (c.flush.ensures.goes start text all)
