use Rattle.std.proofs.Common.{rules, ◌≡◌, ◌+◌, length, take, refl, sym, subst, arith}
use Rattle.std.proofs.lemmas.List.{length-take-le}
use Rattle.text_streams.specs.Streams.{output_at}
use Rattle.standby_hall.specs.Pages.{HasPut}
use Rattle.standby_hall.specs.contracts.page.Page.{the_view}
use Rattle.standby_hall.proofs.PageSteps.{flushed, cut_at}
use Rattle.standby_hall.proofs.page.Page.flush.Goals as goal

pub returns-in-Ok-clause-goes : goal.returns-in-Ok-clause-goes
returns-in-Ok-clause-goes g c = λ start text put.
    let before = output_at g.K.Sink c.args.sink.now in
    let now = output_at g.K.Sink c.write_all.new.sink in
    let old = the_view c.self.inside in
    let new = the_view
    (record {
      bytes = c.self.inside.bytes;
      filled = 0;
      sent = c.self.inside.sent + c.self.inside.filled;
    }) in
    let long : length old.waiting ≡ c.self.inside.filled = search rules in
    flushed start before now old text
    (subst (λ v. HasPut start before v text) (sym c.self.view_is) put) new c.in-Ok.ensures.written
    c.in-Ok.ensures.cause
    (omega (arith, long)) refl

pub returns-in-Err-clause-goes : goal.returns-in-Err-clause-goes
returns-in-Err-clause-goes g c = λ start text put.
    let before = output_at g.K.Sink c.args.sink.now in
    let now = output_at g.K.Sink c.write_all.new.sink in
    cut_at start before now (the_view c.self.inside) text
    (subst (λ v. HasPut start before v text) (sym c.self.view_is) put)
    c.in-Err.field-0.done _ c.in-Err.ensures.partly c.in-Err.ensures.some_left
    c.in-Err.ensures.cause refl
