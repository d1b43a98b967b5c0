use Rattle.std.proofs.Common.{rules, ◌≡◌, ◌+◌, ◌<◌, List, ℕ, ◌∷◌, ◌++◌, length, sym, ap, ◌∙◌, subst, arith, append_assoc}
use Rattle.std.proofs.lemmas.Result.{err_from_is_err_and}
use Rattle.std.specs.List.{AllByRecursion}
use Rattle.hall_limits.specs.declared.TheConstants.{NAME_BYTES}
use Rattle.book_words.specs.declared.act.Entry.{Entry}
use Rattle.row_format.specs.Spelling.{new_layout, row_bytes}
use Rattle.row_format.specs.Allowed.{IsAllowed}
use Rattle.text_streams.specs.Streams.{output_at}
use Rattle.standby_hall.specs.Shipments.{rows_from}
use Rattle.standby_hall.specs.Pages.{IsCutAt}
use Rattle.standby_hall.proofs.ShipSteps.{cut_longer}
use Rattle.standby_hall.proofs.shipping.put_rows.Goals as goal

pub returns-in_err-put-clause-goes : goal.returns-in_err-put-clause-goes
returns-in_err-put-clause-goes g c =
    let p = err_from_is_err_and c.from_residual.result c.from_residual.ensures.1 in
    rw (p.1, p.2) (λ start text put.
    let inv = c.loop-entry.invariant.goes start text put in
    let now = output_at g.K.Sink c.put.new.sink in
    let left = rows_from c.loop-entry.next c.loop-entry.rest.now in
    subst (λ (l : List ℕ). IsCutAt start now l c.in_err-put.field-0.0) inv.2
    (cut_longer start now inv.0 left c.in_err-put.field-0.0
    (c.in_err-put.ensures.goes start inv.0 inv.1)))

pub loop-entry-preserved : goal.loop-entry-preserved
loop-entry-preserved g c =
    let entry = c.in-Some.entry.now in
    let after = c.in-Some.after.now in
    let next = c.loop-entry.next in
    let parts : c.loop-entry.rest.now ≡ entry ∷ after = search rules in
    let inv = c.loop-entry.invariant in
    let row = c.write_row.result in
    let long : length row ≡ 96 = search rules in
    record {
      goes = λ start text put.
          let had = inv.goes start text put in (
            had.0 ++ row,
            c.in_ok-put.ensures.goes start had.0 had.1,
            append_assoc had.0 row (rows_from (next + 1) after)
                ∙ ap (λ (l : List ℕ). had.0 ++ (l ++ rows_from (next + 1) after)) c.write_row.ensures.row
                ∙ ap (λ (es : List Entry). had.0 ++ rows_from next es) (sym parts) ∙ had.2,
          );
      allowed = (subst (λ (es : List Entry). AllByRecursion (IsAllowed NAME_BYTES) es) parts inv.allowed).1;
      few = omega (arith, inv.few, ap length parts);
      room = omega (arith, inv.room, c.in_ok-put.ensures.count, long, ap length parts);
    }
