use Rattle.std.proofs.Common.{rules, ◌≡◌, ◌+◌, List, ℕ, ◌∷◌, ◌++◌, length, sym, ap, ◌∙◌, subst, arith, append_assoc}
use Rattle.std.specs.List.{AllByRecursion}
use Rattle.hall_limits.specs.declared.TheConstants.{NAME_BYTES}
use Rattle.book_words.specs.declared.act.Entry.{Entry}
use Rattle.row_format.specs.Allowed.{IsAllowed}
use Rattle.standby_hall.specs.Shipments.{rows_from}
use Rattle.book_audit.proofs.digest.add_rows.Goals as goal

pub loop-entry-preserved : goal.loop-entry-preserved
loop-entry-preserved c =
    let entry = c.in-Some.entry.now in
    let after = c.in-Some.after.now in
    let next = c.loop-entry.next in
    let parts : c.loop-entry.rest.now ≡ entry ∷ after = search rules in
    let inv = c.loop-entry.invariant in
    let row = c.write_row.result in
    record {
      holds = λ text holds.
          let had = inv.holds text holds in (
            had.0 ++ row,
            c.update.ensures had.0 had.1,
            append_assoc had.0 row (rows_from (next + 1) after)
                ∙ ap (λ (l : List ℕ). had.0 ++ (l ++ rows_from (next + 1) after)) c.write_row.ensures.row
                ∙ ap (λ (es : List Entry). had.0 ++ rows_from next es) (sym parts) ∙ had.2,
          );
      allowed = (subst (λ (es : List Entry). AllByRecursion (IsAllowed NAME_BYTES) es) parts inv.allowed).1;
      few = omega (arith, inv.few, ap length parts);
    }
