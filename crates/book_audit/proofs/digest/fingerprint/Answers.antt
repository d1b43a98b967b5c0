use Rattle.std.proofs.Common.{List, sym, subst, ap, arith, length, length-take}
use Rattle.std.specs.List.{AllByRecursion}
use Rattle.hall_limits.specs.declared.TheConstants.{NAME_BYTES}
use Rattle.book_words.specs.declared.act.Entry.{Entry}
use Rattle.book_words.proofs.LegalLemmas.{legal_few}
use Rattle.row_format.specs.Allowed.{IsAllowed}
use Rattle.book_audit.proofs.Digests.{allowed_first}
use Rattle.book_audit.proofs.digest.fingerprint.Goals as goal

pub add_rows-requires-clause-allowed : goal.add_rows-requires-clause-allowed
add_rows-requires-clause-allowed c =
    subst (λ (es : List Entry). AllByRecursion (IsAllowed NAME_BYTES) es)
    (sym c.split_at.ensures.front)
    (allowed_first c.lawful_entries_are_allowed.ensures c.min-count.result c.args.entries.now
    c.requires)

pub add_rows-requires-clause-few : goal.add_rows-requires-clause-few
add_rows-requires-clause-few c =
    omega (
      arith,
      legal_few c.args.entries.now c.requires,
      ap length c.split_at.ensures.front,
      length-take c.min-count.result c.args.entries.now,
    )
