use Rattle.std.proofs.Common.{◌≡◌, ℕ, ◌+◌, List, ◌++◌, length}
use Rattle.std.specs.List.{AllByRecursion}
use Rattle.hall_limits.specs.declared.TheConstants.{NAME_BYTES}
use Rattle.sha2.specs.Hashers.{Holds256}
use Rattle.row_format.specs.Allowed.{IsAllowed}
use Rattle.standby_hall.specs.Shipments.{rows_from}
use Rattle.book_audit.proofs.digest.add_rows.Given as goal

-- what was added, and then the rows that are left, are the whole
abbrev pub invariant-loop-entry : goal.invariant-loop-entry
invariant-loop-entry l = record {
  holds : (text : List ℕ) → Holds256 l.fn.hasher text
      → (added : List ℕ) × Holds256 l.hasher added
      × (added ++ rows_from l.next l.rest ≡ text ++ rows_from l.number l.entries);
  allowed : AllByRecursion (IsAllowed NAME_BYTES) l.rest;
  few : l.next + length l.rest ≡ l.number + length l.entries;
}

abbrev pub decreases-loop-entry : goal.decreases-loop-entry
decreases-loop-entry l = length l.rest
