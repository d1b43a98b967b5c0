use Rattle.std.proofs.Common.{◌≡◌, ◌+◌, ◌*◌, ◌≤◌, ℕ, List, length, drop}
use Rattle.hall_limits.specs.declared.TheConstants.{MAX_ROWS}
use Rattle.device_facts.specs.Prefix.{IsPrefixOf}
use Rattle.book_words.specs.Answers.{IsLegal}
use Rattle.book_snapshot.specs.declared.layout.TheConstants.{ROW_BYTES}
use Rattle.book_journal.specs.Rows.{gate_behind}
use Rattle.book_audit.specs.Walking.{SlotsStand}
use Rattle.book_audit.proofs.slots.enter_slots.Given as goal

abbrev pub invariant-loop-slot : goal.invariant-loop-slot
invariant-loop-slot l = record {
  few : length l.book.entries ≤ MAX_ROWS;
  legal : IsLegal l.book.entries;
  walks : (bytes : List ℕ) → SlotsStand bytes l.fn.book.entries
      → IsPrefixOf l.piece (drop (gate_behind (length l.fn.book.entries)) bytes)
      → SlotsStand bytes l.book.entries
      × IsPrefixOf l.rest (drop (gate_behind (length l.book.entries)) bytes);
  count : ROW_BYTES * length l.fn.book.entries + length l.piece
      ≡ ROW_BYTES * length l.book.entries + length l.rest;
}

abbrev pub decreases-loop-slot : goal.decreases-loop-slot
decreases-loop-slot l = length l.rest
