-- What always holds of the fields of a book.
use Rattle.std.specs.Prelude.{◌≡◌, ℕ, ◌≤◌, Option, Some, option_map}
use Rattle.hall_limits.specs.declared.TheConstants.{MAX_ROWS}
use Rattle.book_words.specs.Answers.{IsLegal}
use Rattle.book_rules.specs.View.{StateView}
use Rattle.book_core.specs.declared.pending.Pending.{Pending}
use Rattle.book_core.specs.View.{ReadyEntry}
use Rattle.book_core.specs.ReadyFacts.{IsReadyIn}

-- the entry that is ready
abbrev pub pending_entry : Option Pending → Option ReadyEntry
pending_entry pending = option_map (λ held. held.ready) pending

-- its list is legal, the limit is one that a book may have, and what was made ready is so still
pub record IsKept (state : StateView) (limit : ℕ) (pending : Option Pending) : Type 0 where
  pub legal : IsLegal state.entries
  pub most : limit ≤ MAX_ROWS
  pub ready : (held : Pending) → pending ≡ Some held
      → IsReadyIn state held.ready held.seen held.drawn
