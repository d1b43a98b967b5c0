-- The entry of a number.
use Rattle.std.proofs.Common.{◌≡◌, ℕ, zero, suc, ◌<◌, ◌≤◌, ◌-◌, List, cond, ap, arith, length, slice_get, get_or, IfSome, Option, Some, None, option_copied, refl, sym, Bor}
use Rattle.std.specs.Option.{MatchOption}
use Rattle.std.specs.List.{HoldsAt}
use Rattle.std.proofs.lemmas.Bool.{le-leb}
use Rattle.std.proofs.lemmas.Option.{slice_get_past, slice_get_read}
use Rattle.book_words.specs.declared.act.Entry.{Entry}
use Rattle.book_state.specs.Known.{entry_numbered}

-- what a place tells
pub got : (o : Option (Bor Entry)) (entries : List Entry) (place : ℕ)
    → MatchOption o (length entries ≤ place)
    (λ x. (place < length entries) × HoldsAt {X = Entry} (λ y. x.now ≡ y) entries place)
    → IfSome o (λ x. x.now ≡ get_or entries place x.now) → option_copied o ≡ slice_get entries place
got None entries place past read = sym (slice_get_past entries place past)
got (Some x) entries place within read =
    sym (slice_get_read entries (length entries) place x.now refl within.0 read)

-- the place of a number is one less
pub at_number : (entries : List Entry) (number : ℕ) → (number ≡ 0 → ⊥)
    → slice_get entries (number - 1) ≡ entry_numbered entries number
at_number entries zero h = absurd (h refl)
at_number entries (suc place) h =
    sym (ap (λ b. cond b (slice_get entries (suc place - 1)) None) (le-leb 1 (suc place) (omega arith)))
