-- How slots compare with dense forms.
use Rattle.std.specs.Prelude.{◌≡◌, ◌≢◌, ◌⊎◌, ℕ, zero, suc, ◌+◌, ◌-◌, ◌*◌, ◌^◌, ◌<◌, ◌≤◌, min, true, false, List, [], ◌++◌, length, take, drop}
use Rattle.book_snapshot.specs.declared.layout.TheConstants.{ROW_BYTES}
use Rattle.book_snapshot.specs.DenseRows.{dense, IsRow}
use Rattle.book_snapshot.specs.Reading.{EndsEarly, IsFaulty}
use Rattle.book_file.specs.declared.compare.Compared.{Compared}
use Rattle.book_file.specs.declared.compare.Slot.{Slot}
use Rattle.book_file.specs.declared.compare.Slot.TheVariants.{Same, Other, Unread}

-- a fact of the bytes that the form of the same row takes
abbrev pub IfSame : Slot → (ℕ → Type 0) → Type 0
IfSame (Same taken) P = P taken
IfSame Other P = Unit {0}
IfSame Unread P = Unit {0}

-- the slot holds something else
abbrev pub IsOther : Slot → Type 0
IsOther (Same taken) = ⊥
IsOther Other = Unit {0}
IsOther Unread = ⊥

-- no whole form stands at the front of these bytes
abbrev pub HasNoForm : List ℕ → Type 0
HasNoForm bytes = EndsEarly ROW_BYTES bytes ⊎ IsFaulty ROW_BYTES bytes

-- no whole form begins there
abbrev pub IsUnread : Slot → Type 0
IsUnread (Same taken) = ⊥
IsUnread Other = ⊥
IsUnread Unread = Unit {0}

-- a slot among others, counted from 0
abbrev pub slot_at : ℕ → List ℕ → List ℕ
slot_at place slots = take ROW_BYTES (drop (ROW_BYTES * place) slots)

-- the dense forms of the first slots
abbrev pub forms_of : ℕ → List ℕ → List ℕ
forms_of zero slots = []
forms_of (suc count) slots = forms_of count slots ++ dense (slot_at count slots)

-- the number of the row of a slot, where the first has this one
abbrev pub number_at : ℕ → ℕ → ℕ
number_at first place = min (first + place) (2 ^ 32 - 1)

-- the content begins with the forms of the slots that are counted, and these take the bytes that are
abbrev pub AreSame : List ℕ → List ℕ → Compared → Type 0
AreSame slots content compared = take compared.bytes content ≡ forms_of compared.slots slots

-- where the next slot differs there is one, and the content doesn't go on with its form
abbrev pub DiffersBehind : List ℕ → List ℕ → ℕ → Compared → Type 0
DiffersBehind slots content first compared = compared.differs ≡ true
    → (ROW_BYTES * (compared.slots + 1) ≤ length slots)
    × ((rest : List ℕ) → IsRow ROW_BYTES (number_at first compared.slots)
    (slot_at compared.slots slots)
    → drop compared.bytes content ≢ dense (slot_at compared.slots slots) ++ rest)

-- where none differs the slots are over, or no whole form stands in the content
abbrev pub EndsBehind : List ℕ → List ℕ → Compared → Type 0
EndsBehind slots content compared = compared.differs ≡ false
    → (length slots < ROW_BYTES * (compared.slots + 1)) ⊎ HasNoForm (drop compared.bytes content)
