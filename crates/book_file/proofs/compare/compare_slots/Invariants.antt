use Rattle.std.proofs.Common.{◌≡◌, ◌≤◌, length, take}
use Rattle.book_file.specs.Comparing.{forms_of, number_at}
use Rattle.book_file.proofs.compare.compare_slots.Given as goal

-- the content so far is the forms of the slots so far, and the next slot has its number
abbrev pub invariant-loop-slot : goal.invariant-loop-slot
invariant-loop-slot l = record {
  within : l.place ≤ length l.content;
  same : take l.place l.content ≡ forms_of l.slot l.slots;
  number : l.number ≡ number_at l.first l.slot;
}
