use Rattle.std.proofs.Common.{◌≡◌, ◌≤◌, count_by, is_some, take}
use Rattle.book_samples.specs.Kept.{measured_in}
use Rattle.book_samples.proofs.places.count_measured.Given as goal

abbrev pub invariant-loop-pack : goal.invariant-loop-pack
invariant-loop-pack l =
    (l.count ≤ l.pack-index)
    × (l.count ≡ count_by (λ pack. is_some (measured_in l.measured.entries pack))
    (take l.pack-index l.packs))
