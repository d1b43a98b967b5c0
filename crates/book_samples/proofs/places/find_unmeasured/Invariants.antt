use Rattle.std.proofs.Common.{◌≡◌, find, is_none, drop}
use Rattle.book_samples.specs.Kept.{measured_in}
use Rattle.book_samples.proofs.places.find_unmeasured.Given as goal

abbrev pub invariant-loop-pack : goal.invariant-loop-pack
invariant-loop-pack l =
    find (λ pack. is_none (measured_in l.measured.entries pack)) l.packs
    ≡ find (λ pack. is_none (measured_in l.measured.entries pack)) (drop l.pack-index l.packs)
