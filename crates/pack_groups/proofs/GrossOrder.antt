-- Grosses in order: what an insertion and a removal leave.
use Rattle.std.proofs.Common.{◌≡◌, ℕ, ◌+◌, ◌<◌, cond, eqb, List, length, refl, sym, ◌∙◌, arith}
use Rattle.std.specs.List.{count_by, insert, remove}
use Rattle.std.proofs.lemmas.List.Sums.{sum_by-remove}
use Rattle.std.proofs.lemmas.List.Edits.{length-insert}
use Rattle.std.proofs.lemmas.Option.{slice_get_within, get_or_from_slice_get}
use Rattle.pack_groups.specs.declared.grosses.Gross.{Gross}
use Rattle.pack_groups.specs.Rising.{IsRising, mass_of, HasOneMore}
use Rattle.pack_groups.proofs.OrderLemmas.{below, below-le-length, IsRising-insert, found_at}

pub rising_put : (old new : List Gross) (place gross : ℕ) (item : Gross) → IsRising mass_of old
    → item.mass ≡ gross → place ≡ below mass_of gross old → new ≡ insert old place item
    → IsRising mass_of new
rising_put old new place gross item up is at made =
    rw (made, at, sym is) (IsRising-insert mass_of old item up)

pub longer_put : (old new : List Gross) (place gross : ℕ) (item : Gross)
    → place ≡ below mass_of gross old → new ≡ insert old place item → length new ≡ length old + 1
longer_put old new place gross item at made =
    let within = below-le-length mass_of gross old in
    rw made (length-insert old place item (omega arith))

module _ (old new : List Gross) (place gross : ℕ) (up : IsRising mass_of old)
    (some : 0 < count_by (λ other. eqb (mass_of other) gross) old)
    (at : place ≡ below mass_of gross old) where
  pub within_order : place < length old
  within_order =
      let found = found_at mass_of gross old up some in
      rw at (slice_get_within old (below mass_of gross old) found.0 found.1)

  pub taken_out : new ≡ remove old place → HasOneMore gross new old
  taken_out made test =
      let found = found_at mass_of gross old up some in
      let item = get_or_from_slice_get old (below mass_of gross old) found.0 found.0 found.1 in
      let whole = sum_by-remove (λ other. cond (test (mass_of other)) 1 0) old place found.0
      within_order in
      rw made (sym whole ∙ rw (at, item, found.2) refl)
