-- What a caller that has the list knows of what is kept.
use Rattle.std.proofs.Common.{◌≡◌, ℕ, zero, suc, ◌<◌, List, [], ◌∷◌, length, Some, sym, ◌∙◌, ap, subst, arith}
use Rattle.std.specs.List.{slice_get}
use Rattle.std.proofs.lemmas.List.{length-map}
use Rattle.book_words.specs.declared.name.Name.{Name}
use Rattle.book_words.specs.declared.act.Entry.{Entry}
use Rattle.book_words.specs.Acts.{said, batch_opened, state_of}
use Rattle.book_words.specs.Order.{batch_number}
use Rattle.book_words.specs.Refusals.{is_closed}
use Rattle.book_packs.specs.Stand.{Standing, IsPacksOf, terms_of_batch}
use Rattle.book_packs.specs.Told.{closed_in}
use Rattle.book_words.proofs.PlaceLemmas.{place_of-name}

within : (names : List Name) (place : ℕ) (name : Name) → slice_get names place ≡ Some name
    → place < length names
within [] place name h = absurd (cc)
within (first ∷ names) zero name h = omega arith
within (first ∷ names) (suc place) name h = let rest = within names place name h in omega (arith, rest)

-- there are as many batches as were opened
pub batches_long : (entries : List Entry) (kept : Standing) → IsPacksOf entries kept
    → length kept.batches ≡ length (said batch_opened entries)
batches_long entries kept stands = ap length stands.batches
    ∙ length-map (said batch_opened entries) (terms_of_batch entries)

-- the number of a batch is below them
pub batch_within : (entries : List Entry) (kept : Standing) (name : Name) (batch : ℕ)
    → IsPacksOf entries kept → batch_number entries name ≡ Some batch → batch < length kept.batches
batch_within entries kept name batch stands is =
    subst (λ n. batch < n) (sym (batches_long entries kept stands))
    (within (said batch_opened entries) batch name
    (place_of-name (said batch_opened entries) name batch is))

-- there is a flag for each batch
pub closed_long : (entries : List Entry) (kept : Standing) → IsPacksOf entries kept
    → length (closed_in entries) ≡ length kept.batches
closed_long entries kept stands =
    length-map (said batch_opened entries) (λ batch. is_closed (state_of entries batch))
    ∙ sym (batches_long entries kept stands)
