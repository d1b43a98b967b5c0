-- What was entered has a number, and keeps it.
use Rattle.std.proofs.Common.{◌≡◌, true, List, [], ◌∷◌, ◌++◌, is_some, ◌∙◌, ap}
use Rattle.std.proofs.lemmas.List.Elements.{filter_map-append}
use Rattle.book_words.specs.declared.name.Name.{Name}
use Rattle.book_words.specs.declared.act.Entry.{Entry}
use Rattle.book_words.specs.Acts.{said, batch_opened}
use Rattle.book_words.specs.Order.{place_of, product_named, product_number, batch_number}
use Rattle.book_words.proofs.PlaceLemmas.{place_among_more}

-- a product that was entered keeps its number
pub product_keeps : (entries : List Entry) (entry : Entry) (name : Name)
    → is_some (product_number entries name) ≡ true
    → product_number (entries ++ entry ∷ []) name ≡ product_number entries name
product_keeps entries entry name h =
    ap (λ names. place_of names name)
    (filter_map-append (λ (e : Entry). product_named e.act) entries (entry ∷ []))
    ∙ place_among_more (said product_named entries) (said product_named (entry ∷ [])) name h

-- so does a batch
pub batch_keeps : (entries : List Entry) (entry : Entry) (name : Name)
    → is_some (batch_number entries name) ≡ true
    → batch_number (entries ++ entry ∷ []) name ≡ batch_number entries name
batch_keeps entries entry name h =
    ap (λ names. place_of names name)
    (filter_map-append (λ (e : Entry). batch_opened e.act) entries (entry ∷ []))
    ∙ place_among_more (said batch_opened entries) (said batch_opened (entry ∷ [])) name h
