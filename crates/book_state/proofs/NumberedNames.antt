-- What is named by a number is there.
use Rattle.std.proofs.Common.{◌≡◌, ℕ, true, List, Option, Some, None, is_some, slice_get, sym, ◌∙◌, ap, refl, option_and_then}
use Rattle.book_words.specs.declared.name.Name.{Name}
use Rattle.book_words.specs.declared.act.Entry.{Entry}
use Rattle.book_words.specs.Acts.{said, product_of, lane_batch}
use Rattle.book_words.specs.Order.{product_named, product_number, batch_number}
use Rattle.book_words.specs.Answers.{IsLegal}
use Rattle.book_index.specs.Listed.{batch_product_number}
use Rattle.book_index.proofs.LegalNames.{legal_named, product_numbered}
use Rattle.book_words.proofs.SaidNames.{product_where_opened}
use Rattle.book_words.proofs.PlaceLemmas.{place_of-name}
use Rattle.book_words.proofs.PlainLemmas.{none_of}

-- a batch without a product's number has no product
pub no_product : (entries : List Entry) (batch : Name) → IsLegal entries
    → None ≡ batch_product_number entries batch → product_of entries batch ≡ None
no_product entries batch legal none =
    none_of (product_of entries batch)
    (sym (product_numbered entries (legal_named entries legal) batch) ∙ ap is_some (sym none))

-- the name at the number of a batch's product is that of the product
pub product_at : (entries : List Entry) (batch : Name) (number : ℕ)
    → Some number ≡ batch_product_number entries batch
    → slice_get (said product_named entries) number ≡ product_of entries batch
product_at entries batch number is = either (product_of entries batch) refl
  where
    either : (o : Option Name) → product_of entries batch ≡ o
        → slice_get (said product_named entries) number ≡ o
    either None none = absurd (let clash : Some number ≡ None = is
        ∙ ap (option_and_then (product_number entries)) none in cc)
    either (Some product) some = place_of-name (said product_named entries) product number
        (sym (is ∙ ap (option_and_then (product_number entries)) some))

-- the batch of a lane has a number
pub lane_has_batch : (entries : List Entry) (lane : ℕ) (batch : Name) → IsLegal entries
    → lane_batch entries lane ≡ Some batch → is_some (batch_number entries batch) ≡ true
lane_has_batch entries lane batch legal on = sym (product_where_opened entries batch)
    ∙ (legal_named entries legal).on_lane lane batch on
