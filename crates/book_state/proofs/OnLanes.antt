-- What is known of the batch of a lane by the numbers of the batch and of its product.
use Rattle.std.proofs.Common.{◌≡◌, ℕ, ℤ, ◌<◌, List, length, true, false, Option, Some, None, is_none, refl, sym, ◌∙◌, ap}
use Rattle.std.specs.Option.{option_and_then}
use Rattle.book_words.specs.declared.name.Name.{Name}
use Rattle.book_words.specs.declared.act.Entry.{Entry}
use Rattle.book_words.specs.Acts.{product_of, lane_batch}
use Rattle.book_words.specs.Order.{product_number, batch_number}
use Rattle.book_words.specs.Tares.{tare_of_product}
use Rattle.book_words.specs.Readings.{tare_of_reading}
use Rattle.book_words.specs.Answers.{IsLegal}
use Rattle.book_packs.specs.Stand.{Standing, IsPacksOf}
use Rattle.book_index.specs.Listed.{batch_product_number}
use Rattle.book_index.proofs.LegalNames.{legal_named}
use Rattle.book_index.proofs.LaneLemmas.{no_lane}
use Rattle.book_state.proofs.Batches.{number_within}
use Rattle.book_state.proofs.NumberedNames.{no_product}
use Rattle.book_state.proofs.EntryFacts.{batchless}

-- without a product there is no tare
pub untared : (entries : List Entry) (batch : Option Name) (day : Option ℤ) → IsLegal entries
    → None ≡ option_and_then (batch_product_number entries) batch
    → None ≡ tare_of_reading entries batch day
untared entries None day legal none = refl
untared entries (Some batch) day legal none =
    sym (batchless entries batch day (no_product entries batch legal none))

-- without a day neither
pub dayless : (entries : List Entry) (batch : Option Name) → None ≡ tare_of_reading entries batch None
dayless entries None = refl
dayless entries (Some batch) = refl

-- the tare of the product of a number is that of the batch
pub tared : (entries : List Entry) (batch : Option Name) (product : ℕ) (day : ℤ) (tare : Option ℤ)
    → Some product ≡ option_and_then (batch_product_number entries) batch
    → ((name : Name) → product_number entries name ≡ Some product
    → tare ≡ tare_of_product entries name day) → tare ≡ tare_of_reading entries batch (Some day)
tared entries None product day tare is told = absurd (cc)
tared entries (Some batch) product day tare is told = each (product_of entries batch) is
  where
    each : (o : Option Name) → Some product ≡ option_and_then (product_number entries) o
        → tare ≡ option_and_then (λ name. tare_of_product entries name day) o
    each None h = absurd (cc)
    each (Some name) h = told name (sym h)

-- a lane that has a batch has its number
pub numbered : (entries : List Entry) (lane number : ℕ) (batch : Name)
    → lane_batch entries lane ≡ Some batch
    → Some number ≡ option_and_then (batch_number entries) (lane_batch entries lane)
    → Some number ≡ batch_number entries batch
numbered entries lane number batch on is = is ∙ ap (option_and_then (batch_number entries)) on

-- the number is one of those that are kept
pub lane_within : (entries : List Entry) (standing : Standing) (batch : Option Name) (number : ℕ)
    → IsPacksOf entries standing → Some number ≡ option_and_then (batch_number entries) batch
    → number < length standing.batches
lane_within entries standing None number stands is = absurd (cc)
lane_within entries standing (Some batch) number stands is =
    number_within entries standing batch number stands is

-- so the lane has a batch
pub batch_on : (entries : List Entry) (batch : Option Name) (number : ℕ)
    → Some number ≡ option_and_then (batch_number entries) batch → (name : Name)
    × (batch ≡ Some name)
batch_on entries None number is = absurd (cc)
batch_on entries (Some name) number is = (name, refl)

-- a lane has no batch where it has no batch's number
pub idle_by_number : (entries : List Entry) (lane : ℕ) (number : Option ℕ) → IsLegal entries
    → number ≡ option_and_then (batch_number entries) (lane_batch entries lane)
    → is_none number ≡ is_none (lane_batch entries lane)
idle_by_number entries lane None legal is =
    ap (λ (o : Option Name). is_none o) (no_lane entries (legal_named entries legal) lane (sym is))
idle_by_number entries lane (Some number) legal is =
    sym (ap (λ (o : Option Name). is_none o) (batch_on entries (lane_batch entries lane) number is).1)

-- and a lane that is idle has none
pub off_lane : (batch : Option Name) (number : Option ℕ) → None ≡ number
    → is_none number ≡ is_none batch → None ≡ batch
off_lane None number none idle = refl
off_lane (Some name) number none idle =
    absurd (let clash : true ≡ false = ap (λ (o : Option ℕ). is_none o) none ∙ idle in cc)
