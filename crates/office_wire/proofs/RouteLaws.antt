-- What is found at segments is what their spot is with the texts of its parameters.
use Rattle.std.proofs.Common.{◌≡◌, Bool, true, false, List, ℕ, [], ◌∷◌, ◌&&◌, codes, Option, Some, None, if◌then◌else◌, option_map, refl, ap, ◌∙◌}
use Rattle.std.specs.Option.{option_and_then}
use Rattle.std.specs.Str.{bytes_eq}
use Rattle.book_words.specs.declared.name.Name.{Name}
use Rattle.book_words.specs.declared.act.Question.TheVariants as question
use Rattle.book_words.specs.Names.{name_of}
use Rattle.office_routes.specs.declared.spot.Spot.{Spot}
use Rattle.office_routes.specs.declared.spot.Spot.TheVariants.{Acts, Rows, Shipment, Summary, Sheet, Sample, Pack, Lane, Packs}
use Rattle.office_routes.specs.Spots.{Found, with_text, with_texts, found_word, found_part, found_detail, found_page, found_at, find}
use Rattle.office_wire.specs.declared.types.Route.{Route}
use Rattle.office_wire.specs.declared.types.Route.TheVariants.{Question}
use Rattle.office_wire.specs.Routes.{word_route, part_route, detail_route, page_route, sheet_route, sample_route, pack_route, lane_route, rows_route, shipment_route, packs_route, row_count, segments, segments_route}
use Rattle.office_wire.specs.Spots.{spot_route}

abbrev pub found_route : Option Found → Option Route
found_route found = option_and_then (λ f. spot_route f.0 f.1 f.2) found

-- a spot with a parameter, with which nothing is found where its text is empty
with_text_is : (spot : Spot) → None ≡ spot_route spot [] [] → (text : List ℕ)
    → found_route (with_text spot text) ≡ spot_route spot text []
with_text_is spot none [] = none
with_text_is spot none (byte ∷ text) = refl

no_sheet : None ≡ spot_route Sheet [] []
unfolding name_of
no_sheet = refl

no_sample : None ≡ spot_route Sample [] []
unfolding name_of
no_sample = refl

-- so is one with two, of which neither may be empty
no_batch : (number : List ℕ) → None ≡ packs_route [] number
unfolding name_of
no_batch number = refl

no_number : (name : List ℕ) → None ≡ packs_route name []
no_number name = either (name_of name) where
  either : (o : Option Name)
      → None ≡ option_and_then (λ batch. option_map (λ after. Question (question.Packs batch after))
      (row_count [])) o
  either None = refl
  either (Some batch) = refl

with_texts_is : (name number : List ℕ)
    → found_route (with_texts Packs name number) ≡ packs_route name number
with_texts_is [] number = no_batch number
with_texts_is (byte ∷ name) [] = no_number (byte ∷ name)
with_texts_is (byte ∷ name) (digit ∷ number) = refl

word_is : (word : List ℕ) → found_route (found_word word) ≡ word_route word
word_is word = by (bytes_eq word (codes "acts")) (bytes_eq word (codes "summary")) where
  by : (acts summary : Bool)
      → found_route (if acts then Some (Acts, [], [])
      else (if summary then Some (Summary, [], []) else None))
      ≡ (if acts then spot_route Acts [] []
      else (if summary then spot_route Summary [] [] else None))
  by true summary = refl
  by false true = refl
  by false false = refl

part_is : (word part : List ℕ) → found_route (found_part word part) ≡ part_route word part
part_is word part =
    by (bytes_eq word (codes "batches")) (bytes_eq word (codes "packs"))
    (bytes_eq word (codes "lanes")) (bytes_eq word (codes "acts")) (bytes_eq word (codes "rows"))
  where
    by : (batches packs lanes acts rows : Bool)
        → found_route (if batches then with_text Sheet part
        else (if packs then with_text Pack part
        else (if lanes then with_text Lane part
        else (if acts then with_text Rows part
        else (if rows then with_text Shipment part else None)))))
        ≡ (if batches then sheet_route part
        else (if packs then pack_route part
        else (if lanes then lane_route part
        else (if acts then rows_route part
        else (if rows then shipment_route part else None)))))
    by true packs lanes acts rows = with_text_is Sheet no_sheet part
    by false true lanes acts rows = with_text_is Pack refl part
    by false false true acts rows = with_text_is Lane refl part
    by false false false true rows = with_text_is Rows refl part
    by false false false false true = with_text_is Shipment refl part
    by false false false false false = refl

detail_is : (word part detail : List ℕ)
    → found_route (found_detail word part detail) ≡ detail_route word part detail
detail_is word part detail =
    by (bytes_eq word (codes "batches") && bytes_eq detail (codes "sample"))
  where
    by : (sample : Bool) → found_route (if sample then with_text Sample part else None)
        ≡ (if sample then sample_route part else None)
    by true = with_text_is Sample no_sample part
    by false = refl

page_is : (word part detail number : List ℕ)
    → found_route (found_page word part detail number) ≡ page_route word part detail number
page_is word part detail number =
    by (bytes_eq word (codes "batches") && bytes_eq detail (codes "packs"))
  where
    by : (packs : Bool) → found_route (if packs then with_texts Packs part number else None)
        ≡ (if packs then packs_route part number else None)
    by true = with_texts_is part number
    by false = refl

route_at_is : (segments : List (List ℕ)) → found_route (found_at segments) ≡ segments_route segments
route_at_is [] = refl
route_at_is ((byte ∷ first) ∷ others) = refl
route_at_is ([] ∷ []) = refl
route_at_is ([] ∷ word ∷ []) = word_is word
route_at_is ([] ∷ word ∷ part ∷ []) = part_is word part
route_at_is ([] ∷ word ∷ part ∷ detail ∷ []) = detail_is word part detail
route_at_is ([] ∷ word ∷ part ∷ detail ∷ number ∷ []) = page_is word part detail number
route_at_is ([] ∷ word ∷ part ∷ detail ∷ number ∷ more ∷ others) = refl

-- what the routes find at a path is what is found there
pub route_found : (path : List ℕ) (found : Option Found) → found ≡ find path
    → found_route found ≡ segments_route (segments path)
route_found path found is = ap found_route is ∙ route_at_is (segments path)
