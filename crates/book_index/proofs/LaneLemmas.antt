-- What the lanes of an index tell.
use Rattle.std.proofs.Common.{◌≡◌, ℕ, zero, suc, ◌+◌, Bool, true, false, ◌==◌, List, [], ◌∷◌, map, find, slice_get, Option, Some, None, is_some, option_map, refl, sym, ◌∙◌, ap, subst, if◌then◌else◌}
use Rattle.std.proofs.lemmas.Bool.{eqb-true, eq-eqb}
use Rattle.std.proofs.lemmas.Option.{slice_get-map}
use Rattle.std.specs.List.{range_with_len}
use Rattle.std.specs.Option.{option_map_or, option_and_then, unwrap_or}
use Rattle.hall_limits.specs.declared.TheConstants.{MAX_LANE}
use Rattle.book_words.specs.declared.name.Name.{Name}
use Rattle.book_words.specs.declared.act.BatchState.{BatchState}
use Rattle.book_words.specs.declared.act.BatchState.TheVariants.{Running}
use Rattle.book_words.specs.declared.act.Entry.{Entry}
use Rattle.book_words.specs.Names.{same_name}
use Rattle.book_words.specs.Acts.{said, batch_opened, lane_batch}
use Rattle.book_words.specs.Order.{batch_number}
use Rattle.book_words.specs.Refusals.{is_closed, lane_running}
use Rattle.book_words.proofs.NameLemmas.{same_name_is, same_name_itself}
use Rattle.book_index.specs.declared.types.BatchTerms.{BatchTerms}
use Rattle.book_index.specs.Known.{Known}
use Rattle.book_index.specs.Lanes.{has_number, lane_of_number}
use Rattle.book_index.specs.Listed.{IsIndexOf, terms_of_batch, batch_product_number, lane_batch_number}
use Rattle.book_words.proofs.PlaceLemmas.{place_of-name}
use Rattle.book_words.proofs.PlainLemmas.{in_both, bool_same}
use Rattle.std.proofs.lemmas.Option.{none-some, same_Some}
use Rattle.book_words.proofs.SaidNames.{product_where_opened}
use Rattle.book_index.proofs.LegalNames.{AreNamed, product_numbered}

-- the name of the batch that a lane has
pub lane_is : (entries : List Entry) (lane number : ℕ)
    → lane_batch_number entries lane ≡ Some number
    → slice_get (said batch_opened entries) number ≡ lane_batch entries lane
lane_is entries lane number = either (lane_batch entries lane)
  where
    either : (o : Option Name) → option_and_then (batch_number entries) o ≡ Some number
        → slice_get (said batch_opened entries) number ≡ o
    either None h = absurd (none-some _ h)
    either (Some batch) h = place_of-name (said batch_opened entries) batch number h

there : (entries : List Entry) → AreNamed entries → (lane : ℕ) (batch : Name)
    → lane_batch entries lane ≡ Some batch → is_some (batch_number entries batch) ≡ true
there entries named lane batch h = sym (product_where_opened entries batch) ∙ named.on_lane lane batch h

-- a lane without the number of a batch has none
pub no_lane : (entries : List Entry) → AreNamed entries → (lane : ℕ)
    → lane_batch_number entries lane ≡ None → None ≡ lane_batch entries lane
no_lane entries named lane = either (lane_batch entries lane) refl
  where
    either : (o : Option Name) → lane_batch entries lane ≡ o
        → option_and_then (batch_number entries) o ≡ None → None ≡ o
    either None is h = refl
    either (Some batch) is h = absurd
        (let clash : false ≡ true = ap is_some (sym h) ∙ there entries named lane batch is in cc)

-- the first lane among those that are numbered from one on
found_from : (number first many : ℕ) (f : ℕ → Option ℕ)
    → lane_of_number number first (map f (range_with_len first many))
    ≡ find (λ lane. has_number number (f lane)) (range_with_len first many)
found_from number first zero f = refl
found_from number first (suc many) f =
    ap (λ o. if has_number number (f first) then Some first else o)
    (found_from number (first + 1) many f)

find_same : (f g : ℕ → Bool) → ((n : ℕ) → f n ≡ g n) → (xs : List ℕ) → find f xs ≡ find g xs
find_same f g each xs i = find (λ n. each n i) xs

-- whether a lane has a batch is told by the number of that batch
lane_test : (entries : List Entry) → AreNamed entries → (batch : Name) (number lane : ℕ)
    → batch_number entries batch ≡ Some number
    → has_number number (lane_batch_number entries lane)
    ≡ option_map_or (λ name. same_name name batch) (lane_batch entries lane) false
lane_test entries named batch number lane is = either (lane_batch entries lane) refl
  where
    placed : (name : Name) (o : Option ℕ) → batch_number entries name ≡ o → is_some o ≡ true
        → has_number number o ≡ same_name name batch
    placed name None found h = absurd (let clash : false ≡ true = h in cc)
    placed name (Some place) found h =
        bool_same (place == number) (same_name name batch)
        (λ k.
        let same : place ≡ number = eqb-true place number k in
        let one : name ≡ batch = same_Some _ _
        (sym (place_of-name (said batch_opened entries) name place found)
        ∙ ap (slice_get (said batch_opened entries)) same
        ∙ place_of-name (said batch_opened entries) batch number is) in
        subst (λ n. same_name name n ≡ true) one (same_name_itself name))
        (λ k. eq-eqb place number (same_Some _ _
        (sym found ∙ ap (batch_number entries) (same_name_is name batch k) ∙ is)))

    either : (o : Option Name) → lane_batch entries lane ≡ o
        → has_number number (option_and_then (batch_number entries) o)
        ≡ option_map_or (λ name. same_name name batch) o false
    either None h = refl
    either (Some name) h = placed name (batch_number entries name) refl (there entries named lane name h)

-- the least lane that has a batch
pub running_is : (entries : List Entry) (known : Known) → IsIndexOf entries known → AreNamed entries
    → (batch : Name) (number : ℕ) → batch_number entries batch ≡ Some number
    → lane_of_number number 1 known.lanes ≡ lane_running entries batch
running_is entries known is named batch number h =
    ap (lane_of_number number 1) is.lanes
    ∙ found_from number 1 MAX_LANE (lane_batch_number entries)
    ∙ find_same (λ lane. has_number number (lane_batch_number entries lane))
    (λ lane. option_map_or (λ name. same_name name batch) (lane_batch entries lane) false)
    (λ lane. lane_test entries named batch number lane h) (range_with_len 1 MAX_LANE)

-- no lane has what isn't a batch
pub running_none : (entries : List Entry) → AreNamed entries → (batch : Name)
    → batch_number entries batch ≡ None → None ≡ lane_running entries batch
running_none entries named batch h =
    sym (find_same (λ lane. option_map_or (λ name. same_name name batch)
    (lane_batch entries lane) false) (λ lane. false) each (range_with_len 1 MAX_LANE)
    ∙ never (range_with_len 1 MAX_LANE))
  where
    never : (xs : List ℕ) → find (λ lane. false) xs ≡ None
    never [] = refl
    never (x ∷ xs) = never xs

    either : (lane : ℕ) (o : Option Name) → lane_batch entries lane ≡ o
        → option_map_or (λ name. same_name name batch) o false ≡ false
    either lane None is = refl
    either lane (Some name) is =
        in_both (same_name name batch)
        (λ k. absurd (let clash : true ≡ false = sym (there entries named lane name is)
        ∙ ap (λ n. is_some (batch_number entries n)) (same_name_is name batch k)
        ∙ ap is_some h in cc))
        (λ k. k)

    each : (lane : ℕ) → option_map_or (λ name. same_name name batch) (lane_batch entries lane) false
        ≡ false
    each lane = either lane (lane_batch entries lane) refl

-- a batch without a state isn't closed
pub closed_told : (o : Option BatchState) → is_closed (Some (unwrap_or o Running)) ≡ is_closed o
closed_told None = refl
closed_told (Some state) = refl

itself : (o : Option ℕ) → is_some o ≡ true → Some (unwrap_or o 0) ≡ o
itself None h = absurd (let clash : false ≡ true = h in cc)
itself (Some number) h = refl

-- what is kept at the number of a lane's batch has the number of the batch's product
pub product_on_lane : (entries : List Entry) (known : Known) → IsIndexOf entries known
    → AreNamed entries → (lane number : ℕ) → lane_batch_number entries lane ≡ Some number
    → (kept : Option BatchTerms)
    → kept ≡ option_map (λ (batch : Name × BatchTerms). batch.1) (slice_get known.batches number)
    → option_map (λ (terms : BatchTerms). terms.product) kept
    ≡ option_and_then (batch_product_number entries) (lane_batch entries lane)
product_on_lane entries known is named lane number at kept told =
    ap (option_map (λ (terms : BatchTerms). terms.product)) told
    ∙ ap (λ (o : Option (Name × BatchTerms)). option_map (λ (terms : BatchTerms). terms.product)
    (option_map (λ (batch : Name × BatchTerms). batch.1) o))
    (ap (λ batches. slice_get batches number) is.batches
    ∙ slice_get-map (λ (name : Name). (name, terms_of_batch entries name))
    (said batch_opened entries) number
    ∙ ap (option_map (λ (name : Name). (name, terms_of_batch entries name)))
    (lane_is entries lane number at))
    ∙ either (lane_batch entries lane) refl
  where
    either : (o : Option Name) → lane_batch entries lane ≡ o
        → option_map (λ (terms : BatchTerms). terms.product)
        (option_map (λ (batch : Name × BatchTerms). batch.1)
        (option_map (λ (name : Name). (name, terms_of_batch entries name)) o))
        ≡ option_and_then (batch_product_number entries) o
    either None on = refl
    either (Some batch) on = itself (batch_product_number entries batch)
        (product_numbered entries named batch ∙ named.on_lane lane batch on)

-- so do the terms that are kept there, in the order of the numbers
pub terms_on_lane : (entries : List Entry) (known : Known) → IsIndexOf entries known
    → AreNamed entries → (lane : ℕ) (terms : List BatchTerms)
    → ((place : ℕ) → slice_get terms place
    ≡ option_map (λ (batch : Name × BatchTerms). batch.1) (slice_get known.batches place))
    → (kept : Option BatchTerms)
    → kept ≡ option_and_then (slice_get terms) (lane_batch_number entries lane)
    → option_map (λ (terms : BatchTerms). terms.product) kept
    ≡ option_and_then (batch_product_number entries) (lane_batch entries lane)
terms_on_lane entries known is named lane terms each kept = either (lane_batch_number entries lane) refl
  where
    either : (o : Option ℕ) → lane_batch_number entries lane ≡ o
        → kept ≡ option_and_then (slice_get terms) o
        → option_map (λ (terms : BatchTerms). terms.product) kept
        ≡ option_and_then (batch_product_number entries) (lane_batch entries lane)
    either None at told = ap (option_map (λ (terms : BatchTerms). terms.product)) told
        ∙ ap (option_and_then (batch_product_number entries)) (no_lane entries named lane at)
    either (Some number) at told =
        product_on_lane entries known is named lane number at kept (told ∙ each number)
