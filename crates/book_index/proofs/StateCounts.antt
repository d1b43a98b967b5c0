-- How many batches are in a state.
use Rattle.std.proofs.Common.{◌≡◌, ℕ, ◌+◌, ◌≤◌, Bool, true, false, ◌||◌, cond, List, [], ◌∷◌, ◌++◌, map, take, count_by, slice_get, Option, Some, None, is_some, option_map, refl, sym, ◌∙◌, ap, arith, if◌then◌else◌}
use Rattle.std.proofs.lemmas.List.{take_more}
use Rattle.std.proofs.lemmas.List.Sums.{sum_by_push}
use Rattle.std.proofs.lemmas.Option.{slice_get-map, slice_get_within, get_or_from_slice_get}
use Rattle.std.specs.Option.{option_map_or, unwrap_or}
use Rattle.std.specs.List.{fold}
use Rattle.book_words.specs.declared.name.Name.{Name}
use Rattle.book_words.specs.declared.act.BatchState.{BatchState}
use Rattle.book_words.specs.declared.act.BatchState.TheVariants.{Running}
use Rattle.book_words.specs.declared.act.Entry.{Entry}
use Rattle.book_words.specs.Names.{same_name}
use Rattle.book_words.specs.Acts.{said, batch_opened, state_of, same_state}
use Rattle.book_words.specs.Order.{place_of}
use Rattle.book_words.specs.Views.{batches_in}
use Rattle.book_words.proofs.NameLemmas.{same_name_itself}
use Rattle.book_index.specs.declared.types.BatchTerms.{BatchTerms}
use Rattle.book_index.specs.Known.{Known}
use Rattle.book_index.specs.Listed.{IsIndexOf, terms_of_batch}
use Rattle.book_words.proofs.PlaceLemmas.{place_is_some}
use Rattle.book_words.proofs.SaidNames.{product_where_opened}
use Rattle.book_index.proofs.LegalNames.{AreNamed}

-- whether a batch is in a state
abbrev pub is_in : BatchState → Name × BatchTerms → Bool
is_in state batch = same_state batch.1.state state

-- one batch more
pub counted_more : (state : BatchState) (batches : List (Name × BatchTerms)) (place : ℕ)
    (terms : BatchTerms) → slice_get (map (λ (batch : Name × BatchTerms). batch.1) batches) place ≡ Some terms
    → count_by (is_in state) (take (place + 1) batches)
    ≡ count_by (is_in state) (take place batches)
    + (if same_state terms.state state then 1 else 0)
counted_more state batches place terms at =
    either (slice_get batches place) refl
    (sym (slice_get-map (λ (batch : Name × BatchTerms). batch.1) batches place) ∙ at)
  where
    value_is : {x y : BatchTerms} → Some x ≡ Some y → x ≡ y
    value_is h = cc

    either : (o : Option (Name × BatchTerms)) → slice_get batches place ≡ o
        → option_map (λ (batch : Name × BatchTerms). batch.1) o ≡ Some terms
        → count_by (is_in state) (take (place + 1) batches)
        ≡ count_by (is_in state) (take place batches)
        + (if same_state terms.state state then 1 else 0)
    either None is h = absurd (cc)
    either (Some batch) is h =
        ap (count_by (is_in state)) (take_more batches place batch
        (slice_get_within batches place batch is)
        ∙ ap (λ (last : Name × BatchTerms). take place batches ++ last ∷ [])
        (get_or_from_slice_get batches place batch batch is))
        ∙ sum_by_push (λ (b : Name × BatchTerms). cond (is_in state b) 1 0) (take place batches) batch
        ∙ ap (λ (t : BatchTerms). count_by (is_in state) (take place batches)
        + (if same_state t.state state then 1 else 0)) (value_is h)

-- counting what is kept with names is counting the names
fold_named : (names : List Name) (f : Name → BatchTerms) (state : BatchState) (test : Name → Bool)
    (sum : ℕ) → ((name : Name) → is_some (place_of names name) ≡ true
    → same_state (f name).state state ≡ test name)
    → fold (λ a (batch : Name × BatchTerms). a + cond (is_in state batch) 1 0) sum
    (map (λ name. (name, f name)) names)
    ≡ fold (λ a (name : Name). a + cond (test name) 1 0) sum names
fold_named [] f state test sum each = refl
fold_named (first ∷ names) f state test sum each =
    ap (λ b. fold (λ a (batch : Name × BatchTerms). a + cond (is_in state batch) 1 0)
    (sum + cond b 1 0) (map (λ name. (name, f name)) names))
    (each first (place_is_some first names first
    ∙ ap (λ b. b || is_some (place_of names first)) (same_name_itself first)))
    ∙ fold_named names f state test (sum + cond (test first) 1 0)
    (λ name h. each name (place_is_some first names name ∙ ap (λ b. same_name first name || b) h
    ∙ or_true (same_name first name)))
  where
    or_true : (b : Bool) → b || true ≡ true
    or_true true = refl
    or_true false = refl

-- the batches of an index that are in a state are those of its list
pub counted_is : (entries : List Entry) (known : Known) → IsIndexOf entries known → AreNamed entries
    → (state : BatchState) → count_by (is_in state) known.batches ≡ batches_in entries state
counted_is entries known is named state =
    ap (count_by (is_in state)) is.batches
    ∙ fold_named (said batch_opened entries) (terms_of_batch entries) state
    (λ batch. option_map_or (λ now. same_state now state) (state_of entries batch) false) 0
    (λ name h. either (state_of entries name) (named.state name ∙ product_where_opened entries name ∙ h))
  where
    either : (o : Option BatchState) → is_some o ≡ true
        → same_state (unwrap_or o Running) state
        ≡ option_map_or (λ now. same_state now state) o false
    either None h = absurd (let clash : false ≡ true = h in cc)
    either (Some now) h = refl

pub one_at_most : (test : Bool) → (if test then 1 else 0) ≤ 1
one_at_most true = omega arith
one_at_most false = omega arith
