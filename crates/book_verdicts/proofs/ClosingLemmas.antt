-- A closing changes nothing that a verdict is told by.
use Rattle.std.proofs.Common.{◌≡◌, ℕ, ℤ, pos, ◌+◌, ◌-ℤ◌, Bool, true, false, ◌||◌, ◌==◌, List, [], ◌∷◌, ◌++◌, length, take, map, get_or, Option, Some, None, option_map, refl, ◌∙◌, ap, append-nil}
use Rattle.std.proofs.lemmas.List.Elements.{filter_map-append}
use Rattle.std.specs.List.{cons_option, filter_map, find}
use Rattle.std.specs.Option.{option_or, option_and_then, unwrap_or}
use Rattle.annex_tables.specs.declared.types.Mode.{Mode}
use Rattle.annex_tables.specs.declared.types.Mode.TheVariants.{Keep, Destroy}
use Rattle.pack_judge.specs.declared.tares.DatedTare.{DatedTare}
use Rattle.pack_judge.specs.Tares.{tare_by_rule}
use Rattle.book_words.specs.declared.name.Name.{Name}
use Rattle.book_words.specs.declared.act.Act.{Act}
use Rattle.book_words.specs.declared.act.Act.TheVariants.{Close}
use Rattle.book_words.specs.declared.act.Entry.{Entry}
use Rattle.book_words.specs.declared.act.Reading.{Reading}
use Rattle.book_words.specs.Acts.{last_said, nominal_put, unit_put, product_given, density_given, nominal_of, unit_of, product_of, density_of}
use Rattle.book_words.specs.Tares.{tare_put, tares_put, tare_of_product}
use Rattle.book_words.specs.Readings.{weighed_reading, readings, reading_of, tare_of_reading}
use Rattle.book_words.specs.Classes.{nominal_of_batch, density_by_unit, density_of_batch}
use Rattle.book_words.specs.Population.{counted_readings, population}
use Rattle.book_words.specs.Samples.{Drawing, drawing_from, drawing_of, second_word, sample_by, sample_of}
use Rattle.book_words.specs.Measures.{Measured, measured_by, measured_of, actual_contents, contents_of_pack, contents_among}
use Rattle.book_words.specs.Verdicts.{second_packs, verdict_of}
use Rattle.book_words.proofs.OneMoreEntry.{advance, readings-push}
use Rattle.book_words.proofs.DrawnLemmas.{drawing_of-push}
use Rattle.book_laws.proofs.KnownLaws.{silent}
use Rattle.book_laws.proofs.VerdictLaws.{NetAgrees, Agree, same_verdict}

or_none : {A : Type 0} (o : Option A) → option_or o None ≡ o
or_none None = refl
or_none (Some x) = refl

or_false : (b : Bool) → (b || false) ≡ b
or_false true = refl
or_false false = refl

still : (name : Name) (reading : Reading) → advance (Close name) reading ≡ reading
still name reading i = record reading
    { next_prior = or_none reading.next_prior i; voided = or_false reading.voided i }

all_still : (name : Name) (some : List Reading) → map (advance (Close name)) some ≡ some
all_still name [] = refl
all_still name (reading ∷ some) =
    ap (λ (r : Reading). r ∷ map (advance (Close name)) some) (still name reading)
    ∙ ap (λ rs. reading ∷ rs) (all_still name some)

agree_each : {A B : Type 0} (f g : A → Option B) → ((x : A) → f x ≡ g x) → (o : Option A)
    → option_and_then f o ≡ option_and_then g o
agree_each f g same None = refl
agree_each f g same (Some x) = same x

map_each : {A B : Type 0} (f g : A → Option B) → ((x : A) → f x ≡ g x) → (xs : List A)
    → filter_map f xs ≡ filter_map g xs
map_each f g same [] = refl
map_each f g same (x ∷ xs) = ap (λ o. cons_option o (filter_map f xs)) (same x)
    ∙ ap (cons_option (g x)) (map_each f g same xs)

module _ (entries : List Entry) (entry : Entry) (name : Name) (is : entry.act ≡ Close name) where
  unsaid : {A : Type 0} (says : Act → Option A) → says (Close name) ≡ None
      → last_said says (entries ++ entry ∷ []) ≡ last_said says entries
  unsaid says none = silent says entries entry (ap says is ∙ none)

  readings_still : readings (entries ++ entry ∷ []) ≡ readings entries
  readings_still =
      readings-push entries entry
      ∙ ap (λ (act : Act). map (advance act) (readings entries)
      ++ cons_option (weighed_reading (length entries + 1) entries act entry.signal []) []) is
      ∙ append-nil (map (advance (Close name)) (readings entries))
      ∙ all_still name (readings entries)

  tares_still : (product : Name) (day : ℤ)
      → tare_of_product (entries ++ entry ∷ []) product day ≡ tare_of_product entries product day
  tares_still product day =
      ap (λ (tares : List DatedTare). tare_by_rule tares day)
      (filter_map-append (λ (e : Entry). tare_put product e.act) entries (entry ∷ [])
      ∙ ap (λ (act : Act). tares_put entries product ++ cons_option (tare_put product act) []) is
      ∙ append-nil (tares_put entries product))

  tare_still : (batch : Option Name) (day : Option ℤ)
      → tare_of_reading (entries ++ entry ∷ []) batch day ≡ tare_of_reading entries batch day
  tare_still None day = refl
  tare_still (Some batch) None = refl
  tare_still (Some batch) (Some day) =
      ap (option_and_then (λ (product : Name). tare_of_product (entries ++ entry ∷ []) product day))
      (unsaid (product_given batch) refl)
      ∙ agree_each (λ (product : Name). tare_of_product (entries ++ entry ∷ []) product day)
      (λ (product : Name). tare_of_product entries product day)
      (λ product. tares_still product day) (product_of entries batch)

  contents_still : (mode : Mode) (reading : Reading) (measured : Option Measured)
      → option_map (actual_contents (entries ++ entry ∷ []) mode reading) measured
      ≡ option_map (actual_contents entries mode reading) measured
  contents_still mode reading None = refl
  contents_still Keep reading (Some measured) =
      ap (λ (t : Option ℤ). Some (measured.gross -ℤ unwrap_or t (pos 0)))
      (tare_still reading.batch reading.day)
  contents_still Destroy reading (Some measured) = refl

  pack_still : (mode : Mode) (pack : ℕ)
      → contents_of_pack (entries ++ entry ∷ []) mode pack ≡ contents_of_pack entries mode pack
  pack_still mode pack =
      ap (λ (some : List Reading). option_and_then
      (λ (r : Reading). option_map (actual_contents (entries ++ entry ∷ []) mode r)
      (measured_of (entries ++ entry ∷ []) pack))
      (find (λ (r : Reading). r.number == pack) some)) readings_still
      ∙ ap (λ (m : Option Measured). option_and_then
      (λ (r : Reading). option_map (actual_contents (entries ++ entry ∷ []) mode r) m)
      (reading_of entries pack)) (unsaid (measured_by pack) refl)
      ∙ agree_each (λ (r : Reading). option_map (actual_contents (entries ++ entry ∷ []) mode r)
      (measured_of entries pack)) (λ (r : Reading). option_map (actual_contents entries mode r)
      (measured_of entries pack))
      (λ r. contents_still mode r (measured_of entries pack)) (reading_of entries pack)

  packs_still : (mode : Mode) (packs : List ℕ)
      → contents_among (entries ++ entry ∷ []) mode packs ≡ contents_among entries mode packs
  packs_still mode packs = map_each (contents_of_pack (entries ++ entry ∷ []) mode)
      (contents_of_pack entries mode) (pack_still mode) packs

  sample_still : (batch : Name) → sample_of (entries ++ entry ∷ []) batch ≡ sample_of entries batch
  sample_still batch =
      ap (λ w. option_map (λ (d : Drawing). sample_by d w)
      (drawing_of (entries ++ entry ∷ []) batch)) (unsaid (second_word batch) refl)
      ∙ ap (option_map (λ (d : Drawing). sample_by d (last_said (second_word batch) entries)))
      (drawing_of-push entries entry batch
      ∙ ap (λ (act : Act). option_or (drawing_from batch entries act)
      (drawing_of entries batch)) is)

  nominal_still : (batch : Name)
      → nominal_of_batch (entries ++ entry ∷ []) batch ≡ nominal_of_batch entries batch
  nominal_still batch =
      ap (λ o. unwrap_or o (pos 0))
      (ap (option_and_then (nominal_of (entries ++ entry ∷ []))) (unsaid (product_given batch) refl)
      ∙ agree_each (nominal_of (entries ++ entry ∷ [])) (nominal_of entries)
      (λ product. unsaid (nominal_put product) refl) (product_of entries batch))

  density_still : (batch : Name)
      → density_of_batch (entries ++ entry ∷ []) batch ≡ density_of_batch entries batch
  density_still batch =
      ap (λ o. density_by_unit o (unwrap_or (density_of (entries ++ entry ∷ []) batch) 0))
      (ap (option_and_then (unit_of (entries ++ entry ∷ []))) (unsaid (product_given batch) refl)
      ∙ agree_each (unit_of (entries ++ entry ∷ [])) (unit_of entries)
      (λ product. unsaid (unit_put product) refl) (product_of entries batch))
      ∙ ap (λ o. density_by_unit (option_and_then (unit_of entries) (product_of entries batch))
      (unwrap_or o 0)) (unsaid (density_given batch) refl)

  net_still : (reading : Reading) → NetAgrees (entries ++ entry ∷ []) entries reading
  net_still reading = ap (λ (t : Option ℤ). reading.gross -ℤ unwrap_or t (pos 0))
      (tare_still reading.batch reading.day)

  -- with a closing the list agrees with the one before
  pub close_agrees : (batch : Name) → Agree (entries ++ entry ∷ []) entries batch
  close_agrees batch =
      record {
        packs = ap (counted_readings batch) readings_still;
        sample = sample_still batch;
        nominal = nominal_still batch;
        density = density_still batch;
        nets = λ k d less. net_still (get_or (population entries batch) k d);
        contents = λ sample found. record {
          first = packs_still sample.mode sample.first;
          second = packs_still sample.mode (second_packs sample);
          mean = packs_still sample.mode (take sample.plan.mean_n sample.first);
        };
      }

  -- the verdict of any batch stays with a closing
  pub close_keeps : (batch : Name) → verdict_of (entries ++ entry ∷ []) batch ≡ verdict_of entries batch
  close_keeps batch = same_verdict (entries ++ entry ∷ []) entries batch (close_agrees batch)
