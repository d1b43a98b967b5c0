-- The samples of a batch, and what was measured, don't change with who brought the entries.
use Rattle.std.proofs.Common.{◌≡◌, ℕ, cond, false, List, count_by, find, take, Option, Some, None, is_some, is_none, option_map, slice_get, refl, ◌∙◌}
use Rattle.std.proofs.lemmas.List.{take-map}
use Rattle.std.proofs.lemmas.Option.{slice_get-map}
use Rattle.std.specs.List.{filter_map, last_or, range_with_len}
use Rattle.std.specs.Option.{option_and_then, option_map_or}
use Rattle.annex_tables.specs.declared.types.Mode.{Mode}
use Rattle.annex_tables.specs.declared.types.Mode.TheVariants.{Keep, Destroy}
use Rattle.annex_tables.specs.Errors.{limits_of}
use Rattle.pack_judge.specs.declared.types.Pile.{Pile}
use Rattle.pack_judge.specs.Piles.{pile_members}
use Rattle.book_words.specs.declared.name.Name.{Name}
use Rattle.book_words.specs.declared.act.Act.{Act}
use Rattle.book_words.specs.declared.act.Act.TheVariants.{Draw}
use Rattle.book_words.specs.declared.act.Entry.{Entry}
use Rattle.book_words.specs.declared.act.Reading.{Reading}
use Rattle.book_words.specs.Names.{same_name}
use Rattle.book_words.specs.Classes.{is_below}
use Rattle.book_words.specs.Population.{unsampled_pile}
use Rattle.book_words.specs.Samples.{numbers_of, drawing_from, drawings, second_word, sample_by, sample_of, holds_pack, is_sampled}
use Rattle.book_words.specs.Piles.{pile_with_sample, pile_of, in_pile}
use Rattle.book_words.specs.Measures.{Measured, measured_by, measured_of, measured_count, first_unmeasured, actual_contents, contents_of_pack, contents_among, defective_count}
use Rattle.caller_laws.specs.Alike.{unnamed, all_unnamed}
use Rattle.caller_laws.proofs.Said.{last_same, nominal_same, density_same, net_same}
use Rattle.caller_laws.proofs.Readings.{length_same, population_same, reading_same}

drawing_from_same : (batch : Name) (before : List Entry) (act : Act)
    → drawing_from batch (all_unnamed before) act ≡ drawing_from batch before act
drawing_from_same batch before (Draw name mode word) =
    λ i. cond (same_name name batch)
    (Some (record {
      mode = mode;
      word = word;
      packs = numbers_of (population_same before batch i);
    }))
    None
drawing_from_same batch before act = refl

drawing_at_same : (batch : Name) (entries : List Entry) (place : ℕ)
    → option_and_then
    (λ entry. drawing_from batch (take place (all_unnamed entries)) entry.act)
    (slice_get (all_unnamed entries) place)
    ≡ option_and_then (λ entry. drawing_from batch (take place entries) entry.act)
    (slice_get entries place)
drawing_at_same batch entries place =
    (λ i. option_and_then
    (λ entry. drawing_from batch (take-map unnamed place entries i) entry.act)
    (slice_get-map unnamed entries place i))
    ∙ each (slice_get entries place)
  where
    each : (o : Option Entry)
        → option_and_then (λ entry. drawing_from batch (all_unnamed (take place entries)) entry.act)
        (option_map unnamed o)
        ≡ option_and_then (λ entry. drawing_from batch (take place entries) entry.act) o
    each None = refl
    each (Some entry) = drawing_from_same batch (take place entries) entry.act

module _ (entries : List Entry) where
  pub drawings_same : (batch : Name) → drawings (all_unnamed entries) batch ≡ drawings entries batch
  drawings_same batch =
      λ i. filter_map (λ place. drawing_at_same batch entries place i)
      (range_with_len 0 (length_same entries i))

  pub sample_same : (batch : Name) → sample_of (all_unnamed entries) batch ≡ sample_of entries batch
  sample_same batch =
      λ i. option_map (λ drawing. sample_by drawing (last_same (second_word batch) entries i))
      (last_or None (drawings_same batch i))

  pub sampled_same : (reading : Reading)
      → is_sampled (all_unnamed entries) reading ≡ is_sampled entries reading
  sampled_same reading =
      λ i. option_map_or (λ sample. holds_pack sample reading.number)
      (option_and_then (λ batch. sample_same batch i) reading.batch) false

  pub pile_same : (reading : Reading) → pile_of (all_unnamed entries) reading ≡ pile_of entries reading
  pile_same reading = λ i. pile_with_sample (unsampled_pile reading) (sampled_same reading i)

  pub in_pile_same : (pile : Pile) (some : List Reading)
      → in_pile (all_unnamed entries) pile some ≡ in_pile entries pile some
  in_pile_same pile some = λ i. pile_members (λ reading. pile_same reading i) pile some

  -- ---- what was measured

  pub measured_same : (pack : ℕ)
      → measured_of (all_unnamed entries) pack ≡ measured_of entries pack
  measured_same pack = last_same (measured_by pack) entries

  pub measured_count_same : (packs : List ℕ)
      → measured_count (all_unnamed entries) packs ≡ measured_count entries packs
  measured_count_same packs = λ i. count_by (λ pack. is_some (measured_same pack i)) packs

  pub unmeasured_same : (packs : List ℕ)
      → first_unmeasured (all_unnamed entries) packs ≡ first_unmeasured entries packs
  unmeasured_same packs = λ i. find (λ pack. is_none (measured_same pack i)) packs

  actual_same : (mode : Mode) (reading : Reading) (measured : Measured)
      → actual_contents (all_unnamed entries) mode reading measured
      ≡ actual_contents entries mode reading measured
  actual_same Keep reading measured = net_same entries reading.batch reading.day measured.gross
  actual_same Destroy reading measured = refl

  contents_same : (mode : Mode) (pack : ℕ)
      → contents_of_pack (all_unnamed entries) mode pack ≡ contents_of_pack entries mode pack
  contents_same mode pack =
      λ i. option_and_then
      (λ reading. option_map (λ measured. actual_same mode reading measured i)
      (measured_same pack i))
      (reading_same entries pack i)

  pub contents_among_same : (mode : Mode) (packs : List ℕ)
      → contents_among (all_unnamed entries) mode packs ≡ contents_among entries mode packs
  contents_among_same mode packs = λ i. filter_map (λ pack. contents_same mode pack i) packs

  pub defective_same : (batch : Name) (mode : Mode) (packs : List ℕ)
      → defective_count (all_unnamed entries) batch mode packs
      ≡ defective_count entries batch mode packs
  defective_same batch mode packs =
      λ i. count_by
      (is_below (density_same entries batch i) (limits_of (nominal_same entries batch i)).t1)
      (contents_among_same mode packs i)
