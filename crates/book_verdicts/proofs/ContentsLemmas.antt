-- The contents of packs, and how many of them are defective, one pack at a time.
use Rattle.std.proofs.Common.{◌≡◌, ℕ, ℤ, int_lt, ◌+◌, ◌-ℤ◌, ◌<◌, Bool, false, cond, List, [], ◌∷◌, ◌++◌, length, take, get_or, Option, Some, None, option_map, refl, sym, ◌∙◌, ap, arith}
use Rattle.std.proofs.lemmas.List.{take_more}
use Rattle.std.proofs.lemmas.List.Elements.{filter_map-append}
use Rattle.std.specs.List.{cons_option, count_by, fold}
use Rattle.std.specs.Option.{option_and_then, option_map_or}
use Rattle.annex_tables.specs.declared.types.Mode.{Mode}
use Rattle.annex_tables.specs.declared.types.Mode.TheVariants.{Keep, Destroy}
use Rattle.pack_judge.specs.declared.types.Signal.{Signal}
use Rattle.book_words.specs.declared.name.Name.{Name}
use Rattle.book_words.specs.declared.act.Entry.{Entry}
use Rattle.book_words.specs.declared.act.Reading.{Reading}
use Rattle.book_words.specs.Readings.{reading_of}
use Rattle.book_words.specs.Classes.{is_below, density_of_batch, limits_of_batch}
use Rattle.book_words.specs.Measures.{Measured, measured_of, actual_contents, contents_of_pack, contents_among, defective_count}
use Rattle.book_state.specs.declared.types.KnownPack.{KnownPack}
use Rattle.book_state.specs.Known.{known_record, known_reading, known_pack}
use Rattle.std.proofs.lemmas.Option.{same_Some}
use Rattle.book_state.specs.Densities.{limit_at}
use Rattle.book_state.proofs.Below.{below_is}
use Rattle.book_verdicts.specs.Testing.{is_pack_defective}

-- the contents of a known pack that was measured
abbrev pub contents_by : Mode → ℤ → Measured → ℤ
contents_by Keep tare measured = measured.gross -ℤ tare
contents_by Destroy tare measured = measured.gross -ℤ measured.empty

by_mode : (entries : List Entry) (mode : Mode) (reading : Reading) (measured : Measured)
    (batch : Name) (day : ℤ) (signal : Signal)
    → actual_contents entries mode reading measured
    ≡ contents_by mode (known_record entries reading batch day signal).tare measured
by_mode entries Keep reading measured batch day signal = refl
by_mode entries Destroy reading measured batch day signal = refl

-- a pack that is known and was measured has these contents
pub known_contents : (entries : List Entry) (mode : Mode) (pack : ℕ) (known : KnownPack)
    (measured : Measured) → known_pack entries pack ≡ Some known
    → measured_of entries pack ≡ Some measured
    → contents_of_pack entries mode pack ≡ Some (contents_by mode known.tare measured)
known_contents entries mode pack known measured is was = each (reading_of entries pack) refl is
  where
    each : (o : Option Reading) → reading_of entries pack ≡ o
        → option_and_then (known_reading entries) o ≡ Some known
        → option_and_then (λ (reading : Reading). option_map (actual_contents entries mode reading)
        (measured_of entries pack)) o ≡ Some (contents_by mode known.tare measured)
    each None found k = absurd (cc)
    each (Some reading) found k = ap (option_map (actual_contents entries mode reading)) was
        ∙ parts reading.batch reading.day reading.signal k
      where
        parts : (b : Option Name) (d : Option ℤ) (s : Option Signal)
            → option_and_then (λ batch. option_and_then
            (λ day. option_map (known_record entries reading batch day) s) d) b ≡ Some known
            → Some (actual_contents entries mode reading measured)
            ≡ Some (contents_by mode known.tare measured)
        parts None d s h = absurd (cc)
        parts (Some batch) None s h = absurd (cc)
        parts (Some batch) (Some day) None h = absurd (cc)
        parts (Some batch) (Some day) (Some signal) h =
            ap Some (by_mode entries mode reading measured batch day signal)
            ∙ ap (λ (k : KnownPack). Some (contents_by mode k.tare measured)) (same_Some _ known h)

count_from : {A : Type 0} (test : A → Bool) (xs : List A) (o : Option A) (n : ℕ)
    → fold (λ m x. m + cond (test x) 1 0) n (xs ++ cons_option o [])
    ≡ fold (λ m x. m + cond (test x) 1 0) n xs + cond (option_map_or test o false) 1 0
count_from test [] None n = omega arith
count_from test [] (Some x) n = refl
count_from test (x ∷ xs) o n = count_from test xs o (n + cond (test x) 1 0)

-- with one pack more there is one defective more, where that one is
pub defective-more : (entries : List Entry) (batch : Name) (mode : Mode) (packs : List ℕ)
    (place d : ℕ) → place < length packs
    → defective_count entries batch mode (take (place + 1) packs)
    ≡ defective_count entries batch mode (take place packs)
    + cond (is_pack_defective entries batch mode (get_or packs place d)) 1 0
defective-more entries batch mode packs place d less =
    let test : ℤ → Bool = is_below (density_of_batch entries batch) (limits_of_batch entries batch).t1 in
    ap (defective_count entries batch mode) (take_more packs place d less)
    ∙ ap (count_by test) (filter_map-append (contents_of_pack entries mode) (take place packs)
    (get_or packs place d ∷ []))
    ∙ count_from test (contents_among entries mode (take place packs))
    (contents_of_pack entries mode (get_or packs place d)) 0

-- with one pack more there are its contents behind the others
pub contents-more : (entries : List Entry) (mode : Mode) (packs : List ℕ) (place d : ℕ)
    → place < length packs
    → contents_among entries mode (take (place + 1) packs)
    ≡ contents_among entries mode (take place packs)
    ++ cons_option (contents_of_pack entries mode (get_or packs place d)) []
contents-more entries mode packs place d less =
    ap (contents_among entries mode) (take_more packs place d less)
    ∙ filter_map-append (contents_of_pack entries mode) (take place packs) (get_or packs place d ∷ [])

-- a measured pack is defective where its contents are below the limit in mg
pub defective_by : (entries : List Entry) (batch : Name) (mode : Mode) (pack : ℕ) (mass limit : ℤ)
    → contents_of_pack entries mode pack ≡ Some mass
    → limit ≡ limit_at (density_of_batch entries batch) (limits_of_batch entries batch).t1
    → int_lt mass limit ≡ is_pack_defective entries batch mode pack
defective_by entries batch mode pack mass limit is same =
    ap (int_lt mass) same ∙ below_is (density_of_batch entries batch)
    (limits_of_batch entries batch).t1 mass
    ∙ sym (ap (λ (o : Option ℤ). option_map_or
    (is_below (density_of_batch entries batch) (limits_of_batch entries batch).t1) o false) is)
