-- A line within the limits reads back from its text.
use Rattle.std.proofs.Common.{◌≡◌, ℕ, ◌+◌, ◌&&◌, ◌||◌, ◌++◌, Bool, true, false, pos, List, [], ◌∷◌, Option, Some, None, is_some, decimal, codes, refl, sym, ap, ◌∙◌, arith, append_assoc}
use Rattle.std.specs.Option.{option_map_or}
use Rattle.std.specs.List.{list_all, slice_split, join_with_byte}
use Rattle.std.proofs.lemmas.Bool.{and_parts, and_from}
use Rattle.annex_tables.specs.declared.TheConstants.{MIN_NOMINAL, MAX_NOMINAL}
use Rattle.hall_limits.specs.declared.TheConstants.{MAX_GROSS, MAX_TARE, MAX_DAY}
use Rattle.hall_units.specs.Grams.{gram_text, milligrams_of}
use Rattle.hall_units.specs.Days.{day_of, day_text}
use Rattle.annex_tables.specs.declared.types.Mode.{Mode}
use Rattle.annex_tables.specs.declared.types.Mode.TheVariants.{Keep, Destroy}
use Rattle.pack_judge.specs.declared.tares.DatedTare.{DatedTare}
use Rattle.book_words.specs.declared.act.Unit as units
use Rattle.book_words.specs.declared.act.Unit.TheVariants.{Mass, Volume}
use Rattle.book_words.specs.declared.views.Fails.{Fails}
use Rattle.book_words.specs.declared.views.Verdict as verdicts
use Rattle.book_words.specs.declared.views.Verdict.TheVariants.{Empty, Released, Withheld}
use Rattle.book_words.specs.Names.{bytes_of, is_name_shape, name_of}
use Rattle.book_words.specs.Refusals.{is_within}
use Rattle.book_words.specs.Verdicts.{any_fails}
use Rattle.book_texts.specs.Words.{verdict_text}
use Rattle.paper_form.specs.declared.types.Goods as goods
use Rattle.paper_form.specs.declared.types.Pack as packs
use Rattle.paper_form.specs.declared.types.Draw as draws
use Rattle.paper_form.specs.declared.types.Weighed.{Weighed}
use Rattle.paper_form.specs.declared.types.Pick.{Pick}
use Rattle.paper_form.specs.declared.types.Line as lines
use Rattle.paper_form.specs.declared.types.Line.TheVariants as line
use Rattle.paper_form.specs.Papers.{is_blank, is_line_end, unit_field, weighed_fields, goods_fields, line_fields, line_text, is_density, is_row, are_goods_in_range, is_tare_in_range, is_pack_in_range, is_weighed_in_range, is_pick_in_range, is_verdict_said}
use Rattle.paper_form.specs.Lines.{mass_in, number_in, row_in, density_in, unit_in, verdict_in, line_of, line_of_fields}
use Rattle.paper_form.specs.Ranges.{is_line_in_range, is_word, is_measured}
use Rattle.paper_form.proofs.FieldTexts.{IsPlain, ArePlain, are_above, split_join, split_first, join_above, plain_name}
use Rattle.paper_form.proofs.FieldValues.{IsTextOf, word_back, row_back, gross_back, tare_back, nominal_back, density_back, day_back, name_back}

-- what a line says is within the limits, and whole
abbrev pub is_line_whole : lines.Line → Bool
is_line_whole (line.Mode draw) = is_word draw.word
is_line_whole (line.First pick) = is_pick_in_range pick && is_measured pick
is_line_whole (line.Word word) = is_word word
is_line_whole (line.Verdict verdict) = is_verdict_said verdict
is_line_whole other = is_line_in_range other

-- the fields of a line are plain, and read as it
pub record AreFieldsOf (said : lines.Line) : Type 0 where
  pub plain : ArePlain (line_fields said)
  pub back : line_of_fields (line_fields said) ≡ Some said

-- ---- the goods

unit_back : (unit : units.Unit) → IsTextOf unit_in unit (unit_field unit)
unit_back Mass = record { plain = refl; back = refl }
unit_back Volume = record { plain = refl; back = refl }

goods_back : (g : goods.Goods) → are_goods_in_range g ≡ true → AreFieldsOf (line.Goods g)
goods_back g h =
    let rows = and_parts _ (is_row g.row) h in
    let densities = and_parts _ (is_density g.unit g.density) rows.0 in
    let nominals = and_parts _ (is_within MIN_NOMINAL MAX_NOMINAL g.nominal) densities.0 in
    let names = and_parts (is_name_shape (bytes_of g.batch)) (is_name_shape (bytes_of g.product))
    nominals.0 in
    let nominal = nominal_back g.nominal nominals.1 in
    let unit = unit_back g.unit in
    let density = density_back g.unit g.density densities.1 in
    let row = row_back g.row rows.1 in
    record {
      plain = rw (
        plain_name (bytes_of g.batch) names.0,
        plain_name (bytes_of g.product) names.1,
        nominal.plain,
        unit.plain,
        density.plain,
        row.plain,
      ) refl;
      back = rw (
        name_back g.batch,
        name_back g.product,
        nominal.back,
        unit.back,
        density.back,
        row.back,
        h,
      ) refl;
    }

-- ---- tares and packs

tare_line_back : (dated : DatedTare) → is_tare_in_range dated ≡ true → AreFieldsOf (line.Tare dated)
tare_line_back dated h =
    let parts = and_parts (is_within (pos 0) MAX_DAY dated.day)
    (is_within (pos 0) MAX_TARE dated.tare) h in
    let day = day_back dated.day parts.0 in
    let tare = tare_back dated.tare parts.1 in
    record { plain = rw (day.plain, tare.plain) refl; back = rw (day.back, tare.back) refl }

pack_line_back : (pack : packs.Pack) → is_pack_in_range pack ≡ true → AreFieldsOf (line.Pack pack)
pack_line_back pack h =
    let outer = and_parts _ (is_within (pos 0) MAX_GROSS pack.gross) h in
    let inner = and_parts (is_row pack.number) (is_within (pos 0) MAX_DAY pack.day) outer.0 in
    let number = row_back pack.number inner.0 in
    let day = day_back pack.day inner.1 in
    let gross = gross_back pack.gross outer.1 in
    record {
      plain = rw (number.plain, day.plain, gross.plain) refl;
      back = rw (number.back, day.back, gross.back) refl;
    }

-- ---- the draws

mode_line_back : (draw : draws.Draw) → is_word draw.word ≡ true → AreFieldsOf (line.Mode draw)
mode_line_back draw h = each draw.mode
  where
    each : (mode : Mode) → AreFieldsOf (line.Mode (record { mode = mode; word = draw.word }))
    each Keep =
        let word = word_back draw.word h in
        record { plain = rw word.plain refl; back = rw word.back refl }
    each Destroy =
        let word = word_back draw.word h in
        record { plain = rw word.plain refl; back = rw word.back refl }

word_line_back : (w : ℕ) → is_word w ≡ true → AreFieldsOf (line.Word w)
word_line_back w h =
    let word = word_back w h in
    record { plain = rw word.plain refl; back = rw word.back refl }

first_line_back : (n : ℕ) (weighed : Option Weighed)
    → (is_pick_in_range (record { pack = n; weighed = weighed })
    && is_measured (record { pack = n; weighed = weighed })) ≡ true
    → AreFieldsOf (line.First (record { pack = n; weighed = weighed }))
first_line_back n None h =
    let never : false ≡ true = (and_parts (is_row n && true) false h).1 in absurd (cc)
first_line_back n (Some w) h =
    let range = and_parts (is_row n && is_weighed_in_range w) true h in
    let parts = and_parts (is_row n) (is_weighed_in_range w) range.0 in
    let masses = and_parts (is_within (pos 0) MAX_GROSS w.gross)
    (is_within (pos 0) MAX_TARE w.empty) parts.1 in
    let number = row_back n parts.0 in
    let gross = gross_back w.gross masses.0 in
    let empty = tare_back w.empty masses.1 in
    record {
      plain = rw (number.plain, gross.plain, empty.plain) refl;
      back = rw (number.back, gross.back, empty.back) refl;
    }

second_line_back : (n : ℕ) (weighed : Option Weighed)
    → is_pick_in_range (record { pack = n; weighed = weighed }) ≡ true
    → AreFieldsOf (line.Second (record { pack = n; weighed = weighed }))
second_line_back n None h =
    let parts = and_parts (is_row n) true h in
    let number = row_back n parts.0 in
    record { plain = rw number.plain refl; back = rw number.back refl }
second_line_back n (Some w) h =
    let parts = and_parts (is_row n) (is_weighed_in_range w) h in
    let masses = and_parts (is_within (pos 0) MAX_GROSS w.gross)
    (is_within (pos 0) MAX_TARE w.empty) parts.1 in
    let number = row_back n parts.0 in
    let gross = gross_back w.gross masses.0 in
    let empty = tare_back w.empty masses.1 in
    record {
      plain = rw (number.plain, gross.plain, empty.plain) refl;
      back = rw (number.back, gross.back, empty.back) refl;
    }

-- ---- the verdict

fails_back : (contents mean average allowance inadequate : Bool)
    → (contents || mean || average || allowance || inadequate) ≡ true
    → AreFieldsOf (line.Verdict (Withheld (record {
      contents = contents;
      mean = mean;
      average = average;
      allowance = allowance;
      inadequate = inadequate;
    })))
fails_back true true true true true h = record { plain = refl; back = refl }
fails_back true true true true false h = record { plain = refl; back = refl }
fails_back true true true false true h = record { plain = refl; back = refl }
fails_back true true true false false h = record { plain = refl; back = refl }
fails_back true true false true true h = record { plain = refl; back = refl }
fails_back true true false true false h = record { plain = refl; back = refl }
fails_back true true false false true h = record { plain = refl; back = refl }
fails_back true true false false false h = record { plain = refl; back = refl }
fails_back true false true true true h = record { plain = refl; back = refl }
fails_back true false true true false h = record { plain = refl; back = refl }
fails_back true false true false true h = record { plain = refl; back = refl }
fails_back true false true false false h = record { plain = refl; back = refl }
fails_back true false false true true h = record { plain = refl; back = refl }
fails_back true false false true false h = record { plain = refl; back = refl }
fails_back true false false false true h = record { plain = refl; back = refl }
fails_back true false false false false h = record { plain = refl; back = refl }
fails_back false true true true true h = record { plain = refl; back = refl }
fails_back false true true true false h = record { plain = refl; back = refl }
fails_back false true true false true h = record { plain = refl; back = refl }
fails_back false true true false false h = record { plain = refl; back = refl }
fails_back false true false true true h = record { plain = refl; back = refl }
fails_back false true false true false h = record { plain = refl; back = refl }
fails_back false true false false true h = record { plain = refl; back = refl }
fails_back false true false false false h = record { plain = refl; back = refl }
fails_back false false true true true h = record { plain = refl; back = refl }
fails_back false false true true false h = record { plain = refl; back = refl }
fails_back false false true false true h = record { plain = refl; back = refl }
fails_back false false true false false h = record { plain = refl; back = refl }
fails_back false false false true true h = record { plain = refl; back = refl }
fails_back false false false true false h = record { plain = refl; back = refl }
fails_back false false false false true h = record { plain = refl; back = refl }
fails_back false false false false false h = absurd (cc)

verdict_line_back : (verdict : verdicts.Verdict) → is_verdict_said verdict ≡ true
    → AreFieldsOf (line.Verdict verdict)
verdict_line_back Empty h = record { plain = refl; back = refl }
verdict_line_back Released h = record { plain = refl; back = refl }
verdict_line_back (Withheld fails) h =
    fails_back fails.contents fails.mean fails.average fails.allowance fails.inadequate h

-- ---- any line

fields_back : (said : lines.Line) → is_line_whole said ≡ true → AreFieldsOf said
fields_back line.Title h = record { plain = refl; back = refl }
fields_back (line.Goods g) h = goods_back g h
fields_back (line.Tare dated) h = tare_line_back dated h
fields_back (line.Pack pack) h = pack_line_back pack h
fields_back (line.Mode draw) h = mode_line_back draw h
fields_back (line.First pick) h = first_line_back pick.pack pick.weighed h
fields_back (line.Word word) h = word_line_back word h
fields_back (line.Second pick) h = second_line_back pick.pack pick.weighed h
fields_back (line.Verdict verdict) h = verdict_line_back verdict h

-- the text of a line without its LF reads as the line
pub line_back : (said : lines.Line) → is_line_whole said ≡ true
    → line_of (join_with_byte 32 (line_fields said)) ≡ Some said
line_back said h =
    let fields = fields_back said h in
    ap line_of_fields (split_fields said fields.plain) ∙ fields.back
  where
    split_fields : (said : lines.Line) → ArePlain (line_fields said)
        → slice_split is_blank (join_with_byte 32 (line_fields said)) ≡ line_fields said
    split_fields line.Title plain = refl
    split_fields (line.Goods g) plain = split_join _ _ plain
    split_fields (line.Tare dated) plain = split_join _ _ plain
    split_fields (line.Pack pack) plain = split_join _ _ plain
    split_fields (line.Mode draw) plain = split_join _ _ plain
    split_fields (line.First pick) plain = split_join _ _ plain
    split_fields (line.Word word) plain = split_join _ _ plain
    split_fields (line.Second pick) plain = split_join _ _ plain
    split_fields (line.Verdict verdict) plain = split_join _ _ plain

-- it ends at its LF
pub line_ends : (said : lines.Line) (rest : List ℕ) → is_line_whole said ≡ true
    → slice_split is_line_end (line_text said ++ rest)
    ≡ join_with_byte 32 (line_fields said) ∷ slice_split is_line_end rest
line_ends said rest h =
    let fields = fields_back said h in
    ap (slice_split is_line_end)
    (append_assoc (join_with_byte 32 (line_fields said)) (10 ∷ []) rest)
    ∙ split_first 10 (join_with_byte 32 (line_fields said)) rest
    (join_above (line_fields said) fields.plain) refl
