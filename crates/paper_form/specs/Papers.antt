-- What a paper says, and its text. Masses are milligrams, days are counted from 1970-01-01.
use Rattle.std.specs.Prelude.{ℕ, pos, Bool, true, ◌&&◌, ◌==◌, nat_le, List, [], ◌∷◌, ◌++◌, map, flat_map, Option, Some, None, codes, decimal}
use Rattle.std.specs.Option.{option_map_or, option_to_list}
use Rattle.std.specs.List.{join_with_byte, slice_split}
use Rattle.annex_tables.specs.declared.TheConstants.{MIN_NOMINAL, MAX_NOMINAL}
use Rattle.hall_limits.specs.declared.TheConstants.{MIN_DENSITY, MAX_DENSITY, MAX_GROSS, MAX_TARE, MAX_DAY, MAX_ROWS}
use Rattle.hall_units.specs.Grams.{gram_text}
use Rattle.hall_units.specs.Days.{day_text}
use Rattle.pack_judge.specs.declared.tares.DatedTare.{DatedTare}
use Rattle.reference_test.specs.declared.means.TheConstants.{UNIT_DENSITY}
use Rattle.book_words.specs.declared.act.Unit as units
use Rattle.book_words.specs.declared.act.Unit.TheVariants.{Mass, Volume}
use Rattle.book_words.specs.declared.views.Verdict as verdicts
use Rattle.book_words.specs.declared.views.Verdict.TheVariants.{Withheld}
use Rattle.book_words.specs.Names.{bytes_of, is_name_shape}
use Rattle.book_words.specs.Refusals.{is_within}
use Rattle.book_words.specs.Verdicts.{any_fails}
use Rattle.book_texts.specs.Words.{mode_text, verdict_text}
use Rattle.paper_form.specs.declared.types.Goods as goods
use Rattle.paper_form.specs.declared.types.Pack as packs
use Rattle.paper_form.specs.declared.types.Draw as draws
use Rattle.paper_form.specs.declared.types.Weighed.{Weighed}
use Rattle.paper_form.specs.declared.types.Pick.{Pick}
use Rattle.paper_form.specs.declared.types.Line as lines
use Rattle.paper_form.specs.declared.types.Line.TheVariants as line

-- what a paper says: of the goods, the tare of each day, the packs of the population, what the
-- samples are drawn by and what their packs weighed, and the verdict
pub record PaperData : Type 0 where
  pub goods : goods.Goods
  pub tares : List DatedTare
  pub packs : List packs.Pack
  pub draw : Option draws.Draw
  pub first : List Pick
  pub second_word : Option ℕ
  pub second : List Pick
  pub verdict : verdicts.Verdict

-- the lines of a paper, in order
abbrev pub lines_of : PaperData → List lines.Line
lines_of paper =
    line.Title ∷ line.Goods paper.goods ∷ map (λ tare. line.Tare tare) paper.tares
    ++ map (λ pack. line.Pack pack) paper.packs
    ++ map (λ draw. line.Mode draw) (option_to_list paper.draw)
    ++ map (λ pick. line.First pick) paper.first
    ++ map (λ word. line.Word word) (option_to_list paper.second_word)
    ++ map (λ pick. line.Second pick) paper.second
    ++ line.Verdict paper.verdict ∷ []

-- a blank between the fields of a line
abbrev pub is_blank : ℕ → Bool
is_blank byte = byte == 32

-- the end of a line
abbrev pub is_line_end : ℕ → Bool
is_line_end byte = byte == 10

-- the word for a unit: `g` by mass, `ml` by volume
abbrev pub unit_field : units.Unit → List ℕ
unit_field Mass = codes "g"
unit_field Volume = codes "ml"

-- what a pack of a sample weighed, or that it wasn't measured
abbrev pub weighed_fields : Option Weighed → List (List ℕ)
weighed_fields (Some weighed) =
    codes "gross" ∷ gram_text weighed.gross ∷ codes "empty" ∷ gram_text weighed.empty ∷ []
weighed_fields None = codes "unmeasured" ∷ []

-- the batch, the product and how its quantity is given
abbrev pub goods_fields : goods.Goods → List (List ℕ)
goods_fields goods =
    codes "batch" ∷ bytes_of goods.batch ∷ codes "product" ∷ bytes_of goods.product
    ∷ codes "nominal" ∷ gram_text goods.nominal ∷ codes "unit" ∷ unit_field goods.unit
    ∷ codes "density" ∷ gram_text (pos goods.density) ∷ codes "row" ∷ decimal goods.row ∷ []

-- the fields of a line
abbrev pub line_fields : lines.Line → List (List ℕ)
line_fields line.Title = codes "paper" ∷ codes "1" ∷ []
line_fields (line.Goods goods) = goods_fields goods
line_fields (line.Tare dated) =
    codes "tare" ∷ day_text dated.day ∷ gram_text dated.tare ∷ []
line_fields (line.Pack pack) =
    codes "pack" ∷ decimal pack.number ∷ day_text pack.day ∷ gram_text pack.gross ∷ []
line_fields (line.Mode draw) =
    codes "mode" ∷ mode_text draw.mode ∷ codes "word" ∷ decimal draw.word ∷ []
line_fields (line.First pick) =
    codes "first" ∷ decimal pick.pack ∷ weighed_fields pick.weighed
line_fields (line.Word word) = codes "word" ∷ decimal word ∷ []
line_fields (line.Second pick) =
    codes "second" ∷ decimal pick.pack ∷ weighed_fields pick.weighed
line_fields (line.Verdict verdict) =
    codes "verdict" ∷ slice_split is_blank (verdict_text verdict)

-- a line as text: its fields with a blank between each two, and an LF
abbrev pub line_text : lines.Line → List ℕ
line_text line = join_with_byte 32 (line_fields line) ++ 10 ∷ []

-- a paper as text: its lines in order
unfoldable pub paper_text : PaperData → List ℕ
paper_text paper = flat_map line_text (lines_of paper)

-- the greatest density of a unit, and the least
abbrev pub is_density : units.Unit → ℕ → Bool
is_density Mass density = density == UNIT_DENSITY
is_density Volume density = nat_le MIN_DENSITY density && nat_le density MAX_DENSITY

-- a row of a book
abbrev pub is_row : ℕ → Bool
is_row row = nat_le 1 row && nat_le row MAX_ROWS

-- what is said of the goods is within the limits
abbrev pub are_goods_in_range : goods.Goods → Bool
are_goods_in_range goods =
    is_name_shape (bytes_of goods.batch) && is_name_shape (bytes_of goods.product)
    && is_within MIN_NOMINAL MAX_NOMINAL goods.nominal
    && is_density goods.unit goods.density && is_row goods.row

-- so is a tare with its day
abbrev pub is_tare_in_range : DatedTare → Bool
is_tare_in_range dated =
    is_within (pos 0) MAX_DAY dated.day && is_within (pos 0) MAX_TARE dated.tare

-- so is a pack
abbrev pub is_pack_in_range : packs.Pack → Bool
is_pack_in_range pack =
    is_row pack.number && is_within (pos 0) MAX_DAY pack.day
    && is_within (pos 0) MAX_GROSS pack.gross

-- so is what a pack weighed
abbrev pub is_weighed_in_range : Weighed → Bool
is_weighed_in_range weighed =
    is_within (pos 0) MAX_GROSS weighed.gross && is_within (pos 0) MAX_TARE weighed.empty

-- so is a pack of a sample
abbrev pub is_pick_in_range : Pick → Bool
is_pick_in_range pick =
    is_row pick.pack && option_map_or is_weighed_in_range pick.weighed true

-- a withheld verdict says what fails
abbrev pub is_verdict_said : verdicts.Verdict → Bool
is_verdict_said (Withheld fails) = any_fails fails
is_verdict_said _ = true
