-- Which lines of a paper have masses and days within the limits of the book, so that they can be
-- printed.
use Rattle.std.specs.Prelude.{ℕ, ◌<◌, ◌^◌, Bool, true, pos, ◌&&◌, Option, IfSome}
use Rattle.std.specs.Option.{option_map_or}
use Rattle.annex_tables.specs.declared.TheConstants.{MIN_NOMINAL, MAX_NOMINAL}
use Rattle.hall_limits.specs.declared.TheConstants.{MAX_GROSS, MAX_DAY}
use Rattle.book_words.specs.Refusals.{is_within}
use Rattle.paper_form.specs.declared.types.Goods as goods
use Rattle.paper_form.specs.declared.types.Pack as packs
use Rattle.paper_form.specs.declared.types.Pick.{Pick}
use Rattle.paper_form.specs.declared.types.Line as lines
use Rattle.paper_form.specs.declared.types.Line.TheVariants as line
use Rattle.paper_form.specs.Papers.{is_tare_in_range, is_weighed_in_range}

-- a word of a draw, where there is one, has 64 bits
abbrev pub IsWordOf : Option ℕ → Type 0
IsWordOf word = IfSome word (λ w. w < 2 ^ 64)

-- the nominal quantity is one
abbrev pub is_nominal_right : goods.Goods → Bool
is_nominal_right goods = is_within MIN_NOMINAL MAX_NOMINAL goods.nominal

-- a pack has a day and a gross
abbrev pub is_pack_right : packs.Pack → Bool
is_pack_right pack = is_within (pos 0) MAX_DAY pack.day && is_within (pos 0) MAX_GROSS pack.gross

-- what a pack of a sample weighed is a mass
abbrev pub is_pick_weighed : Pick → Bool
is_pick_weighed pick = option_map_or is_weighed_in_range pick.weighed true

-- the masses and the day of a line are within the limits
abbrev pub is_line_right : lines.Line → Bool
is_line_right (line.Goods goods) = is_nominal_right goods
is_line_right (line.Tare dated) = is_tare_in_range dated
is_line_right (line.Pack pack) = is_pack_right pack
is_line_right (line.First pick) = is_pick_weighed pick
is_line_right (line.Second pick) = is_pick_weighed pick
is_line_right _ = true
