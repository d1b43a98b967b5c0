-- Which packs of a test are defective.
use Rattle.std.specs.Prelude.{ℕ, Bool, false, List}
use Rattle.std.specs.Option.{option_map_or}
use Rattle.annex_tables.specs.declared.types.Mode.{Mode}
use Rattle.book_words.specs.declared.name.Name.{Name}
use Rattle.book_words.specs.declared.act.Entry.{Entry}
use Rattle.book_words.specs.Classes.{is_below, density_of_batch, limits_of_batch}
use Rattle.book_words.specs.Measures.{contents_of_pack}

-- a pack of a batch is defective where it was measured, with contents below one error under the
-- nominal quantity
abbrev pub is_pack_defective : List Entry → Name → Mode → ℕ → Bool
is_pack_defective entries batch mode pack =
    option_map_or (is_below (density_of_batch entries batch) (limits_of_batch entries batch).t1)
    (contents_of_pack entries mode pack) false
