-- Which packs of the second sample count.
use Rattle.std.specs.Prelude.{ℕ, List, [], if◌then◌else◌}
use Rattle.book_words.specs.declared.name.Name.{Name}
use Rattle.book_words.specs.declared.act.Entry.{Entry}
use Rattle.book_words.specs.Samples.{Sample}
use Rattle.book_words.specs.Verdicts.{first_defective, is_open, second_packs}

-- the packs of the second sample count where the first leaves it open
abbrev pub counted_packs : List Entry → Name → Sample → List ℕ
counted_packs entries batch sample =
    if is_open sample.plan (first_defective entries batch sample) then second_packs sample else []
