-- What the lines of a paper give: the samples drawn anew, the contents, and the verdict. Nothing
-- but the lines is looked at, and of them not the verdict. All masses are milligrams.
use Rattle.std.specs.Prelude.{ℕ, ℤ, ◌-ℤ◌, Bool, List, ◌==◌, length, map, find, filter_map, count_by, take, Option, Some, option_map, option_and_then}
use Rattle.std.specs.Option.{option_map_or}
use Rattle.annex_tables.specs.Errors.{limits_of}
use Rattle.annex_tables.specs.declared.types.Mode.{Mode}
use Rattle.annex_tables.specs.declared.types.Mode.TheVariants.{Keep, Destroy}
use Rattle.pack_judge.specs.declared.tares.DatedTare.{DatedTare}
use Rattle.reference_test.specs.Means.{total}
use Rattle.book_words.specs.Classes.{is_below}
use Rattle.book_words.specs.Desks.{same_number}
use Rattle.book_words.specs.Samples.{Sample, sample_by}
use Rattle.book_words.specs.Verdicts.{contents_accepts, mean_accepts, average_by, allowance_by, none_inadequate, fails_by, verdict_by_fails}
use Rattle.book_words.specs.declared.views.Fails.{Fails}
use Rattle.book_words.specs.declared.views.Verdict as verdicts
use Rattle.book_words.specs.declared.views.Verdict.TheVariants.{Empty}
use Rattle.paper_form.specs.declared.types.Pack as packs
use Rattle.paper_form.specs.declared.types.Draw as draws
use Rattle.paper_form.specs.declared.types.Weighed.{Weighed}
use Rattle.paper_form.specs.declared.types.Pick.{Pick}
use Rattle.paper_form.specs.Papers.{PaperData}

-- the tare of a day, where a line gives one
abbrev pub tare_on : List DatedTare → ℤ → Option ℤ
tare_on tares day =
    option_map (λ dated. dated.tare) (find (λ dated. same_number dated.day day) tares)

-- a gross less the tare of a day
abbrev pub net_on : List DatedTare → ℤ → ℤ → Option ℤ
net_on tares day gross = option_map (λ tare. gross -ℤ tare) (tare_on tares day)

-- the nets of the packs
abbrev pub nets_of : List DatedTare → List packs.Pack → List ℤ
nets_of tares packs = filter_map (λ pack. net_on tares pack.day pack.gross) packs

-- the line of a pack, where there is one
abbrev pub pack_with : List packs.Pack → ℕ → Option packs.Pack
pack_with packs number = find (λ pack. pack.number == number) packs

-- the actual contents of a pack of a sample: where packs are kept, its gross less the tare of the
-- pack's own day; where they are destroyed, less the empty pack
abbrev pub contents_by : PaperData → Mode → ℕ → Weighed → Option ℤ
contents_by paper Keep number weighed =
    option_and_then (λ pack. net_on paper.tares pack.day weighed.gross)
    (pack_with paper.packs number)
contents_by paper Destroy number weighed = Some (weighed.gross -ℤ weighed.empty)

-- the actual contents of a pack of a sample, where it was measured
abbrev pub contents_of_pick : PaperData → Mode → Pick → Option ℤ
contents_of_pick paper mode pick =
    option_and_then (contents_by paper mode pick.pack) pick.weighed

-- the actual contents of those of some packs that were measured
abbrev pub contents_of_picks : PaperData → Mode → List Pick → List ℤ
contents_of_picks paper mode picks = filter_map (contents_of_pick paper mode) picks

-- how many of some masses are below a limit at the density of the goods
abbrev pub below_count : PaperData → ℤ → List ℤ → ℕ
below_count paper limit masses = count_by (is_below paper.goods.density limit) masses

-- how many of some packs of a sample are defective: their contents are below one error under the
-- nominal quantity
abbrev pub defective_picks : PaperData → Mode → List Pick → ℕ
defective_picks paper mode picks =
    below_count paper (limits_of paper.goods.nominal).t1 (contents_of_picks paper mode picks)

-- the samples that the paper's words draw from its packs
abbrev pub sample_in : PaperData → draws.Draw → Sample
sample_in paper draw =
    sample_by (record {
      mode = draw.mode;
      word = draw.word;
      packs = map (λ pack. pack.number) paper.packs;
    }) paper.second_word

-- the contents check: the second sample counts only where the first leaves it open
abbrev pub contents_check_in : PaperData → draws.Draw → Bool
contents_check_in paper draw =
    contents_accepts (sample_in paper draw).plan
    (defective_picks paper draw.mode paper.first) (defective_picks paper draw.mode paper.second)

-- the mean check: over the first packs of the first sample, in drawing order
abbrev pub mean_check_in : PaperData → draws.Draw → Bool
mean_check_in paper draw =
    let plan = (sample_in paper draw).plan in
    mean_accepts (contents_of_picks paper draw.mode (take plan.mean_n paper.first))
    paper.goods.nominal paper.goods.density plan.k1000

-- the parts that fail of packs with these nets
abbrev pub fails_in_nets : PaperData → draws.Draw → List ℤ → Fails
fails_in_nets paper draw nets =
    let number = length paper.packs in
    let limits = limits_of paper.goods.nominal in
    fails_by (contents_check_in paper draw) (mean_check_in paper draw)
    (average_by number paper.goods.density paper.goods.nominal (total nets))
    (allowance_by number (below_count paper limits.t1 nets))
    (none_inadequate (below_count paper limits.t2 nets))

-- the verdict of what the lines give: empty without a pack, released where each part holds, else
-- withheld with the parts that fail
abbrev pub judged : PaperData → verdicts.Verdict
judged paper =
    option_map_or
    (λ draw. verdict_by_fails (fails_in_nets paper draw (nets_of paper.tares paper.packs)))
    paper.draw Empty
