-- What is wrong with a paper of the right form, and where: each fault by its least line, from 1.
use Rattle.std.specs.Prelude.{ℕ, ◌+◌, Bool, not, ◌&&◌, ◌==◌, List, length, position, if◌then◌else◌, Option, Some, None, is_none, option_map, option_and_then, Result, Ok, Err, min}
use Rattle.std.specs.Option.{option_or}
use Rattle.std.specs.List.{list_any, common_prefix_len}
use Rattle.annex_tables.specs.Plans.{plan_of}
use Rattle.annex_tables.specs.declared.types.Plan.{Plan}
use Rattle.annex_tables.specs.declared.types.PlanRefusal.{PlanRefusal}
use Rattle.pack_judge.specs.declared.tares.DatedTare.{DatedTare}
use Rattle.book_words.specs.Desks.{same_number}
use Rattle.book_words.specs.Verdicts.{is_open, second_packs}
use Rattle.paper_form.specs.declared.types.Pack as packs
use Rattle.paper_form.specs.declared.types.Draw as draws
use Rattle.paper_form.specs.declared.types.Pick.{Pick}
use Rattle.paper_form.specs.Papers.{PaperData}
use Rattle.paper_check.specs.Judging.{sample_in, defective_picks}

-- the lines at which the parts of a paper begin
abbrev pub tares_line : ℕ
tares_line = 3

abbrev pub packs_line : PaperData → ℕ
packs_line paper = tares_line + length paper.tares

abbrev pub draw_line : PaperData → ℕ
draw_line paper = packs_line paper + length paper.packs

abbrev pub first_line : PaperData → ℕ
first_line paper = draw_line paper + 1

-- the line behind the first sample: the word of a second one, or the verdict
abbrev pub after_first : PaperData → ℕ
after_first paper = first_line paper + length paper.first

abbrev pub second_line : PaperData → ℕ
second_line paper = after_first paper + 1

-- the last line of a paper
abbrev pub verdict_line : PaperData → ℕ
verdict_line paper =
    if is_none paper.draw then draw_line paper else
    (if is_none paper.second_word then after_first paper else
    second_line paper + length paper.second)

-- whether some packs have a day, and whether some tares do
abbrev pub has_pack_of : List packs.Pack → DatedTare → Bool
has_pack_of packs dated = list_any (λ pack. same_number pack.day dated.day) packs

abbrev pub has_tare_of : List DatedTare → packs.Pack → Bool
has_tare_of tares pack = list_any (λ dated. same_number dated.day pack.day) tares

-- the line of the first tare whose day no pack has, else of the first pack whose day has no tare
abbrev pub tare_fault : PaperData → Option ℕ
tare_fault paper =
    option_or
    (option_map (λ place. tares_line + place)
    (position (λ dated. not (has_pack_of paper.packs dated)) paper.tares))
    (option_map (λ place. packs_line paper + place)
    (position (λ pack. not (has_tare_of paper.tares pack)) paper.packs))

-- the first place at which packs of a sample aren't those drawn, where there is one: one that is
-- missing or too much counts too
abbrev pub strays_at : List ℕ → List Pick → Option ℕ
strays_at drawn picks =
    let same = common_prefix_len (λ pick number. pick.pack == number) picks drawn in
    if (same == length picks) && (same == length drawn) then None else Some same

-- the line at which a sample that begins at a line strays
abbrev pub stray_line : ℕ → List ℕ → List Pick → Option ℕ
stray_line begin drawn picks = option_map (λ place. begin + place) (strays_at drawn picks)

-- whether the first sample needs a second one
abbrev pub needs_second : PaperData → draws.Draw → Bool
needs_second paper draw =
    is_open (sample_in paper draw).plan (defective_picks paper draw.mode paper.first)

-- the first pack of the second sample that isn't measured
abbrev pub unmeasured_line : PaperData → Option ℕ
unmeasured_line paper =
    option_map (λ place. second_line paper + place)
    (position (λ pick. is_none pick.weighed) paper.second)

-- the earlier of two lines, where there are any
abbrev pub earlier_line : Option ℕ → Option ℕ → Option ℕ
earlier_line (Some a) (Some b) = Some (min a b)
earlier_line (Some a) None = Some a
earlier_line None b = b

-- the first fault of a second sample that is there: the plan has none, its packs aren't those
-- drawn, or one isn't measured though it is needed
abbrev pub given_second_fault : PaperData → draws.Draw → Option ℕ
given_second_fault paper draw =
    let sample = sample_in paper draw in
    if sample.plan.second == 0 then Some (after_first paper) else
    earlier_line (stray_line (second_line paper) (second_packs sample) paper.second)
    (if needs_second paper draw then unmeasured_line paper else None)

-- the first fault of the second sample; where it is needed and isn't there, the verdict is
abbrev pub second_fault : PaperData → draws.Draw → Option ℕ
second_fault paper draw =
    if is_none paper.second_word
    then (if needs_second paper draw then Some (verdict_line paper) else None)
    else given_second_fault paper draw

-- the first fault of the samples, by a plan; without one the mode is the fault
abbrev pub samples_fault : PaperData → draws.Draw → Result Plan PlanRefusal → Option ℕ
samples_fault paper draw (Err refusal) = Some (draw_line paper)
samples_fault paper draw (Ok plan) =
    option_or (stray_line (first_line paper) (sample_in paper draw).first paper.first)
    (second_fault paper draw)

-- the line of the first fault of the draws
abbrev pub draw_fault : PaperData → Option ℕ
draw_fault paper =
    option_and_then
    (λ draw. samples_fault paper draw (plan_of (length paper.packs) draw.mode)) paper.draw
