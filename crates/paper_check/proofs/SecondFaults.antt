-- Whether a second sample is needed, and what is wrong with it.
use Rattle.std.proofs.Common.{◌≡◌, ◌≢◌, ◌∙◌, ℕ, Bool, List, [], Option, None, Some, is_none, option_map, unwrap_or, if◌then◌else◌, sym, ap}
use Rattle.std.proofs.lemmas.Bool.{eq-eqb, ne_eqb}
use Rattle.annex_tables.specs.declared.types.Plan.{Plan}
use Rattle.sample_draw.specs.Draws.{drawn, packs_left}
use Rattle.book_words.specs.Samples.{second_picks}
use Rattle.book_words.specs.Verdicts.{is_open, second_packs}
use Rattle.paper_form.specs.declared.types.Draw as draws
use Rattle.paper_form.specs.Papers.{PaperData}
use Rattle.paper_form.specs.Ranges.{numbers_of}
use Rattle.paper_check.specs.Judging.{sample_in, defective_picks}
use Rattle.paper_check.specs.Faults.{needs_second, verdict_line, after_first, second_line, stray_line, earlier_line, unmeasured_line, given_second_fault, second_fault}

pub needed_is : (paper : PaperData) (draw : draws.Draw) (plan : Plan) (d1 : ℕ)
    → plan ≡ (sample_in paper draw).plan → d1 ≡ defective_picks paper draw.mode paper.first
    → is_open plan d1 ≡ needs_second paper draw
needed_is paper draw plan d1 planned counted =
    ap (λ (p : Plan). is_open p d1) planned ∙ ap (is_open (sample_in paper draw).plan) counted

-- without a word for a second sample
pub absent_is : (paper : PaperData) (draw : draws.Draw) (needed : Bool) → paper.second_word ≡ None
    → needed ≡ needs_second paper draw
    → (if needed then Some (verdict_line paper) else None) ≡ second_fault paper draw
absent_is paper draw needed absent is =
    let at_end : Bool → Option ℕ = λ b. if b then Some (verdict_line paper) else None in
    ap at_end is
    ∙ sym (ap (λ (word : Option ℕ). if is_none word then at_end (needs_second paper draw) else
    given_second_fault paper draw) absent)

-- with one
pub given_is : (paper : PaperData) (draw : draws.Draw) (word : ℕ) → paper.second_word ≡ Some word
    → given_second_fault paper draw ≡ second_fault paper draw
given_is paper draw word given =
    sym (ap (λ (o : Option ℕ). if is_none o
    then (if needs_second paper draw then Some (verdict_line paper) else None)
    else given_second_fault paper draw) given)

-- where the plan has no second sample
pub unplanned_is : (paper : PaperData) (draw : draws.Draw) (plan : Plan)
    → plan ≡ (sample_in paper draw).plan → plan.second ≡ 0
    → Some (after_first paper) ≡ given_second_fault paper draw
unplanned_is paper draw plan planned none =
    let sample = sample_in paper draw in
    let rest = earlier_line (stray_line (second_line paper) (second_packs sample) paper.second)
    (if needs_second paper draw then unmeasured_line paper else None) in
    sym (ap (λ (b : Bool). if b then Some (after_first paper) else rest)
    (eq-eqb sample.plan.second 0 (sym (ap (λ (p : Plan). p.second) planned) ∙ none)))

-- where it has one
pub planned_is : (paper : PaperData) (draw : draws.Draw) (plan : Plan) (picks : List ℕ)
    (needed : Bool) → plan ≡ (sample_in paper draw).plan → plan.second ≢ 0
    → picks ≡ second_packs (sample_in paper draw) → needed ≡ needs_second paper draw
    → earlier_line (stray_line (second_line paper) picks paper.second)
    (if needed then unmeasured_line paper else None) ≡ given_second_fault paper draw
planned_is paper draw plan picks needed planned some are is =
    let sample = sample_in paper draw in
    let unmeasured : Bool → Option ℕ = λ b. if b then unmeasured_line paper else None in
    let strays : List ℕ → Option ℕ = λ ps. stray_line (second_line paper) ps paper.second in
    let rest = earlier_line (strays (second_packs sample)) (unmeasured (needs_second paper draw)) in
    ap (λ (ps : List ℕ). earlier_line (strays ps) (unmeasured needed)) are
    ∙ ap (λ (b : Bool). earlier_line (strays (second_packs sample)) (unmeasured b)) is
    ∙ sym (ap (λ (b : Bool). if b then Some (after_first paper) else rest)
    (ne_eqb sample.plan.second 0
    (λ same. some (ap (λ (p : Plan). p.second) planned ∙ same))))

-- the packs of a second sample
pub second_is : (paper : PaperData) (draw : draws.Draw) (plan : Plan) (first numbers : List ℕ)
    (word : ℕ) → paper.second_word ≡ Some word → plan ≡ (sample_in paper draw).plan
    → first ≡ (sample_in paper draw).first → numbers ≡ numbers_of paper.packs
    → drawn word (packs_left numbers first) plan.second ≡ second_packs (sample_in paper draw)
second_is paper draw plan first numbers word given planned first_are are =
    let sample = sample_in paper draw in
    let all = numbers_of paper.packs in
    ap (λ (ns : List ℕ). drawn word (packs_left ns first) plan.second) are
    ∙ ap (λ (ps : List ℕ). drawn word (packs_left all ps) plan.second) first_are
    ∙ ap (λ (p : Plan). drawn word (packs_left all sample.first) p.second) planned
    ∙ sym (ap (λ (o : Option ℕ). unwrap_or (option_map (second_picks (record {
      mode = draw.mode;
      word = draw.word;
      packs = all;
    })) o) []) given)
