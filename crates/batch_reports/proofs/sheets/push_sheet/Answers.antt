use Rattle.std.proofs.Common.{◌≡◌, ◌++◌, ℕ, List, append_assoc, ◌∙◌, arith}
use Rattle.book_words.specs.declared.views.Sheet.{Sheet}
use Rattle.batch_reports.specs.Texts.{goods_line, state_line, tally_lines, population_line, held_line, test_lines, verdict_line, sheet_text}
use Rattle.batch_reports.proofs.sheets.push_sheet.Goals as goal

seven_parts : (start a b c d e f g : List ℕ) → start ++ a ++ b ++ c ++ d ++ e ++ f ++ g ≡ start ++ (a ++ b ++ c ++ d ++ e ++ f ++ g)
seven_parts start a b c d e f g = simp append_assoc

-- the lines one after another are the sheet
in_lines : (start : List ℕ) (sheet : Sheet)
    → start ++ goods_line sheet ++ state_line sheet.state ++ tally_lines sheet.readings sheet.passed sheet.rejected sheet.sampled sheet.voided
    ++ population_line sheet ++ held_line sheet.held ++ test_lines sheet.test ++ verdict_line sheet.verdict
    ≡ start ++ sheet_text sheet
unfolding sheet_text
in_lines start sheet =
    seven_parts start (goods_line sheet) (state_line sheet.state) (tally_lines sheet.readings sheet.passed sheet.rejected sheet.sampled sheet.voided)
    (population_line sheet) (held_line sheet.held) (test_lines sheet.test) (verdict_line sheet.verdict)

pub returns : goal.returns
returns c = record {
  items = rw (c.push_closing.ensures.items, c.push_test.ensures.items, c.push_held.ensures.items, c.push_population.ensures.items, c.push_tallies.ensures.items, c.push_state.ensures.items, c.push_goods.ensures.items)
      (in_lines c.args.to.now.items c.args.sheet.now);
  longest = omega arith;
  capacity = c.push_closing.ensures.capacity ∙ c.push_test.ensures.capacity ∙ c.push_held.ensures.capacity ∙ c.push_population.ensures.capacity ∙ c.push_tallies.ensures.capacity ∙ c.push_state.ensures.capacity ∙ c.push_goods.ensures.capacity;
}
