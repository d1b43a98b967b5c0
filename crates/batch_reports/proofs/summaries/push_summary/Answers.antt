use Rattle.std.proofs.Common.{◌≡◌, ◌++◌, ℕ, List, codes, decimal, append_assoc, ◌∙◌, arith}
use Rattle.book_words.specs.declared.views.SummaryView.{SummaryView}
use Rattle.batch_reports.specs.Texts.{tally_lines, batches_line, summary_text}
use Rattle.batch_reports.proofs.summaries.push_summary.Goals as goal

four_parts : (start a b c d : List ℕ) → start ++ a ++ b ++ c ++ d ≡ start ++ (a ++ b ++ c ++ d)
four_parts start a b c d = simp append_assoc

-- the lines one after another are the summary
in_lines : (start : List ℕ) (view : SummaryView)
    → start ++ (codes "rows " ++ decimal view.rows) ++ codes "\n"
    ++ tally_lines view.readings view.passed view.rejected view.sampled view.voided ++ batches_line view
    ≡ start ++ summary_text view
unfolding summary_text
in_lines start view =
    four_parts start (codes "rows " ++ decimal view.rows) (codes "\n") (tally_lines view.readings view.passed view.rejected view.sampled view.voided) (batches_line view)

pub returns : goal.returns
returns c = record {
  items = rw (c.push_batches.ensures.items, c.push_tallies.ensures.items, c.append.ensures.items, c.append_numbered.ensures.items)
      (in_lines c.args.to.now.items c.args.view.now);
  longest = omega arith;
  capacity = c.push_batches.ensures.capacity ∙ c.push_tallies.ensures.capacity ∙ c.append.ensures.capacity ∙ c.append_numbered.ensures.capacity;
}
