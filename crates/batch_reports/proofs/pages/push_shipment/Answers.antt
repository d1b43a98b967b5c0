use Rattle.std.proofs.Common.{◌≡◌, ◌+◌, ◌++◌, ℕ, List, codes, length, append_assoc, ap, ◌∙◌, arith}
use Rattle.book_words.specs.declared.views.ActView.{ActView}
use Rattle.book_words.specs.declared.views.RowsView.{RowsView}
use Rattle.row_format.specs.Spelling.{four}
use Rattle.batch_reports.specs.Texts.{rows_of, shipment_text}
use Rattle.batch_reports.proofs.pages.push_shipment.Goals as goal

four_parts : (start a b c d : List ℕ) → start ++ a ++ b ++ c ++ d ≡ start ++ (a ++ b ++ c ++ d)
four_parts start a b c d = simp append_assoc

-- the name, the two numbers and the rows are the shipment
in_bytes : (start : List ℕ) (view : RowsView)
    → start ++ codes "AQHSHIP2" ++ four (view.before + length view.acts) ++ four view.before
    ++ rows_of view.acts ≡ start ++ shipment_text view
unfolding shipment_text
in_bytes start view =
    four_parts start (codes "AQHSHIP2") (four (view.before + length view.acts))
    (four view.before) (rows_of view.acts)

pub returns : goal.returns
returns c =
    let start = c.args.to.now.items in
    let before = c.args.view.now.before in
    record {
      items = rw (
        c.push_rows.ensures.items,
        c.push_four-2.ensures.items,
        c.push_four.ensures.items,
        c.append.ensures.items,
      )
          (ap (λ (acts : List ActView). start ++ codes "AQHSHIP2" ++ four (before + length acts)
          ++ four before ++ rows_of acts) c.as_slice-acts.ensures
          ∙ in_bytes start c.args.view.now);
      longest = omega (arith, ap length c.as_slice-acts.ensures);
      capacity = c.push_rows.ensures.capacity ∙ c.push_four-2.ensures.capacity
          ∙ c.push_four.ensures.capacity ∙ c.append.ensures.capacity;
    }
