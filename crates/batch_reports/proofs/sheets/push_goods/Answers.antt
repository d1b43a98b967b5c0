use Rattle.std.proofs.Common.{◌≡◌, ◌++◌, ℕ, List, codes, append_assoc, ◌∙◌, arith}
use Rattle.book_words.specs.declared.views.Sheet.{Sheet}
use Rattle.book_words.specs.Names.{bytes_of}
use Rattle.batch_reports.specs.Texts.{quantity_text, density_text, goods_line}
use Rattle.batch_reports.proofs.sheets.push_goods.Goals as goal

-- a label and what stands behind it, four times, and two parts more
labelled : (start a b c d e f g h i j : List ℕ)
    → start ++ (a ++ b) ++ (c ++ d) ++ (e ++ f) ++ (g ++ h) ++ i ++ j
    ≡ start ++ (a ++ b ++ c ++ d ++ e ++ f ++ g ++ h ++ i ++ j)
labelled start a b c d e f g h i j = simp append_assoc

in_line : (start : List ℕ) (sheet : Sheet)
    → start ++ (codes "batch " ++ bytes_of sheet.batch) ++ (codes " product " ++ bytes_of sheet.product)
    ++ (codes " nominal " ++ quantity_text sheet.nominal sheet.unit) ++ (codes " tne " ++ quantity_text sheet.tne sheet.unit)
    ++ density_text sheet.unit sheet.density ++ codes "\n"
    ≡ start ++ goods_line sheet
in_line start sheet =
    labelled start (codes "batch ") (bytes_of sheet.batch) (codes " product ") (bytes_of sheet.product)
    (codes " nominal ") (quantity_text sheet.nominal sheet.unit) (codes " tne ") (quantity_text sheet.tne sheet.unit)
    (density_text sheet.unit sheet.density) (codes "\n")

pub returns : goal.returns
returns c = record {
  items = rw (c.append.ensures.items, c.push_density.ensures.items, c.push_quantity-2.ensures.items, c.push_quantity.ensures.items, c.append_named-2.ensures.items, c.append_named.ensures.items)
      (in_line c.args.to.now.items c.args.sheet.now);
  longest = omega arith;
  capacity = c.append.ensures.capacity ∙ c.push_density.ensures.capacity ∙ c.push_quantity-2.ensures.capacity ∙ c.push_quantity.ensures.capacity ∙ c.append_named-2.ensures.capacity ∙ c.append_named.ensures.capacity;
}
