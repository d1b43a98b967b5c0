use Rattle.std.proofs.Common.{◌∙◌, codes, pos, decimal, arith}
use Rattle.hall_units.specs.Grams.{gram_text}
use Rattle.book_words.specs.Names.{bytes_of}
use Rattle.paper_form.specs.Papers.{unit_field}
use Rattle.batch_paper.proofs.PaperLines.{goods_pieces}
use Rattle.batch_paper.proofs.lines.push_goods.Goals as goal

pub returns : goal.returns
returns c =
    let goods = c.args.goods.now in
    record {
      items = rw (
        c.append-3.ensures.items,
        c.append_numbered.ensures.items,
        c.push_density.ensures.items,
        c.append-2.ensures.items,
        c.append.ensures.items,
        c.append_weighed.ensures.items,
        c.append_named-2.ensures.items,
        c.append_named.ensures.items,
        c.unit_field.ensures.text,
      )
          (goods_pieces c.args.to.now.items (codes "batch ") (bytes_of goods.batch)
          (codes " product ") (bytes_of goods.product) (codes " nominal ") (gram_text goods.nominal)
          (codes " unit ") (unit_field goods.unit) (codes " density ")
          (gram_text (pos goods.density))
          (codes " row ") (decimal goods.row) (codes "\n"));
      longest = omega arith;
      capacity = c.append-3.ensures.capacity ∙ c.append_numbered.ensures.capacity
          ∙ c.push_density.ensures.capacity ∙ c.append-2.ensures.capacity
          ∙ c.append.ensures.capacity ∙ c.append_weighed.ensures.capacity
          ∙ c.append_named-2.ensures.capacity ∙ c.append_named.ensures.capacity;
    }
