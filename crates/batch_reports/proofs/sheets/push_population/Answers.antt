use Rattle.std.proofs.Common.{◌∙◌, append_assoc, arith}
use Rattle.batch_reports.proofs.sheets.push_population.Goals as goal

pub returns : goal.returns
returns c = record {
  items = simp (c.append.ensures.items, c.append_numbered-3.ensures.items, c.append_numbered-2.ensures.items, c.append_weighed.ensures.items, c.append_numbered.ensures.items, append_assoc);
  longest = omega arith;
  capacity = c.append.ensures.capacity ∙ c.append_numbered-3.ensures.capacity ∙ c.append_numbered-2.ensures.capacity ∙ c.append_weighed.ensures.capacity ∙ c.append_numbered.ensures.capacity;
}
