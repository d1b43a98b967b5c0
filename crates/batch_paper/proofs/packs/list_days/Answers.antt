use Rattle.std.proofs.Common.{◌∙◌, ap}
use Rattle.std.proofs.lemmas.List.Filters.{dedup_is}
use Rattle.std.specs.List.{dedup}
use Rattle.std.specs.Ordering.{int_eq}
use Rattle.batch_paper.proofs.packs.list_days.Goals as goal

pub returns : goal.returns
returns c =
    dedup_is int_eq c.in_ok-days.days.items c.dedup.new.self.items c.dedup.ensures.filtered
    ∙ ap (dedup int_eq) c.in_ok-days.ensures
