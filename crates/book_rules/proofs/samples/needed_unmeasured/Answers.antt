use Rattle.std.proofs.Common.{sym, is_none}
use Rattle.std.proofs.lemmas.List.Folds.{find-append}
use Rattle.book_words.specs.Measures.{measured_of}
use Rattle.book_rules.specs.Counted.{counted_packs}
use Rattle.book_rules.proofs.samples.needed_unmeasured.Goals as goal

pub returns : goal.returns
returns c =
    rw (
      c.or.ensures,
      c.first_unmeasured.ensures,
      c.as_slice.ensures,
      c.first.ensures,
      c.counted_unmeasured.ensures,
    )
    (sym (find-append (λ pack. is_none (measured_of c.args.state.now.entries pack))
    c.args.sample.now.first (counted_packs c.args.state.now.entries c.args.batch.now
    c.args.sample.now)))
