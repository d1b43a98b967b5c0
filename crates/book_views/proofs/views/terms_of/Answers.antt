use Rattle.std.proofs.Common.{sym, ◌∙◌, ap}
use Rattle.annex_tables.specs.declared.types.Limits.{Limits}
use Rattle.pack_judge.specs.Judge.{class_of}
use Rattle.book_verdicts.proofs.Below.{class_is}
use Rattle.book_words.specs.Classes.{density_of_batch, limits_of_batch}
use Rattle.book_verdicts.proofs.BatchFacts.{told_limits}
use Rattle.book_views.proofs.views.terms_of.Goals as goal

pub returns-clause-terms : goal.returns-clause-terms
returns-clause-terms c =
    let entries = c.args.state.now.entries in
    let batch = c.args.batch.now in
    record {
      product = sym c.product.ensures.value ∙ c.in_ok-product.was;
      class = λ net. ap (λ (limits : Limits). class_of net limits)
          (told_limits _ _ c.in_ok-limits.limits (sym c.in_ok-limits.was ∙ c.limits.ensures))
          ∙ class_is (density_of_batch entries batch) (limits_of_batch entries batch) net;
    }
