use Rattle.std.proofs.Common.{◌∙◌, Bool, Option, sym, ap}
use Rattle.std.specs.Option.{option_and_then}
use Rattle.book_words.specs.declared.refusal.Refusal.TheVariants.{SecondNotNeeded}
use Rattle.book_words.specs.Samples.{Sample}
use Rattle.book_words.specs.Verdicts.{first_defective}
use Rattle.book_words.specs.Refusals.{is_second_not_needed, refused_if}
use Rattle.book_rules.proofs.samples.second_not_needed.Goals as goal

pub is_second_not_needed-requires : goal.is_second_not_needed-requires
is_second_not_needed-requires c =
    record { sample = (c.args.batch.now, c.in_ok-sample.ensures.drawn) }

pub returns : goal.returns
returns c =
    let entries = c.args.state.now.entries in
    let batch = c.args.batch.now in
    let test : Sample → Bool = is_second_not_needed entries batch in
    let found = c.in_ok-sample.ensures.drawn.is_of in
    c.refuse_if.ensures
    ∙ ap (λ is. refused_if is (SecondNotNeeded c.count_first-d1.result))
    (c.is_second_not_needed.ensures batch c.count_first-d1.ensures)
    ∙ ap (λ d1. refused_if (test c.in_ok-sample.sample.now) (SecondNotNeeded d1)) c.count_first-d1.ensures
    ∙ sym (ap (λ (o : Option Sample). option_and_then
    (λ sample. refused_if (test sample) (SecondNotNeeded (first_defective entries batch sample))) o) found)
