use Rattle.std.proofs.Common.{rules, ◌≡◌, sym, ◌∙◌, ap, subst, nat_lt, ℤ, FitsSigned, w64}
use Rattle.std.proofs.lemmas.Int.{to_z-of_z}
use Rattle.annex_tables.specs.Errors.{IsNominal, tolerable_error}
use Rattle.pack_judge.specs.declared.types.Pile.TheVariants.{Passed, Rejected, Sampled, Voided}
use Rattle.pack_groups.specs.declared.types.Totals.{Totals}
use Rattle.reference_test.proofs.SignedNumbers.{again}
use Rattle.book_words.specs.Population.{readings_of_batch}
use Rattle.book_words.specs.Piles.{tally}
use Rattle.book_words.specs.Classes.{limits_of_batch}
use Rattle.book_views.specs.Tallies.{IsTally, all_of}
use Rattle.book_views.proofs.PileLemmas.{batch_tally, tally_of_piles}
use Rattle.book_views.proofs.ViewLemmas.{nominal_by_product}
use Rattle.book_views.proofs.views.fill_sheet.Goals as goal

pub error_of-requires : goal.error_of-requires
error_of-requires c =
    record {
      nominal = subst (λ (n : ℤ). IsNominal n)
          (sym (to_z-of_z w64 c.args.nominal c.ranges.nominal)) c.requires.terms.range;
    }

pub add_up-requires-clause-passed : goal.add_up-requires-clause-passed
add_up-requires-clause-passed c =
    subst (λ (t : Totals). IsTally t.passed) (sym c.totals_of-totals.ensures)
    (batch_tally c.args.state.now.entries c.args.batch.now Passed c.requires.legal)

pub add_up-requires-clause-rejected : goal.add_up-requires-clause-rejected
add_up-requires-clause-rejected c =
    subst (λ (t : Totals). IsTally t.rejected) (sym c.totals_of-totals.ensures)
    (batch_tally c.args.state.now.entries c.args.batch.now Rejected c.requires.legal)

pub add_up-requires-clause-sampled : goal.add_up-requires-clause-sampled
add_up-requires-clause-sampled c =
    subst (λ (t : Totals). IsTally t.sampled) (sym c.totals_of-totals.ensures)
    (batch_tally c.args.state.now.entries c.args.batch.now Sampled c.requires.legal)

pub add_up-requires-clause-voided : goal.add_up-requires-clause-voided
add_up-requires-clause-voided c =
    subst (λ (t : Totals). IsTally t.voided) (sym c.totals_of-totals.ensures)
    (batch_tally c.args.state.now.entries c.args.batch.now Voided c.requires.legal)

pub returns : goal.returns
returns c =
    let entries = c.args.state.now.entries in
    let batch = c.args.batch.now in
    let told = c.totals_of-totals.ensures in
    let read = to_z-of_z w64 c.args.nominal c.ranges.nominal in
    let errors : FitsSigned w64 c.error_of.result = search rules in
    let nets : FitsSigned w64 c.totals_of-totals.result.net = search rules in
    let error : again w64 c.error_of.result ≡ (limits_of_batch entries batch).tne =
    to_z-of_z w64 c.error_of.result errors ∙ c.error_of.ensures
    ∙ ap tolerable_error (read ∙ sym
    (nominal_by_product entries batch c.args.product c.args.nominal c.requires.terms.product
    c.requires.terms.nominal)) in
    let all : c.add_up.result ≡ tally (readings_of_batch entries batch) =
    c.add_up.ensures ∙ ap (λ (t : Totals). all_of t.passed t.rejected t.sampled t.voided) told
    ∙ tally_of_piles entries (readings_of_batch entries batch) in
    let net = to_z-of_z w64 c.totals_of-totals.result.net nets ∙ ap (λ (t : Totals). t.net) told in
    λ i. record {
      batch = batch;
      product = c.args.product;
      nominal = read i;
      unit = c.args.unit;
      tne = error i;
      density = c.args.density;
      state = c.args.now;
      readings = all i;
      passed = (told i).passed;
      rejected = (told i).rejected;
      sampled = (told i).sampled;
      voided = (told i).voided;
      population = (told i).population;
      net = net i;
      nonstandard = (told i).nonstandard;
      inadequate = (told i).inadequate;
      held = nat_lt 0 (told i).inadequate;
      test = c.find_test.ensures i;
      verdict = c.find_verdict.ensures i;
    }
