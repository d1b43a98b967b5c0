use Rattle.std.proofs.Common.{rules, ◌≡◌, ◌∙◌, ℤ, pos, Some, Option, IfSome, option_map, sym, ap, subst, FitsSigned, w64}
use Rattle.std.specs.Option.{unwrap_or}
use Rattle.std.proofs.lemmas.Int.{to_z-of_z}
use Rattle.annex_tables.specs.Errors.{IsNominal, limits_of}
use Rattle.annex_tables.specs.declared.TheConstants.{MIN_NOMINAL, MAX_NOMINAL}
use Rattle.book_words.specs.declared.act.Unit as units
use Rattle.book_words.specs.Acts.{nominal_of, unit_of}
use Rattle.book_words.specs.Classes.{density_by_unit}
use Rattle.book_words.specs.Ranges.{IsBetween}
use Rattle.book_index.specs.declared.types.ProductTerms.{ProductTerms}
use Rattle.book_packs.specs.Densities.{limits_at}
use Rattle.book_laws.proofs.RangeLaws.{nominal_within}
use Rattle.book_state.proofs.EntryFacts.{there, opened_nominal, opened_product}
use Rattle.book_state.proofs.entering.open_batch.Goals as goal

pub unreachable-requires : goal.unreachable-requires
unreachable-requires c =
    there _ (opened_product c.requires.next.0 c.requires.next.1 c.requires.next.2 c.args.product.now
    c.args.density c.requires.next.3.next c.requires.next.4)
    (sym (c.product_number.ensures.number c.requires.next.0 c.requires.next.3.index) ∙ c.in_default.is)

pub unreachable-requires-in_default-product : goal.unreachable-requires-in_default-product
unreachable-requires-in_default-product c =
    there _ (opened_nominal c.requires.next.0 c.requires.next.1 c.requires.next.2 c.args.product.now
    c.args.density c.requires.next.3.next c.requires.next.4)
    (sym (c.product.ensures.nominal c.requires.next.0 c.requires.next.3.index)
    ∙ ap (option_map (λ (terms : ProductTerms). terms.nominal)) c.in_default-product.is)

pub limits_by_density-limits-requires : goal.limits_by_density-limits-requires
limits_by_density-limits-requires c =
    let fits : FitsSigned w64 c.in-Some-product.terms.nominal = search rules in
    let is : Some c.in-Some-product.terms.nominal
    ≡ nominal_of c.requires.next.0 c.args.product.now =
    c.in-Some-product.ensures.nominal c.requires.next.0 c.requires.next.3.index in
    subst IsNominal (sym (to_z-of_z w64 c.in-Some-product.terms.nominal fits))
    (subst (λ (o : Option ℤ). IfSome o (IsBetween MIN_NOMINAL MAX_NOMINAL)) (sym is)
    (nominal_within c.requires.next.0 c.args.product.now c.requires.next.3.next.legal))

pub returns-clause-kept : goal.returns-clause-kept
returns-clause-kept c =
    λ entries entry batch enters act.
    let fits : FitsSigned w64 c.in-Some-product.terms.nominal = search rules in
    let is : Some c.in-Some-product.terms.nominal
    ≡ nominal_of entries c.args.product.now =
    c.in-Some-product.ensures.nominal entries enters.index in
    let unit : Some c.in-Some-product.terms.unit ≡ unit_of entries c.args.product.now =
    c.in-Some-product.ensures.unit entries enters.index in
    c.open_batch.ensures.kept entries entry enters.packs
    (record {
      next = enters.next;
      batch = batch;
      name = c.args.product.now;
      density = c.args.density;
      act = act;
      number = sym (c.in-Some.ensures.number entries enters.index);
      limited =
          c.limits_by_density-limits.ensures
          ∙ ap (λ (nominal : ℤ). limits_at c.density_by_unit.result (limits_of nominal))
          (to_z-of_z w64 c.in-Some-product.terms.nominal fits)
          ∙ ap (λ density. limits_at density (limits_of c.in-Some-product.terms.nominal))
          (c.density_by_unit.ensures ∙ ap
          (λ (u : Option units.Unit). density_by_unit u c.args.density) unit)
          ∙ ap (λ (n : Option ℤ). limits_at
          (density_by_unit (unit_of entries c.args.product.now) c.args.density)
          (limits_of (unwrap_or n (pos 0)))) is;
    })
