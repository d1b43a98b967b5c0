use Rattle.std.proofs.Common.{◌≡◌, ◌∙◌, ◌+◌, ℕ, List, length, unsigned_abs, IsPermutation, sym, ap, subst, arith, rules, vec_len}
use Rattle.std.specs.List.{position_from}
use Rattle.std.specs.List.Sorted.{IsNonDecreasing}
use Rattle.pack_judge.specs.declared.tares.DatedTare.{DatedTare}
use Rattle.paper_form.specs.declared.types.Pack as packs
use Rattle.paper_form.specs.Drafts.{data_of}
use Rattle.paper_check.specs.Keys.{is_missing}
use Rattle.paper_form.specs.Ranges.{days_of}
use Rattle.paper_check.specs.Keyed.{pack_days_of}
use Rattle.paper_check.specs.Faults.{packs_line}
use Rattle.paper_check.proofs.Lookups.{rises_on, map_length}
use Rattle.paper_check.proofs.TareFaults.{unused_is, tareless_is, fault_of_tare, fault_of_pack}
use Rattle.paper_check.proofs.tares.find_tare_fault.Goals as goal

pub first_missing-requires-clause-ascending : goal.first_missing-requires-clause-ascending
first_missing-requires-clause-ascending c =
    subst IsNonDecreasing (sym c.deref-4.ensures.value) c.in_ok-sorted.ensures.ascending

pub first_missing-requires-clause-few : goal.first_missing-requires-clause-few
first_missing-requires-clause-few c =
    omega (
      arith,
      c.requires.short,
      ap length (c.deref-3.ensures.value ∙ c.requires.keys.days),
      map_length (λ (dated : DatedTare). unsigned_abs dated.day) (data_of c.args.paper.now).tares,
    )

pub overflow_cast-packs_line : goal.overflow_cast-packs_line
overflow_cast-packs_line c =
    let long : vec_len c.args.paper.now.tares ≡ length (data_of c.args.paper.now).tares =
    search rules in
    record { fits = omega (arith, c.requires.short, c.len.ensures, long) }

pub overflow_add-packs_line : goal.overflow_add-packs_line
overflow_add-packs_line c =
    let long : vec_len c.args.paper.now.tares ≡ length (data_of c.args.paper.now).tares =
    search rules in
    record { fits = omega (arith, c.requires.short, c.len.ensures, long) }

pub first_missing-requires-2-clause-few : goal.first_missing-requires-2-clause-few
first_missing-requires-2-clause-few c =
    let paper = data_of c.args.paper.now in
    let long : vec_len c.args.paper.now.tares ≡ length paper.tares = search rules in
    omega (
      arith,
      c.requires.short,
      c.len.ensures,
      long,
      ap length (c.deref-5.ensures.value ∙ c.in_ok-pack_days.ensures
          ∙ ap pack_days_of c.deref.ensures.value),
      map_length (λ (pack : packs.Pack). unsigned_abs pack.day) paper.packs,
    )

pub returns-in-Some : goal.returns-in-Some
returns-in-Some c =
    let paper = data_of c.args.paper.now in
    let sorted : List ℕ = c.in_ok-sorted.sorted.items in
    let permuted : IsPermutation (pack_days_of paper.packs) sorted =
    subst (λ (xs : List ℕ). IsPermutation xs sorted)
    (c.deref-2.ensures.value ∙ c.in_ok-pack_days.ensures ∙ ap pack_days_of c.deref.ensures.value)
    c.in_ok-sorted.ensures.same in
    fault_of_tare paper c.first_missing.result c.in-Some.line
    (c.first_missing.ensures
    ∙ ap (λ (s : List ℕ). position_from (is_missing s) 3 c.deref-3.result.now)
    c.deref-4.ensures.value
    ∙ unused_is paper sorted c.deref-3.result.now c.requires.listed permuted
    (c.deref-3.ensures.value ∙ c.requires.keys.days)) c.in-Some.is

pub first_missing-requires-2-clause-ascending : goal.first_missing-requires-2-clause-ascending
first_missing-requires-2-clause-ascending c =
    let paper = data_of c.args.paper.now in
    subst IsNonDecreasing (sym (c.deref-6.ensures.value ∙ c.requires.keys.days))
    (rises_on (days_of paper.tares) c.requires.listed.tares.ascend)

pub returns : goal.returns
returns c =
    let paper = data_of c.args.paper.now in
    let sorted : List ℕ = c.in_ok-sorted.sorted.items in
    let are : c.in_ok-pack_days.pack_days.items ≡ pack_days_of paper.packs =
    c.in_ok-pack_days.ensures ∙ ap pack_days_of c.deref.ensures.value in
    let permuted : IsPermutation (pack_days_of paper.packs) sorted =
    subst (λ (xs : List ℕ). IsPermutation xs sorted) (c.deref-2.ensures.value ∙ are)
    c.in_ok-sorted.ensures.same in
    let long : vec_len c.args.paper.now.tares ≡ length paper.tares = search rules in
    let at : 3 + c.len.result ≡ packs_line paper = omega (arith, c.len.ensures, long) in
    fault_of_pack paper c.first_missing.result c.first_missing-2.result
    (c.first_missing.ensures
    ∙ ap (λ (s : List ℕ). position_from (is_missing s) 3 c.deref-3.result.now)
    c.deref-4.ensures.value
    ∙ unused_is paper sorted c.deref-3.result.now c.requires.listed permuted
    (c.deref-3.ensures.value ∙ c.requires.keys.days)) c.in_default.is
    (c.first_missing-2.ensures
    ∙ tareless_is paper c.deref-6.result.now c.deref-5.result.now
    (3 + c.len.result) c.requires.listed
    (c.deref-6.ensures.value ∙ c.requires.keys.days) (c.deref-5.ensures.value ∙ are) at)
