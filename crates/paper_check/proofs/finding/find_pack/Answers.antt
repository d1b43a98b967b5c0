use Rattle.std.proofs.Common.{rules, ◌≡◌, ◌∙◌, ◌<◌, true, ap, subst, sym, Some, length, arith, vec_len}
use Rattle.std.specs.List.Sorted.{IsNonDecreasing}
use Rattle.paper_form.specs.declared.types.Pack as packs
use Rattle.paper_form.specs.Papers.{is_pack_in_range}
use Rattle.paper_form.specs.Drafts.{data_of}
use Rattle.paper_form.specs.Ranges.{numbers_of}
use Rattle.paper_check.specs.Judging.{pack_with}
use Rattle.paper_check.proofs.Lookups.{rises_on, passes_at, map_length}
use Rattle.paper_check.proofs.Found.{found_pack, no_pack}
use Rattle.paper_check.proofs.finding.find_pack.Goals as goal

pub place_of-requires : goal.place_of-requires
place_of-requires c = record {
  ascending = subst IsNonDecreasing (sym (c.deref.ensures.value ∙ c.requires.keys.numbers))
      (rises_on (numbers_of (data_of c.args.paper.now).packs) c.requires.listed.packs.ascend);
}

pub index-requires : goal.index-requires
index-requires c =
    let long : vec_len c.args.paper.now.packs ≡ length (data_of c.args.paper.now).packs =
    search rules in
    omega (
      arith,
      long,
      c.in-Some.ensures.0,
      ap length (c.deref.ensures.value ∙ c.requires.keys.numbers),
      map_length (λ (pack : packs.Pack). pack.number) (data_of c.args.paper.now).packs,
    )

pub returns-in-Some-clause-range : goal.returns-in-Some-clause-range
returns-in-Some-clause-range c =
    let all = (data_of c.args.paper.now).packs in
    let inside : c.in-Some.place < length all =
    omega (
      arith,
      c.in-Some.ensures.0,
      ap length (c.deref.ensures.value ∙ c.requires.keys.numbers),
      map_length (λ (pack : packs.Pack). pack.number) all,
    ) in
    subst (λ (pack : packs.Pack). is_pack_in_range pack ≡ true) (sym c.index.ensures)
    (passes_at is_pack_in_range all c.in-Some.place c.index.result.now c.requires.listed.packs.range
    inside)

pub returns-in-Some-clause-value : goal.returns-in-Some-clause-value
returns-in-Some-clause-value c =
    ap (λ (p : packs.Pack). Some p) c.index.ensures
    ∙ found_pack (data_of c.args.paper.now) c.deref.result.now c.in-Some.place c.from.result
    c.index.result.now c.requires.listed (c.deref.ensures.value ∙ c.requires.keys.numbers)
    c.in-Some.ensures.0 c.in-Some.ensures.1
    ∙ ap (pack_with (data_of c.args.paper.now).packs) c.from.ensures

pub returns-in-None-clause-value : goal.returns-in-None-clause-value
returns-in-None-clause-value c =
    no_pack (data_of c.args.paper.now) c.deref.result.now c.from.result
    (c.deref.ensures.value ∙ c.requires.keys.numbers) c.in-None.ensures
    ∙ ap (pack_with (data_of c.args.paper.now).packs) c.from.ensures
