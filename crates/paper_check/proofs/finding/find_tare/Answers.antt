use Rattle.std.proofs.Common.{rules, ◌≡◌, ◌∙◌, ap, subst, sym, Some, length, ◌<◌, List, unsigned_abs, true, arith, vec_len}
use Rattle.std.specs.List.Sorted.{IsNonDecreasing}
use Rattle.pack_judge.specs.declared.tares.DatedTare.{DatedTare}
use Rattle.paper_form.specs.Papers.{is_tare_in_range}
use Rattle.paper_form.specs.Drafts.{data_of}
use Rattle.paper_form.specs.Ranges.{days_of}
use Rattle.paper_check.proofs.Lookups.{rises_on, passes_at, map_length}
use Rattle.paper_check.proofs.TareFaults.{pack_day}
use Rattle.paper_check.proofs.Found.{found_tare, no_tare}
use Rattle.paper_check.proofs.finding.find_tare.Goals as goal

pub place_of-requires : goal.place_of-requires
place_of-requires c = record {
  ascending = subst IsNonDecreasing (sym (c.deref.ensures.value ∙ c.requires.keys.days))
      (rises_on (days_of (data_of c.args.paper.now).tares) c.requires.listed.tares.ascend);
}

pub index-requires : goal.index-requires
index-requires c =
    let tares : List DatedTare = (data_of c.args.paper.now).tares in
    let long : vec_len c.args.paper.now.tares ≡ length tares = search rules in
    omega (
      arith,
      long,
      c.in-Some.ensures.0,
      ap length (c.deref.ensures.value ∙ c.requires.keys.days),
      map_length (λ (d : DatedTare). unsigned_abs d.day) tares,
    )

pub returns-in-Some-clause-value : goal.returns-in-Some-clause-value
returns-in-Some-clause-value c =
    let is : c.from.result ≡ unsigned_abs c.args.pack.now.day = search rules in
    ap (λ (d : DatedTare). Some d) c.index.ensures
    ∙ found_tare (data_of c.args.paper.now) c.deref.result.now c.args.pack.now.day c.in-Some.place
    c.from.result c.index.result.now c.requires.listed (pack_day c.args.pack.now c.requires.range)
    (c.deref.ensures.value ∙ c.requires.keys.days) is c.in-Some.ensures.0 c.in-Some.ensures.1

pub returns-in-Some-clause-range : goal.returns-in-Some-clause-range
returns-in-Some-clause-range c =
    let tares : List DatedTare = (data_of c.args.paper.now).tares in
    let within : c.in-Some.place < length tares =
    omega (
      arith,
      c.in-Some.ensures.0,
      ap length (c.deref.ensures.value ∙ c.requires.keys.days),
      map_length (λ (d : DatedTare). unsigned_abs d.day) tares,
    ) in
    subst (λ (d : DatedTare). is_tare_in_range d ≡ true) (sym c.index.ensures)
    (passes_at is_tare_in_range tares c.in-Some.place c.index.result.now
    c.requires.listed.tares.range within)

pub returns-in-None-clause-value : goal.returns-in-None-clause-value
returns-in-None-clause-value c =
    let is : c.from.result ≡ unsigned_abs c.args.pack.now.day = search rules in
    no_tare (data_of c.args.paper.now) c.deref.result.now c.args.pack.now.day c.from.result
    c.requires.listed (pack_day c.args.pack.now c.requires.range)
    (c.deref.ensures.value ∙ c.requires.keys.days) is c.in-None.ensures
