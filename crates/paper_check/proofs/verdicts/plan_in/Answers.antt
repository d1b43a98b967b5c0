use Rattle.std.proofs.Common.{rules, ◌≡◌, ◌∙◌, ap, arith, length, map, vec_len}
use Rattle.annex_tables.specs.Plans.{plan_of}
use Rattle.book_words.specs.Samples.{plan_or_empty}
use Rattle.paper_form.specs.declared.types.Pack as packs
use Rattle.paper_form.specs.Drafts.{data_of}
use Rattle.paper_check.proofs.Lookups.{map_length}
use Rattle.paper_check.proofs.verdicts.plan_in.Goals as goal

pub returns-clause-value : goal.returns-clause-value
returns-clause-value c =
    let paper = data_of c.args.paper.now in
    let long : vec_len c.args.paper.now.packs ≡ length paper.packs = search rules in
    let count : c.len.result ≡ length (map (λ (pack : packs.Pack). pack.number) paper.packs) =
    omega (
      arith,
      c.len.ensures,
      long,
      map_length
          (λ (pack : packs.Pack). pack.number) paper.packs,
    ) in
    c.plan_or_none.ensures.value ∙ ap (λ n. plan_or_empty (plan_of n c.args.draw.now.mode)) count
