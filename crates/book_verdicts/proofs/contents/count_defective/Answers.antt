use Rattle.std.proofs.Common.{rules, FitsSigned, w64, ◌≡◌, ◌∙◌, sym, ap, arith, ◌+◌, ◌≤◌, Bool, true, false, cond, take, refl}
use mir.Val.{bool_byte}
use Rattle.book_words.specs.Measures.{defective_count}
use Rattle.std.proofs.lemmas.Int.{to_z-of_z}
use Rattle.annex_tables.specs.declared.types.Limits.{Limits}
use Rattle.book_verdicts.proofs.BatchFacts.{told_limits}
use Rattle.book_verdicts.proofs.ContentsLemmas.{defective-more}
use Rattle.book_verdicts.proofs.contents.count_defective.Goals as goal

one_if : (b : Bool) → bool_byte b ≡ cond b 1 0
one_if true = refl
one_if false = refl

at_most_one : (b : Bool) → bool_byte b ≤ 1
at_most_one true = omega arith
at_most_one false = omega arith

pub loop-pack-preserved : goal.loop-pack-preserved
loop-pack-preserved c =
    let entries = c.args.state.now.entries in
    let packs = c.args.packs.now in
    let place = c.loop-pack.pack-index in
    let step = c.from-count.ensures in
    let one = at_most_one c.is_defective.result in
    let fits : FitsSigned w64 c.in-Some.limits.t1 = search rules in
    let limited = to_z-of_z w64 c.in-Some.limits.t1 fits ∙ ap (λ (limits : Limits). limits.t1)
    (told_limits _ _ c.in-Some.limits (sym c.in-Some.is ∙ c.limits.ensures)) in
    let before = c.loop-pack.invariant.0 in (
      omega (arith, step, one, before),
      ap (λ n. n + c.from-count.result) c.loop-pack.invariant.1
          ∙ ap (λ n. defective_count entries c.args.batch.now c.args.mode (take place packs) + n)
          (c.from-count.ensures ∙ one_if c.is_defective.result
          ∙ ap (λ b. cond b 1 0) (c.is_defective.ensures c.args.batch.now limited))
          ∙ sym (defective-more entries c.args.batch.now c.args.mode packs place 0
          c.loop-pack-test.true),
    )
