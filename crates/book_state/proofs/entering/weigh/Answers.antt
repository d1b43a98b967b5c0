use Rattle.std.proofs.Common.{◌≡◌, ◌∙◌, None, Some, refl, sym, subst}
use Rattle.book_packs.specs.declared.types.Weighing.{Weighing}
use Rattle.book_packs.specs.Entering.{IsWeighing}
use Rattle.book_state.proofs.EntryFacts.{made_of_seen}
use Rattle.book_state.proofs.entering.weigh.Goals as goal

pub unreachable-requires : goal.unreachable-requires
unreachable-requires c =
    let made = made_of_seen c.args.entries.now c.args.entry.now c.args.entry.now.act c.args.seen.now
    c.day.result c.requires.next refl c.requires.act c.requires.seen
    (c.day.ensures c.args.entries.now c.requires.index) in
    (let clash : None ≡ Some made.weighing = sym c.in_default.is ∙ c.row_weighing.ensures
    ∙ made.is in cc)

pub weigh-requires-clause-next : goal.weigh-requires-clause-next
weigh-requires-clause-next c =
    let made = made_of_seen c.args.entries.now c.args.entry.now c.args.entry.now.act c.args.seen.now
    c.day.result c.requires.next refl c.requires.act c.requires.seen
    (c.day.ensures c.args.entries.now c.requires.index) in
    let same : c.in-Some.weighing ≡ made.weighing =
    weighing_is (sym c.in-Some.is ∙ c.row_weighing.ensures ∙ made.is) in
    let entered : IsWeighing c.args.entries.now c.args.entry.now c.in-Some.weighing =
    subst (IsWeighing c.args.entries.now c.args.entry.now) (sym same) made.entered in
    record {
      entries = c.args.entries.now;
      entry = c.args.entry.now;
      stands = c.requires.packs;
      is =
          entered;
    }
  where
    weighing_is : {a b : Weighing} → Some a ≡ Some b → a ≡ b
    weighing_is h = cc

pub returns-clause-kept : goal.returns-clause-kept
returns-clause-kept c =
    let made = made_of_seen c.args.entries.now c.args.entry.now c.args.entry.now.act c.args.seen.now
    c.day.result c.requires.next refl c.requires.act c.requires.seen
    (c.day.ensures c.args.entries.now c.requires.index) in
    let same : c.in-Some.weighing ≡ made.weighing =
    weighing_is (sym c.in-Some.is ∙ c.row_weighing.ensures ∙ made.is) in
    let entered : IsWeighing c.args.entries.now c.args.entry.now c.in-Some.weighing =
    subst (IsWeighing c.args.entries.now c.args.entry.now) (sym same) made.entered in
    c.weigh.ensures.kept c.args.entries.now c.args.entry.now c.requires.packs entered
  where
    weighing_is : {a b : Weighing} → Some a ≡ Some b → a ≡ b
    weighing_is h = cc
