use Rattle.std.proofs.Common.{◌∙◌, sym, refl}
use Rattle.book_words.specs.declared.act.Act.TheVariants.{Draw}
use Rattle.book_state.proofs.EntryFacts.{there, drawn_batch, is_first_draw}
use Rattle.book_state.proofs.entering.enter_first.Goals as goal

pub unreachable-requires : goal.unreachable-requires
unreachable-requires c =
    there _ (drawn_batch c.requires.next.0 c.requires.next.1
    (Draw c.args.batch.now c.requires.next.2 c.requires.next.3) c.args.batch.now c.requires.next.4.next
    c.requires.next.5 refl)
    (sym (c.batch_number.ensures.number c.requires.next.0 c.requires.next.4.index) ∙ c.in_default.is)

pub returns-clause-kept : goal.returns-clause-kept
returns-clause-kept c =
    λ entries entry mode word enters act first.
    c.enter_first.ensures.drawn entries entry enters.samples
    enters.next.legal enters.next.lawful
    (is_first_draw entries entry c.args.batch.now mode
    word c.in-Some.number c.in-Some-first.sample act
    (sym (c.in-Some.ensures.number entries enters.index))
    (sym c.in-Some-first.is ∙ first))
