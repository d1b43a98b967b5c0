use Rattle.std.proofs.Common.{◌∙◌, sym, ap, refl, List, [], ℕ, Option}
use Rattle.std.specs.Option.{unwrap_or}
use Rattle.book_words.specs.declared.act.Act.TheVariants.{DrawSecond}
use Rattle.book_state.proofs.EntryFacts.{there, drawn_batch, is_second_draw, second_there}
use Rattle.book_state.proofs.entering.enter_second.Goals as goal

pub unreachable-requires : goal.unreachable-requires
unreachable-requires c =
    there _ (drawn_batch c.requires.next.0 c.requires.next.1
    (DrawSecond c.args.batch.now c.requires.next.2) c.args.batch.now c.requires.next.3.next
    c.requires.next.4 refl)
    (sym (c.batch_number.ensures.number c.requires.next.0 c.requires.next.3.index) ∙ c.in_default.is)

pub unreachable-requires-in_default-second : goal.unreachable-requires-in_default-second
unreachable-requires-in_default-second c =
    second_there c.requires.next.0 c.requires.next.1 c.args.batch.now c.requires.next.2
    c.requires.next.3.next c.requires.next.4
    (sym (ap (λ (o : Option (List ℕ)). unwrap_or o []) c.in_default-second.is) ∙ c.requires.next.5)

pub returns-clause-kept : goal.returns-clause-kept
returns-clause-kept c =
    λ entries entry word enters act second.
    c.enter_second.ensures.drawn entries entry enters.samples
    enters.next.legal enters.next.lawful
    (is_second_draw entries entry c.args.batch.now word
    c.in-Some.number c.in-Some-second.picks enters.next act
    (sym (c.in-Some.ensures.number entries enters.index))
    (sym (ap (λ (o : Option (List ℕ)). unwrap_or o []) c.in-Some-second.is)
    ∙ second))
