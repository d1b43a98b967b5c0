use Rattle.std.proofs.Common.{◌∙◌, sym, subst, refl}
use Rattle.book_packs.specs.Entering.{IsDraw}
use Rattle.book_state.proofs.EntryFacts.{there, drawn_batch, is_draw}
use Rattle.book_state.proofs.entering.draw.Goals as goal

pub unreachable-requires : goal.unreachable-requires
unreachable-requires c =
    there _ (drawn_batch c.requires.next.0 c.requires.next.1 c.requires.next.1.act c.args.batch.now
    c.requires.next.2.next refl c.requires.next.3)
    (sym (c.batch_number.ensures.number c.requires.next.0 c.requires.next.2.index) ∙ c.in_default.is)

pub draw-requires : goal.draw-requires
draw-requires c =
    record {
      next = record {
        entries = c.requires.next.0;
        entry = c.requires.next.1;
        stands = c.requires.next.2.packs;
        is = subst (IsDraw c.requires.next.0 c.requires.next.1 c.in-Some.number) (sym c.picks.ensures)
            (is_draw c.requires.next.0 c.requires.next.1 c.args.batch.now c.in-Some.number
            c.args.drawn.now c.requires.next.2.next c.requires.next.3
            (sym (c.in-Some.ensures.number c.requires.next.0 c.requires.next.2.index))
            c.requires.next.4);
      };
    }

pub returns-clause-kept : goal.returns-clause-kept
returns-clause-kept c =
    λ entries entry enters act drawn.
    c.draw.ensures.kept entries entry enters.packs
    (subst (IsDraw entries entry c.in-Some.number) (sym c.picks.ensures)
    (is_draw entries entry c.args.batch.now c.in-Some.number c.args.drawn.now
    enters.next act
    (sym (c.in-Some.ensures.number entries enters.index)) drawn))
